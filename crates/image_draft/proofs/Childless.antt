-- A class that is the superclass of none: it stands on no chain but its own, so its own variables decide whether one stands twice.
use Rattle.std.proofs.Common.{◌≡◌, ℕ, zero, suc, ◌<◌, Bool, true, false, not, cond, List, [], ◌∷◌, ◌++◌, length, filter, is_some, Contains, Option, Some, None, IfSome, slice_get, nat_eq, refl, sym, ap, subst, ◌∙◌, true≢false, arith}
use Rattle.std.specs.Prelude.{◌||◌, if◌then◌else◌, drop, unwrap_or}
use Rattle.std.specs.List.{list_any, AllByRecursion}
use Rattle.std.specs.List.Sorted.{IsPermutation}
use Rattle.std.specs.Option.{option_map_or}
use Rattle.std.proofs.lemmas.List.Sorted.{IsPermutation-cons, IsPermutation-sym, IsPermutation-to_front}
use Rattle.std.proofs.lemmas.Option.{slice_get_within}
use Rattle.image_model.specs.Image.{ClassOf}
use Rattle.image_model.specs.Chain.{class_named, superclass_of, chain_from, chain}
use Rattle.image_model.specs.Means.{VariableKind, of_instance, of_class_side, variables}
use Rattle.image_model.specs.Valid.{class_names}
use Rattle.image_model.proofs.Ends.{find-place}
use Rattle.image_model.proofs.GrownLemmas.{SuperclassesStandBefore-end}
use Rattle.image_model.proofs.Lists.{all-implies}
use Rattle.image_model.proofs.UpwardsLemmas.{upwards-none}
use Rattle.file_model.specs.Changes.{DefinitionOf}
use Rattle.file_model.specs.Hierarchy.{has_class, has_subclass, has_repeat, stands_in, stands_twice}
use Rattle.file_model.specs.Applied.{changed_class, class_again, new_class, with_definition, defined}
use Rattle.file_laws.proofs.Below.{twice_moved}
use Rattle.file_laws.proofs.Defined.{has_stands}
use Rattle.file_laws.proofs.Redefined.{name_at_place}
use Rattle.file_laws.proofs.Repeats.{none_pass}
use Rattle.file_laws.proofs.Sound.{All-filter}
use Rattle.image_draft.specs.NameSets.{has}
use Rattle.image_draft.specs.Alone.{IsChildless}
use Rattle.image_draft.specs.Names.{NamesDiffer, AreOrdered}
use Rattle.image_draft.specs.Once.{NoneTwice, AreSound}
use Rattle.image_draft.specs.Owners.{is_noted_for, AreNoted, AreAlone, IsUnderNoted}
use Rattle.image_draft.specs.Table.{place_in}
use Rattle.image_draft.specs.declared.owners.VariableOwners.{VariableOwners}
use Rattle.image_draft.proofs.Alone.{alone_of, new_once}
use Rattle.image_draft.proofs.Beside.{finds, filtered_pass, clear_above}
use Rattle.image_draft.proofs.Differ.{NamesDiffer-changed, NamesDiffer-last}
use Rattle.image_draft.proofs.MethodClasses.{named}
use Rattle.image_draft.proofs.Numbers.{nat_itself, nat_equal}
use Rattle.image_draft.proofs.Ordered.{IsLet, once_of, lacks_none, cycle_none, removed_ordered, removed_kept}
use Rattle.image_draft.proofs.Owned.{IsNotedOf, changed_each}
use Rattle.image_draft.proofs.Places.{placed, changed-none}
use Rattle.image_draft.proofs.Sound.{all_left, moved, none_stands, own_chain, removed_once}

-- whether a class has the superclass of a name
abbrev pub is_under : ℕ → ClassOf ℕ → Bool
is_under n c = option_map_or (nat_eq n) c.superclass false

-- a name that is noted for no superclass is that of none
pub unnoted_childless : (names : List Bool) (cs : List (ClassOf ℕ)) (n : ℕ) → AllByRecursion (IsUnderNoted names) cs → has names n ≡ false → has_subclass nat_eq cs n ≡ false
unnoted_childless names cs n noted absent = none_stands (is_under n) cs (all-implies (IsUnderNoted names) (λ (c : ClassOf ℕ). is_under n c ≡ false) (λ c h. by c.superclass h) cs noted)
  where
    at : (s : ℕ) → has names s ≡ true → (b : Bool) → nat_eq n s ≡ b → b ≡ false
    at s h false e = refl
    at s h true e = absurd (true≢false (sym h ∙ ap (has names) (sym (nat_equal n s e)) ∙ absent))

    by : (o : Option ℕ) → option_map_or (has names) o true ≡ true → option_map_or (nat_eq n) o false ≡ false
    by None h = refl
    by (Some s) h = at s h (nat_eq n s) refl

-- whether an item passes, where none does in front of a place
any_behind : {X : Type 0} (q : X → Bool) (xs : List X) (k : ℕ) → ((j : ℕ) (x : X) → j < k → slice_get xs j ≡ Some x → q x ≡ false) → list_any q (drop k xs) ≡ list_any q xs
any_behind q [] zero f = refl
any_behind q [] (suc k) f = refl
any_behind q (x ∷ xs) zero f = refl
any_behind q (x ∷ xs) (suc k) f = any_behind q xs k (λ j y less at. f (suc j) y (omega (arith, less)) at) ∙ ap (λ (b : Bool). b || list_any q xs) (sym (f 0 x (omega arith) refl))

-- the classes below a class stand behind it
pub subclass_behind : (cs : List (ClassOf ℕ)) → AreOrdered cs → (n : ℕ) → list_any (is_under n) (drop (unwrap_or (place_in cs n) 0) cs) ≡ has_subclass nat_eq cs n
subclass_behind cs o n = by (place_in cs n) refl
  where
    in_front : (k : ℕ) → place_in cs n ≡ Some k → (j : ℕ) (c : ClassOf ℕ) → j < k → slice_get cs j ≡ Some c → is_under n c ≡ false
    in_front k here j c less at = above c.superclass refl
      where
        its : (x : ClassOf ℕ) × (slice_get cs k ≡ Some x) × (nat_eq n x.name ≡ true)
        its = placed (λ (x : ClassOf ℕ). nat_eq n x.name) cs k here

        under : (s : ℕ) → c.superclass ≡ Some s → (b : Bool) → nat_eq n s ≡ b → b ≡ false
        under s e false q = refl
        under s e true q =
            let up = o.before j c s at e in
            let same : up.0 ≡ k = once_of cs o.differ up.0 k n (up.2 ∙ ap Some (sym (nat_equal n s q))) (name_at_place cs k its.0 its.1 ∙ ap Some (sym (nat_equal n its.0.name its.2))) in
            let higher : up.0 < j = up.1 in
            absurd (omega (arith, less, same, higher))

        above : (q : Option ℕ) → c.superclass ≡ q → option_map_or (nat_eq n) q false ≡ false
        above None e = refl
        above (Some s) e = under s e (nat_eq n s) refl

    by : (q : Option ℕ) → place_in cs n ≡ q → list_any (is_under n) (drop (unwrap_or q 0) cs) ≡ has_subclass nat_eq cs n
    by None e = refl
    by (Some k) e = any_behind (is_under n) cs k (in_front k e)

-- a class that is the superclass of none stands on a chain where that begins with it
pub childless_chain : (cs : List (ClassOf ℕ)) (n : ℕ) → IsChildless cs n → (s : Option ℕ) → stands_in nat_eq n (chain nat_eq cs s) ≡ option_map_or (nat_eq n) s false
childless_chain cs n c None = ap (stands_in nat_eq n) (upwards-none (superclass_of nat_eq cs) (length cs))
childless_chain cs n c (Some m) = by (nat_eq n m) refl
  where
    own : (q : Option (ClassOf ℕ)) → class_named nat_eq cs n ≡ q → is_some q ≡ true → stands_in nat_eq n (chain_from nat_eq cs q) ≡ true
    own None e h = absurd (true≢false (sym h))
    own (Some x) e h =
        let at = find-place (λ (y : ClassOf ℕ). nat_eq n y.name) cs x e in
        let within : at.0 < length cs = slice_get_within cs at.0 x at.1 in
        ap (λ (k : ℕ). stands_in nat_eq k (chain_from nat_eq cs (Some x))) (nat_equal n x.name (finds (λ (y : ClassOf ℕ). nat_eq n y.name) cs x e)) ∙ own_chain cs (length cs) x (omega (arith, within))

    by : (b : Bool) → nat_eq n m ≡ b → stands_in nat_eq n (chain nat_eq cs (Some m)) ≡ b
    by false e = clear_above n cs c.none m e
    by true e = ap (λ (k : ℕ). stands_in nat_eq n (chain nat_eq cs (Some k))) (sym (nat_equal n m e)) ∙ own (class_named nat_eq cs n) refl c.there

-- the class of a name that is the superclass of none is changed, and has another superclass than itself
module _ (t : VariableOwners) (kind : VariableKind) (cs : List (ClassOf ℕ)) (o : AreOrdered cs) (noted : AreNoted t kind cs) (none : NoneTwice cs kind) (n : ℕ) (free : has_subclass nat_eq cs n ≡ false) (c : ClassOf ℕ) (found : class_named nat_eq cs n ≡ Some c)
    (g : ClassOf ℕ → ClassOf ℕ) (keeps : (x : ClassOf ℕ) → (g x).name ≡ x.name) (under : (m : ℕ) → (g c).superclass ≡ Some m → (nat_eq n m ≡ false) × (has_class nat_eq cs m ≡ true))
    (alone : AreAlone t (g c).name (variables kind (g c))) (once : has_repeat nat_eq (variables kind (g c)) ≡ false) where
  abbrev others : List (ClassOf ℕ) → List (ClassOf ℕ)
  others xs = filter (λ (x : ClassOf ℕ). not (nat_eq n x.name)) xs

  -- the classes are those of other names and it
  last : (xs : List (ClassOf ℕ)) → NamesDiffer xs → class_named nat_eq xs n ≡ Some c → IsPermutation (changed_class nat_eq n g xs) (others xs ++ g c ∷ [])
  last [] differ e = absurd (cc)
  last (x ∷ xs) differ e = by (nat_eq n x.name) refl e (last xs differ.1)
    where
      by : (b : Bool) → nat_eq n x.name ≡ b → cond b (Some x) (class_named nat_eq xs n) ≡ Some c → (class_named nat_eq xs n ≡ Some c → IsPermutation (changed_class nat_eq n g xs) (others xs ++ g c ∷ []))
          → IsPermutation ((if b then g x else x) ∷ changed_class nat_eq n g xs) (cond (not b) (x ∷ others xs) (others xs) ++ g c ∷ [])
      by true q h rest =
          let same : x ≡ c = cc in
          let absent : has_class nat_eq xs n ≡ false = ap (has_class nat_eq xs) (nat_equal n x.name q) ∙ differ.0 in
          subst (λ (ys : List (ClassOf ℕ)). IsPermutation (g x ∷ ys) (others xs ++ g c ∷ [])) (sym (changed-none n g xs absent))
          (subst (λ (ys : List (ClassOf ℕ)). IsPermutation (g x ∷ xs) (ys ++ g c ∷ [])) (sym (all_left n xs absent))
          (subst (λ (y : ClassOf ℕ). IsPermutation (g x ∷ xs) (xs ++ g y ∷ [])) same (IsPermutation-sym (xs ++ g x ∷ []) (g x ∷ xs) (IsPermutation-to_front xs (g x)))))
      by false q h rest = IsPermutation-cons x (changed_class nat_eq n g xs) (others xs ++ g c ∷ []) (rest h)

  others_ordered : AreOrdered (others cs)
  others_ordered = removed_ordered n cs free o

  absent : has_class nat_eq (others cs) (g c).name ≡ false
  absent =
      ap (has_class nat_eq (others cs)) (keeps c ∙ sym (nat_equal n c.name (finds (λ (x : ClassOf ℕ). nat_eq n x.name) cs c found)))
      ∙ has_stands nat_eq nat_itself nat_equal (others cs) n
      ∙ none_stands (λ (x : ClassOf ℕ). nat_eq n x.name) (others cs)
      (all-implies (λ (x : ClassOf ℕ). not (nat_eq n x.name) ≡ true) (λ (x : ClassOf ℕ). nat_eq n x.name ≡ false) (λ x h. by (nat_eq n x.name) h) (others cs) (filtered_pass (λ (x : ClassOf ℕ). not (nat_eq n x.name)) cs))
    where
      by : (b : Bool) → not b ≡ true → b ≡ false
      by true h = absurd (true≢false (sym h))
      by false h = refl

  above_there : (m : ℕ) → (g c).superclass ≡ Some m → Contains (class_names (others cs)) m
  above_there m e = let parts = under m e in named (others cs) m (removed_kept n cs m parts.0 parts.1)

  last_ordered : AreOrdered (others cs ++ g c ∷ [])
  last_ordered = record {
    differ = NamesDiffer-last (others cs) (g c) absent others_ordered.differ;
    before = SuperclassesStandBefore-end nat_eq nat_itself (others cs) (g c) others_ordered.before above_there;
  }

  pub childless_once : NoneTwice (changed_class nat_eq n g cs) kind
  childless_once = λ m.
      twice_moved nat_eq nat_itself nat_equal (changed_class nat_eq n g cs) (others cs ++ g c ∷ []) (last cs o.differ found) (once_of (changed_class nat_eq n g cs) (NamesDiffer-changed n g keeps cs o.differ)) kind m
      ∙ new_once t kind (others cs) (g c) others_ordered last_ordered (All-filter (IsNotedOf t kind) (λ (x : ClassOf ℕ). not (nat_eq n x.name)) cs noted) (removed_once n cs free o kind none) alone once m

not_lacking : (b : Bool) → not b ≡ false → b ≡ true
not_lacking true h = refl
not_lacking false h = absurd (true≢false h)

-- a definition of such a class that the classes before it do not refuse
module _ (cs : List (ClassOf ℕ)) (d : DefinitionOf ℕ) (let_in : IsLet cs d) (childless : IsChildless cs d.name) where
  other_above : option_map_or (nat_eq d.name) d.superclass false ≡ false
  other_above = sym (childless_chain cs d.name childless d.superclass) ∙ cycle_none cs d let_in

  above_is : (m : ℕ) → d.superclass ≡ Some m → (nat_eq d.name m ≡ false) × (has_class nat_eq cs m ≡ true)
  above_is m e =
      let other : nat_eq d.name m ≡ false = sym (ap (λ (o : Option ℕ). option_map_or (nat_eq d.name) o false) e) ∙ other_above in
      (other, not_lacking (has_class nat_eq cs m) (sym (ap (λ (o : Option ℕ). option_map_or (λ (p : ℕ). not (has_class nat_eq cs p)) o false) e) ∙ lacks_none cs d let_in))

  again : (kernel : Bool) → with_definition nat_eq kernel d cs ≡ changed_class nat_eq d.name (class_again d) cs
  again kernel = ap (λ (b : Bool). if b then changed_class nat_eq d.name (class_again d) cs else cs ++ new_class kernel d ∷ []) childless.there

  -- it is still the superclass of none
  pub still_childless : (kernel : Bool) → has_subclass nat_eq (with_definition nat_eq kernel d cs) d.name ≡ false
  still_childless kernel =
      ap (λ (ds : List (ClassOf ℕ)). has_subclass nat_eq ds d.name) (again kernel)
      ∙ none_stands (is_under d.name) (changed_class nat_eq d.name (class_again d) cs) (changed_each (λ (c : ClassOf ℕ). is_under d.name c ≡ false) d.name (class_again d) (λ c e h. other_above) cs (none_pass (is_under d.name) cs childless.none))

  module _ (new : List (ClassOf ℕ)) (kernel : Bool) (n : ℕ) (s : AreSound cs) (is : new ≡ defined nat_eq kernel d cs) (same : n ≡ d.name) (t : VariableOwners) where
    free_of : (kind : VariableKind) → NoneTwice cs kind → AreNoted t kind cs → (c : ClassOf ℕ) → class_named nat_eq cs d.name ≡ Some c → AreAlone t d.name (variables kind (class_again d c)) → has_repeat nat_eq (variables kind (class_again d c)) ≡ false
        → stands_twice nat_eq new kind n ≡ false
    free_of kind none noted c found alone once =
        (λ i. stands_twice nat_eq (is i) kind (same i)) ∙ sym (moved cs d kernel s.order let_in kind none d.name) ∙ ap (λ (ds : List (ClassOf ℕ)). stands_twice nat_eq ds kind d.name) (again kernel)
        ∙ childless_once t kind cs s.order noted none d.name childless.none c found (class_again d) (λ x. refl) above_is
        (subst (λ (m : ℕ). AreAlone t m (variables kind (class_again d c))) (nat_equal d.name c.name (finds (λ (x : ClassOf ℕ). nat_eq d.name x.name) cs c found)) alone) once d.name

    -- no instance variable stands twice where no other class has one of its own
    pub childless_instance : AreNoted t of_instance cs → AllByRecursion (λ m. is_noted_for t d.name m ≡ true) d.instance → list_any (has t.shared) d.instance ≡ false → has_repeat nat_eq d.instance ≡ false → stands_twice nat_eq new of_instance n ≡ false
    childless_instance noted its unshared once = by (class_named nat_eq cs d.name) refl childless.there
      where
        by : (q : Option (ClassOf ℕ)) → class_named nat_eq cs d.name ≡ q → is_some q ≡ true → stands_twice nat_eq new of_instance n ≡ false
        by None e h = absurd (true≢false (sym h))
        by (Some c) e h = free_of of_instance s.instance noted c e (alone_of t d.name d.instance unshared its) once

    -- and no class-instance variable where it has none
    pub childless_class_side : AreNoted t of_class_side cs → IfSome (class_named nat_eq cs d.name) (λ (c : ClassOf ℕ). c.class_side ≡ []) → stands_twice nat_eq new of_class_side n ≡ false
    childless_class_side noted plain = by (class_named nat_eq cs d.name) refl childless.there plain
      where
        by : (q : Option (ClassOf ℕ)) → class_named nat_eq cs d.name ≡ q → is_some q ≡ true → IfSome q (λ (c : ClassOf ℕ). c.class_side ≡ []) → stands_twice nat_eq new of_class_side n ≡ false
        by None e h p = absurd (true≢false (sym h))
        by (Some c) e h p = free_of of_class_side s.class_side noted c e (subst (AreAlone t d.name) (sym p) tt) (ap (has_repeat nat_eq) p)
