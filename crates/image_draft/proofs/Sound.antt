-- No variable stands twice on a chain where none did and none does below the class that is changed.
use Rattle.std.proofs.Common.{◌≡◌, ℕ, zero, suc, ◌<◌, Bool, true, false, not, cond, List, [], ◌∷◌, ◌++◌, length, map, filter, Option, Some, None, slice_get, nat_eq, refl, sym, ap, subst, ◌∙◌, true≢false, arith}
use Rattle.std.specs.Prelude.{◌||◌, if◌then◌else◌, is_some}
use Rattle.std.specs.List.{list_any, flat_map, AllByRecursion}
use Rattle.std.specs.Option.{option_and_then}
use Rattle.std.proofs.lemmas.Option.{slice_get_within}
use Rattle.image_model.specs.Image.{ClassOf}
use Rattle.image_model.specs.ImageNames.{OptionNames}
use Rattle.image_model.specs.Upwards.{upwards}
use Rattle.image_model.specs.Chain.{class_named, class_of_name, superclass_of, chain_from, chain}
use Rattle.image_model.specs.Means.{VariableKind, of_instance, of_class_side, of_class, variables}
use Rattle.image_model.specs.Replaced.{KeepsHierarchy}
use Rattle.image_model.specs.Valid.{class_names}
use Rattle.image_model.proofs.ChainLemmas.{superclass_before}
use Rattle.image_model.proofs.Ends.{all-at, find-place}
use Rattle.image_model.proofs.Kept.{chain_from-kept}
use Rattle.image_model.proofs.Lists.{find-all, all-implies}
use Rattle.image_model.proofs.UpwardsLemmas.{upwards-all}
use Rattle.file_model.specs.Causes.{Cause, Condition, when, first_cause, VariableTwice, TooMany}
use Rattle.file_model.specs.Changes.{DefinitionOf}
use Rattle.file_model.specs.Hierarchy.{has_class, has_subclass, has_repeat, stands_in, chain_variables, stands_twice}
use Rattle.file_model.specs.Applied.{changed_class, class_again, new_class, with_definition, with_comment, with_class_side, defined}
use Rattle.file_laws.proofs.Below.{defined_twice}
use Rattle.file_laws.proofs.Redefined.{named_at}
use Rattle.file_laws.proofs.Defined.{has_stands}
use Rattle.file_laws.proofs.Refused.{first_none}
use Rattle.file_laws.proofs.Repeats.{none_pass}
use Rattle.file_laws.proofs.Sound.{All-filter}
use Rattle.image_draft.specs.Names.{NamesDiffer, AreOrdered}
use Rattle.image_draft.specs.Early.{late_refusals, late_side_refusals}
use Rattle.image_draft.specs.Table.{place_in}
use Rattle.image_draft.specs.Once.{NoneTwice, AreSound, KeepsChains, KeepsSide}
use Rattle.image_draft.proofs.Numbers.{nat_itself, nat_equal}
use Rattle.image_draft.proofs.Beside.{or_false, finds, all_place, all_places, IsBeside, first_other, chain_outside, changed_beside, new_beside, without_beside, without_clear}
use Rattle.image_draft.proofs.Ordered.{IsLet, once_of, order_of, lacks_none, cycle_none, defined_ordered, changed_ordered, removed_ordered}
use Rattle.image_draft.proofs.ClassPlaces.{find_place}
use Rattle.image_draft.proofs.Places.{placed, changed-none}

-- no variable of a kind stands twice on the chain of a class
abbrev pub Once : List (ClassOf ℕ) → VariableKind → ClassOf ℕ → Type 0
Once cs kind c = has_repeat nat_eq (chain_variables nat_eq cs kind c) ≡ false

-- no item passes both tests
pub never_both : {X : Type 0} (q p : X → Bool) (xs : List X) → list_any q (filter p xs) ≡ false → AllByRecursion (λ x. p x ≡ true → q x ≡ false) xs
never_both q p [] h = tt
never_both {X} q p (x ∷ xs) h = by (p x) refl h (never_both q p xs)
  where
    by : (b : Bool) → p x ≡ b → list_any q (cond b (x ∷ filter p xs) (filter p xs)) ≡ false → (list_any q (filter p xs) ≡ false → AllByRecursion (λ y. p y ≡ true → q y ≡ false) xs)
        → (p x ≡ true → q x ≡ false) × AllByRecursion (λ y. p y ≡ true → q y ≡ false) xs
    by true e k rest = let parts = or_false (q x) (list_any q (filter p xs)) k in ((λ passes. parts.0), rest parts.1)
    by false e k rest = ((λ passes. absurd (true≢false (sym passes ∙ e))), rest k)

-- where no item passes, none of those that pass another test does
none_any : {X : Type 0} (q p : X → Bool) (xs : List X) → AllByRecursion (λ x. q x ≡ false) xs → list_any q (filter p xs) ≡ false
none_any q p [] all = refl
none_any q p (x ∷ xs) all = by (p x) (none_any q p xs all.1)
  where
    by : (b : Bool) → list_any q (filter p xs) ≡ false → list_any q (cond b (x ∷ filter p xs) (filter p xs)) ≡ false
    by true rest = ap (λ b. b || list_any q (filter p xs)) all.0 ∙ rest
    by false rest = rest

-- a class stands on its own chain
pub own_chain : (cs : List (ClassOf ℕ)) (l : ℕ) (c : ClassOf ℕ) → 0 < l → stands_in nat_eq c.name (upwards (superclass_of nat_eq cs) l (Some c)) ≡ true
own_chain cs zero c less = absurd (omega (arith, less))
own_chain cs (suc l) c less = ap (λ b. b || stands_in nat_eq c.name (upwards (superclass_of nat_eq cs) l (superclass_of nat_eq cs c))) (nat_itself c.name)

-- what is known of each name is known of each class
pub each_once : (cs : List (ClassOf ℕ)) (kind : VariableKind) → NoneTwice cs kind → AllByRecursion (Once cs kind) cs
each_once cs kind none = all_places (Once cs kind) cs at
  where
    at : (k : ℕ) (c : ClassOf ℕ) → slice_get cs k ≡ Some c → Once cs kind c
    at k c e =
        let within : k < length cs = slice_get_within cs k c e in
        all_place (λ (x : ClassOf ℕ). stands_in nat_eq c.name (chain_from nat_eq cs (Some x)) ≡ true → Once cs kind x) cs k c
        (never_both (λ (x : ClassOf ℕ). has_repeat nat_eq (chain_variables nat_eq cs kind x)) (λ (x : ClassOf ℕ). stands_in nat_eq c.name (chain_from nat_eq cs (Some x))) cs (none c.name)) e
        (own_chain cs (length cs) c (omega (arith, within)))

pub none_of : (cs : List (ClassOf ℕ)) (kind : VariableKind) → AllByRecursion (Once cs kind) cs → NoneTwice cs kind
none_of cs kind all = λ n. none_any (λ (x : ClassOf ℕ). has_repeat nat_eq (chain_variables nat_eq cs kind x)) (λ (x : ClassOf ℕ). stands_in nat_eq n (chain_from nat_eq cs (Some x))) cs all

-- where two lists differ in one class, below which no variable stands twice
pub beside_once : (n : ℕ) (mid old : List (ClassOf ℕ)) → IsBeside n mid old → (kind : VariableKind) → NoneTwice old kind → stands_twice nat_eq mid kind n ≡ false → NoneTwice mid kind
beside_once n mid old b kind none check =
    none_of mid kind (all-at (λ (c : ClassOf ℕ). stands_in nat_eq n (chain_from nat_eq mid (Some c)) ≡ true → Once mid kind c) (Once mid kind) mid (λ j c at h. by j c at h (stands_in nat_eq n (chain_from nat_eq mid (Some c))) refl)
    (never_both (λ (c : ClassOf ℕ). has_repeat nat_eq (chain_variables nat_eq mid kind c)) (λ (c : ClassOf ℕ). stands_in nat_eq n (chain_from nat_eq mid (Some c))) mid check))
  where
    by : (j : ℕ) (c : ClassOf ℕ) → slice_get mid j ≡ Some c → (stands_in nat_eq n (chain_from nat_eq mid (Some c)) ≡ true → Once mid kind c) → (a : Bool) → stands_in nat_eq n (chain_from nat_eq mid (Some c)) ≡ a → Once mid kind c
    by j c at h true e = h e
    by j c at h false e =
        let within : j < length mid = slice_get_within mid j c at in
        let place = b.from_old j c at (first_other n mid old b (length mid) c (omega (arith, within)) e) in
        subst (λ (ds : List (ClassOf ℕ)). has_repeat nat_eq (flat_map (variables kind) ds) ≡ false) (sym (chain_outside n mid old b place.0 c place.1 e)) (all_place (Once old kind) old place.0 c (each_once old kind none) place.1)

-- classes that keep their names, their superclasses and their variables of a kind
pub map_once : (g : ClassOf ℕ → ClassOf ℕ) (cs : List (ClassOf ℕ)) (kind : VariableKind) → AllByRecursion (KeepsHierarchy g) cs → AllByRecursion (λ (c : ClassOf ℕ). variables kind (g c) ≡ variables kind c) cs → NoneTwice cs kind → NoneTwice (map g cs) kind
map_once g cs kind hierarchy kept none = none_of (map g cs) kind (by cs hierarchy kept (each_once cs kind none))
  where
    Kept : ClassOf ℕ → Type 0
    Kept c = variables kind (g c) ≡ variables kind c

    above : (o : Option ℕ) → OptionNames Kept (class_of_name nat_eq cs o)
    above None = tt
    above (Some m) = find-all Kept (λ (c : ClassOf ℕ). nat_eq m c.name) cs kept

    chain_kept : (c : ClassOf ℕ) → Kept c → AllByRecursion Kept (chain_from nat_eq cs (Some c))
    chain_kept c k = upwards-all Kept (superclass_of nat_eq cs) (λ d h. above d.superclass) (length cs) (Some c) k

    same : (ds : List (ClassOf ℕ)) → AllByRecursion Kept ds → flat_map (variables kind) (map g ds) ≡ flat_map (variables kind) ds
    same [] all = refl
    same (d ∷ ds) all = λ i. all.0 i ++ same ds all.1 i

    by : (ds : List (ClassOf ℕ)) → AllByRecursion (KeepsHierarchy g) ds → AllByRecursion Kept ds → AllByRecursion (Once cs kind) ds → AllByRecursion (Once (map g cs) kind) (map g ds)
    by [] h k once = tt
    by (d ∷ ds) h k once = (ap (has_repeat nat_eq) (ap (flat_map (variables kind)) (chain_from-kept nat_eq g cs hierarchy (Some d) h.0) ∙ same (chain_from nat_eq cs (Some d)) (chain_kept d k.0)) ∙ once.0, by ds h.1 k.1 once.1)

-- the class of a name is changed and keeps its name, its superclass and its variables of a kind
module _ (n : ℕ) (g : ClassOf ℕ → ClassOf ℕ) (cs : List (ClassOf ℕ)) (differ : NamesDiffer cs) (kind : VariableKind) (c : ClassOf ℕ) (found : class_named nat_eq cs n ≡ Some c)
    (named : (g c).name ≡ c.name) (under : (g c).superclass ≡ c.superclass) (same : variables kind (g c) ≡ variables kind c) where
  abbrev Keeps : ClassOf ℕ → ClassOf ℕ → Type 0
  Keeps y x = (y.name ≡ x.name) × (y.superclass ≡ x.superclass) × (variables kind y ≡ variables kind x)

  the_class : (k : ℕ) (x : ClassOf ℕ) → slice_get cs k ≡ Some x → nat_eq n x.name ≡ true → c ≡ x
  the_class k x at e = one (sym found ∙ ap (class_named nat_eq cs) (nat_equal n x.name e) ∙ named_at nat_eq nat_itself nat_equal cs k x (once_of cs differ) at)
    where
      one : Some c ≡ Some x → c ≡ x
      one q = cc

  each : (k : ℕ) (x : ClassOf ℕ) → slice_get cs k ≡ Some x → Keeps (if nat_eq n x.name then g x else x) x
  each k x at = by (nat_eq n x.name) refl
    where
      by : (b : Bool) → nat_eq n x.name ≡ b → Keeps (if b then g x else x) x
      by true e = subst (λ (y : ClassOf ℕ). Keeps (g y) y) (the_class k x at e) (named, under, same)
      by false e = (refl, refl, refl)

  pub changed_once : NoneTwice cs kind → NoneTwice (changed_class nat_eq n g cs) kind
  changed_once none =
      map_once (λ (x : ClassOf ℕ). if nat_eq n x.name then g x else x) cs kind
      (all_places (KeepsHierarchy (λ (x : ClassOf ℕ). if nat_eq n x.name then g x else x)) cs (λ k x at. record { name = (each k x at).0; superclass = (each k x at).1 }))
      (all_places (λ (x : ClassOf ℕ). variables kind (if nat_eq n x.name then g x else x) ≡ variables kind x) cs (λ k x at. (each k x at).2)) none

-- a definition that is not refused
module _ (cs : List (ClassOf ℕ)) (d : DefinitionOf ℕ) (kernel : Bool) (o : AreOrdered cs) (let_in : IsLet cs d) (kind : VariableKind) (none : NoneTwice cs kind) where
  pub moved : (n : ℕ) → stands_twice nat_eq (with_definition nat_eq kernel d cs) kind n ≡ stands_twice nat_eq (defined nat_eq kernel d cs) kind n
  moved n = defined_twice nat_eq nat_itself nat_equal cs d kernel (order_of cs o) (lacks_none cs d let_in) (cycle_none cs d let_in) kind n

  pub beside : IsBeside d.name (with_definition nat_eq kernel d cs) cs
  beside = by (has_class nat_eq cs d.name) refl
    where
      by : (b : Bool) → has_class nat_eq cs d.name ≡ b → IsBeside d.name (if b then changed_class nat_eq d.name (class_again d) cs else cs ++ new_class kernel d ∷ []) cs
      by true e = changed_beside d.name (class_again d) (λ c. refl) cs o.before e
      by false e = new_beside (new_class kernel d) cs o.before

  -- it leaves no variable twice where none stands twice below its class
  pub defined_once : stands_twice nat_eq (defined nat_eq kernel d cs) kind d.name ≡ false → NoneTwice (defined nat_eq kernel d cs) kind
  defined_once check = λ n. sym (moved n) ∙ beside_once d.name (with_definition nat_eq kernel d cs) cs beside kind none (moved d.name ∙ check) n

  -- and none does where the chains are kept
  pub kept_once : KeepsChains cs d kind → stands_twice nat_eq (defined nat_eq kernel d cs) kind d.name ≡ false
  kept_once k = sym (moved d.name) ∙ ap (λ (ds : List (ClassOf ℕ)). stands_twice nat_eq ds kind d.name) again ∙ changed_once d.name (class_again d) cs o.differ kind k.class k.found refl (sym k.superclass) k.variables none d.name
    where
      again : with_definition nat_eq kernel d cs ≡ changed_class nat_eq d.name (class_again d) cs
      again = ap (λ (b : Bool). if b then changed_class nat_eq d.name (class_again d) cs else cs ++ new_class kernel d ∷ []) (ap is_some k.found)

-- no class is taken away where none has the name
pub all_left : (n : ℕ) (cs : List (ClassOf ℕ)) → has_class nat_eq cs n ≡ false → filter (λ (c : ClassOf ℕ). not (nat_eq n c.name)) cs ≡ cs
all_left n [] h = refl
all_left n (x ∷ xs) h = at (nat_eq n x.name) h (all_left n xs)
  where
    at : (b : Bool) → is_some (cond b (Some x) (class_named nat_eq xs n)) ≡ false → (has_class nat_eq xs n ≡ false → filter (λ (c : ClassOf ℕ). not (nat_eq n c.name)) xs ≡ xs)
        → cond (not b) (x ∷ filter (λ (c : ClassOf ℕ). not (nat_eq n c.name)) xs) (filter (λ (c : ClassOf ℕ). not (nat_eq n c.name)) xs) ≡ x ∷ xs
    at true k rest = absurd (true≢false k)
    at false k rest = ap (λ (ys : List (ClassOf ℕ)). x ∷ ys) (rest k)

-- a class that is the superclass of none is taken away
pub removed_once : (n : ℕ) (cs : List (ClassOf ℕ)) → has_subclass nat_eq cs n ≡ false → AreOrdered cs → (kind : VariableKind) → NoneTwice cs kind → NoneTwice (filter (λ (c : ClassOf ℕ). not (nat_eq n c.name)) cs) kind
removed_once n cs free o kind none = by (has_class nat_eq cs n) refl
  where
    left : List (ClassOf ℕ)
    left = filter (λ (c : ClassOf ℕ). not (nat_eq n c.name)) cs

    by : (b : Bool) → has_class nat_eq cs n ≡ b → NoneTwice left kind
    by false e = subst (λ (ds : List (ClassOf ℕ)). NoneTwice ds kind) (sym (all_left n cs e)) none
    by true e =
        let b = without_beside n cs free e (removed_ordered n cs free o).before in
        none_of left kind
        (all-at (Once cs kind) (Once left kind) left (λ k c at h. subst (λ (ds : List (ClassOf ℕ)). has_repeat nat_eq (flat_map (variables kind) ds) ≡ false) (chain_outside n cs left b k c at (without_clear n cs free k c at)) h)
        (All-filter (Once cs kind) (λ (c : ClassOf ℕ). not (nat_eq n c.name)) cs (each_once cs kind none)))

pub removed_sound : (n : ℕ) (cs : List (ClassOf ℕ)) → has_subclass nat_eq cs n ≡ false → AreSound cs → AreSound (filter (λ (c : ClassOf ℕ). not (nat_eq n c.name)) cs)
removed_sound n cs free s = record {
  order = removed_ordered n cs free s.order;
  instance = removed_once n cs free s.order of_instance s.instance;
  class_side = removed_once n cs free s.order of_class_side s.class_side;
}

-- where no cause is told there is none
pub untold : (conditions : List Condition) → is_some (first_cause conditions) ≡ false → first_cause conditions ≡ None
untold conditions h = by (first_cause conditions) h
  where
    by : (o : Option Cause) → is_some o ≡ false → o ≡ None
    by None k = refl
    by (Some c) k = absurd (true≢false k)

-- a definition that is not refused at all
pub defined_sound : (cs new : List (ClassOf ℕ)) (d : DefinitionOf ℕ) (kernel : Bool) (n : ℕ) (repeats too_many : Bool) → AreSound cs → IsLet cs d → new ≡ defined nat_eq kernel d cs → n ≡ d.name
    → is_some (first_cause (late_refusals new n repeats too_many)) ≡ false → AreSound new
defined_sound cs new d kernel n repeats too_many s let_in is named h = subst AreSound (sym is) (record {
  order = defined_ordered cs d kernel s.order let_in;
  instance = defined_once cs d kernel s.order let_in of_instance s.instance (here of_instance parts.0);
  class_side = defined_once cs d kernel s.order let_in of_class_side s.class_side (here of_class_side (or_false (stands_twice nat_eq new of_class_side n) repeats parts.1).0);
})
  where
    parts : (stands_twice nat_eq new of_instance n ≡ false) × ((stands_twice nat_eq new of_class_side n || repeats) ≡ false)
    parts =
        or_false (stands_twice nat_eq new of_instance n) (stands_twice nat_eq new of_class_side n || repeats)
        (first_none (when (stands_twice nat_eq new of_instance n || (stands_twice nat_eq new of_class_side n || repeats)) VariableTwice) (when too_many TooMany ∷ []) (untold (late_refusals new n repeats too_many) h)).0

    here : (kind : VariableKind) → stands_twice nat_eq new kind n ≡ false → stands_twice nat_eq (defined nat_eq kernel d cs) kind d.name ≡ false
    here kind e = (λ i. stands_twice nat_eq (sym is i) kind (sym named i)) ∙ e

-- one that keeps the chains leaves no variable twice
pub kept_free : (cs new : List (ClassOf ℕ)) (d : DefinitionOf ℕ) (kernel : Bool) (n : ℕ) (kind : VariableKind) → AreOrdered cs → NoneTwice cs kind → IsLet cs d → new ≡ defined nat_eq kernel d cs → n ≡ d.name → KeepsChains cs d kind
    → stands_twice nat_eq new kind n ≡ false
kept_free cs new d kernel n kind o none let_in is named k = (λ i. stands_twice nat_eq (is i) kind (named i)) ∙ kept_once cs d kernel o let_in kind none k

-- a class that keeps all that its chain shows
pub changed_sound : (n : ℕ) (g : ClassOf ℕ → ClassOf ℕ) → ((c : ClassOf ℕ) → (g c).name ≡ c.name) → ((c : ClassOf ℕ) → (g c).superclass ≡ c.superclass) → ((kind : VariableKind) (c : ClassOf ℕ) → variables kind (g c) ≡ variables kind c)
    → (cs : List (ClassOf ℕ)) → AreSound cs → AreSound (changed_class nat_eq n g cs)
changed_sound n g named under same cs s = by (class_named nat_eq cs n) refl
  where
    by : (o : Option (ClassOf ℕ)) → class_named nat_eq cs n ≡ o → AreSound (changed_class nat_eq n g cs)
    by None e = subst AreSound (sym (changed-none n g cs (ap is_some e))) s
    by (Some c) e = record {
      order = changed_ordered n g named under cs s.order;
      instance = changed_once n g cs s.order.differ of_instance c e (named c) (under c) (same of_instance c) s.instance;
      class_side = changed_once n g cs s.order.differ of_class_side c e (named c) (under c) (same of_class_side c) s.class_side;
    }

pub commented_sound : (n : ℕ) (text : List ℕ) (cs : List (ClassOf ℕ)) → AreSound cs → AreSound (with_comment nat_eq n text cs)
commented_sound n text cs s = changed_sound n (λ (c : ClassOf ℕ). record c { comment = text }) (λ c. refl) (λ c. refl) same cs s
  where
    same : (kind : VariableKind) (c : ClassOf ℕ) → variables kind (record c { comment = text }) ≡ variables kind c
    same of_instance c = refl
    same of_class_side c = refl
    same of_class c = refl

-- other class-instance variables of a class, or the same ones
module _ (cs : List (ClassOf ℕ)) (n : ℕ) (names : List ℕ) (s : AreSound cs) where
  abbrev with_side : ClassOf ℕ → ClassOf ℕ
  with_side c = record c { class_side = names }

  pub side_free : (new : List (ClassOf ℕ)) → new ≡ with_class_side nat_eq n names cs → KeepsSide cs n names → stands_twice nat_eq new of_class_side n ≡ false
  side_free new is k =
      ap (λ (ds : List (ClassOf ℕ)). stands_twice nat_eq ds of_class_side n) is
      ∙ changed_once n with_side cs s.order.differ of_class_side k.class k.found refl refl (sym k.side) s.class_side n

  pub side_sound : (new : List (ClassOf ℕ)) → new ≡ with_class_side nat_eq n names cs → is_some (first_cause (late_side_refusals new n)) ≡ false → AreSound new
  side_sound new is h = subst AreSound (sym is) (by (class_named nat_eq cs n) refl)
    where
      check : stands_twice nat_eq (with_class_side nat_eq n names cs) of_class_side n ≡ false
      check =
          ap (λ (ds : List (ClassOf ℕ)). stands_twice nat_eq ds of_class_side n) (sym is)
          ∙ (first_none (when (stands_twice nat_eq new of_class_side n) VariableTwice) [] (untold (late_side_refusals new n) h)).0

      by : (o : Option (ClassOf ℕ)) → class_named nat_eq cs n ≡ o → AreSound (with_class_side nat_eq n names cs)
      by None e = subst AreSound (sym (changed-none n with_side cs (ap is_some e))) s
      by (Some c) e = record {
        order = changed_ordered n with_side (λ x. refl) (λ x. refl) cs s.order;
        instance = changed_once n with_side cs s.order.differ of_instance c e refl refl refl s.instance;
        class_side = beside_once n (changed_class nat_eq n with_side cs) cs (changed_beside n with_side (λ x. refl) cs s.order.before (ap is_some e)) of_class_side s.class_side check;
      }

-- whether any item passes, where none does
pub none_stands : {X : Type 0} (q : X → Bool) (xs : List X) → AllByRecursion (λ x. q x ≡ false) xs → list_any q xs ≡ false
none_stands q [] all = refl
none_stands q (x ∷ xs) all = ap (λ b. b || list_any q xs) all.0 ∙ none_stands q xs all.1

-- a class that is new stands on no chain
pub new_above : (cs : List (ClassOf ℕ)) (n : ℕ) (s : Option ℕ) → class_named nat_eq cs n ≡ None → stands_in nat_eq n (chain nat_eq cs s) ≡ false
new_above cs n s none =
    none_stands (λ (c : ClassOf ℕ). nat_eq n c.name) (chain nat_eq cs s)
    (upwards-all Other (superclass_of nat_eq cs) (λ c h. above c.superclass) (length cs) (class_of_name nat_eq cs s) (above s))
  where
    Other : ClassOf ℕ → Type 0
    Other c = nat_eq n c.name ≡ false

    all : AllByRecursion Other cs
    all = none_pass (λ (c : ClassOf ℕ). nat_eq n c.name) cs (sym (has_stands nat_eq nat_itself nat_equal cs n) ∙ ap is_some none)

    above : (o : Option ℕ) → OptionNames Other (class_of_name nat_eq cs o)
    above None = tt
    above (Some m) = find-all Other (λ (c : ClassOf ℕ). nat_eq m c.name) cs all

-- where superclasses stand first, no class on the chain of one that stands before another is that other one
module _ (cs : List (ClassOf ℕ)) (o : AreOrdered cs) (n k : ℕ) (c : ClassOf ℕ) (at : slice_get cs k ≡ Some c) (named : n ≡ c.name) where
  -- it stands before the class
  abbrev Earlier : ClassOf ℕ → Type 0
  Earlier x = (j : ℕ) × (slice_get cs j ≡ Some x) × (j < k)

  earlier : (x : ClassOf ℕ) (j : ℕ) → slice_get cs j ≡ Some x → (q : Option (ClassOf ℕ)) → superclass_of nat_eq cs x ≡ q → j < k → OptionNames Earlier q
  earlier x j there None e less = tt
  earlier x j there (Some y) e less =
      let up = superclass_before nat_eq nat_itself cs o.before j x y there e in
      (up.0, up.2, (let higher : up.0 < j = up.1 in omega (arith, higher, less)))

  name_at : (ds : List (ClassOf ℕ)) (j : ℕ) (x : ClassOf ℕ) → slice_get ds j ≡ Some x → slice_get (class_names ds) j ≡ Some x.name
  name_at [] j x e = absurd (cc)
  name_at (d ∷ ds) zero x e = let same : d ≡ x = cc in ap (λ (y : ClassOf ℕ). Some y.name) same
  name_at (d ∷ ds) (suc j) x e = name_at ds j x e

  other : (x : ClassOf ℕ) → Earlier x → nat_eq n x.name ≡ false
  other x e = by (nat_eq n x.name) refl
    where
      by : (b : Bool) → nat_eq n x.name ≡ b → nat_eq n x.name ≡ false
      by false q = q
      by true q =
          let same : e.0 ≡ k = once_of cs o.differ e.0 k n (name_at cs e.0 x e.1 ∙ ap Some (sym (nat_equal n x.name q))) (name_at cs k c at ∙ ap Some (sym named)) in
          let less : e.0 < k = e.2 in
          absurd (omega (arith, same, less))

  all_other : (q : Option (ClassOf ℕ)) → OptionNames Earlier q → AllByRecursion (λ (x : ClassOf ℕ). nat_eq n x.name ≡ false) (chain_from nat_eq cs q)
  all_other q first =
      all-implies Earlier (λ (x : ClassOf ℕ). nat_eq n x.name ≡ false) other (chain_from nat_eq cs q)
      (upwards-all Earlier (superclass_of nat_eq cs) (λ x e. earlier x e.0 e.1 (superclass_of nat_eq cs x) refl e.2) (length cs) q first)

  earlier_clear : (q : Option (ClassOf ℕ)) → OptionNames Earlier q → stands_in nat_eq n (chain_from nat_eq cs q) ≡ false
  earlier_clear q first = none_stands (λ (x : ClassOf ℕ). nat_eq n x.name) (chain_from nat_eq cs q) (all_other q first)

-- the classes above a class have other names
pub others_above : (cs : List (ClassOf ℕ)) → AreOrdered cs → (k : ℕ) (c : ClassOf ℕ) → slice_get cs k ≡ Some c → AllByRecursion (λ (x : ClassOf ℕ). nat_eq c.name x.name ≡ false) (chain_from nat_eq cs (superclass_of nat_eq cs c))
others_above cs o k c at = all_other cs o c.name k c at refl (superclass_of nat_eq cs c) (first (superclass_of nat_eq cs c) refl)
  where
    first : (q : Option (ClassOf ℕ)) → superclass_of nat_eq cs c ≡ q → OptionNames (λ (x : ClassOf ℕ). (j : ℕ) × (slice_get cs j ≡ Some x) × (j < k)) q
    first None e = tt
    first (Some y) e = let up = superclass_before nat_eq nat_itself cs o.before k c y at e in (up.0, up.2, up.1)

-- a class that stands behind another is not on its chain
pub none_earlier : (cs : List (ClassOf ℕ)) → AreOrdered cs → (n k : ℕ) (c : ClassOf ℕ) → slice_get cs k ≡ Some c → n ≡ c.name → (d : ClassOf ℕ) (j : ℕ) → slice_get cs j ≡ Some d → j < k → stands_in nat_eq n (chain_from nat_eq cs (Some d)) ≡ false
none_earlier cs o n k c at named d j there less = earlier_clear cs o n k c at named (Some d) (j, there, less)

-- no class stands above itself
pub never_above : (cs : List (ClassOf ℕ)) (n : ℕ) (c : ClassOf ℕ) (s : Option ℕ) → AreOrdered cs → class_named nat_eq cs n ≡ Some c → c.superclass ≡ s → stands_in nat_eq n (chain nat_eq cs s) ≡ false
never_above cs n c s o found under =
    (λ i. stands_in nat_eq (nat_equal n c.name (finds (λ (y : ClassOf ℕ). nat_eq n y.name) cs c found) i) (chain nat_eq cs (sym under i)))
    ∙ none_stands (λ (x : ClassOf ℕ). nat_eq c.name x.name) (chain nat_eq cs c.superclass) (others_above cs o place.0 c place.1)
  where
    place : (k : ℕ) × (slice_get cs k ≡ Some c)
    place = find-place (λ (x : ClassOf ℕ). nat_eq n x.name) cs c found

-- and none above one that stands before it
pub behind_clear : (cs : List (ClassOf ℕ)) (n p j k : ℕ) → AreOrdered cs → place_in cs p ≡ Some j → place_in cs n ≡ Some k → j < k → stands_in nat_eq n (chain nat_eq cs (Some p)) ≡ false
behind_clear cs n p j k o first last less =
    let above = placed (λ (x : ClassOf ℕ). nat_eq p x.name) cs j first in
    let here = placed (λ (x : ClassOf ℕ). nat_eq n x.name) cs k last in
    ap (λ (q : Option (ClassOf ℕ)). stands_in nat_eq n (chain_from nat_eq cs q)) (find_place cs p ∙ ap (option_and_then (slice_get cs)) first ∙ above.1)
    ∙ earlier_clear cs o n k here.0 here.1 (nat_equal n here.0.name here.2) (Some above.0) (j, above.1, less)
