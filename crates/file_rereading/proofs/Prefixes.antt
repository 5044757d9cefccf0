-- Classes that stand in front of others: their order, their chains and their variables.
use Rattle.std.proofs.Common.{◌≡◌, ℕ, zero, suc, ◌<◌, Bool, true, false, cond, List, [], ◌∷◌, ◌++◌, length, filter, Option, Some, None, slice_get, Contains, refl, ap, sym, subst, ◌∙◌, arith, append_assoc, append-nil}
use Rattle.std.specs.Prelude.{is_some}
use Rattle.std.specs.List.{list_any, flat_map, AllByRecursion}
use Rattle.std.proofs.lemmas.Bool.{or_from}
use Rattle.std.proofs.lemmas.Option.{slice_get_within}
use Rattle.rb_base.specs.Names.{text_eq}
use Rattle.rb_base.proofs.NamesLemmas.{text_eq-refl}
use Rattle.image_model.specs.Image.{ClassOf}
use Rattle.image_model.specs.ImageNames.{OptionNames}
use Rattle.image_model.specs.Chain.{class_named, class_of_name, superclass_of, chain_from, chain}
use Rattle.image_model.specs.Means.{VariableKind, variables}
use Rattle.image_model.specs.Valid.{HasNoRepeat, class_names, SuperclassesStandBefore, DefinesOnceOnChain, GivesNames}
use Rattle.image_model.specs.Grown.{variables_up}
use Rattle.image_model.proofs.Ends.{slice_get-front, place-contains, all-at}
use Rattle.image_model.proofs.Lists.{all-implies, find-all}
use Rattle.image_model.proofs.UpwardsLemmas.{upwards-all}
use Rattle.image_model.proofs.GrownLemmas.{chain_from-end, chain_from-new}
use Rattle.file_model.specs.Filing.{Text}
use Rattle.file_model.specs.Hierarchy.{has_class, stands_in, has_repeat, chain_variables, stands_twice}
use Rattle.file_laws.proofs.Settled.{at_front}
use Rattle.file_laws.proofs.Moves.{text_equal}
use Rattle.file_laws.proofs.Redefined.{no_repeat_behind}
use Rattle.file_laws.proofs.Sound.{All-filter}
use Rattle.file_rereading.proofs.Names.{MayName}
use Rattle.file_rereading.proofs.Fresh.{any_none, all_front, all_back}

-- the names of the first classes
names_front : (xs ys : List (ClassOf Text)) (j : ℕ) → j < length xs → slice_get (class_names (xs ++ ys)) j ≡ slice_get (class_names xs) j
names_front [] ys j h = absurd (omega arith)
names_front (x ∷ xs) ys zero h = refl
names_front (x ∷ xs) ys (suc j) h = names_front xs ys j (omega arith)

-- each superclass stands before its subclasses among the first classes too
pub before_front : (xs ys : List (ClassOf Text)) → SuperclassesStandBefore (xs ++ ys) → SuperclassesStandBefore xs
before_front xs ys before k c n at super =
    let named = before k c n (slice_get-front xs ys k c at) super in
    let earlier : named.0 < k = named.1 in
    let within : k < length xs = slice_get_within xs k c at in
    (named.0, named.1, sym (names_front xs ys named.0 (omega (arith, earlier, within))) ∙ named.2)

-- the chain of one of the first classes
pub chain_front : (ys xs : List (ClassOf Text)) → SuperclassesStandBefore (xs ++ ys) → (j : ℕ) (d : ClassOf Text) → slice_get xs j ≡ Some d → chain_from text_eq (xs ++ ys) (Some d) ≡ chain_from text_eq xs (Some d)
chain_front [] xs before j d at = ap (λ (cs : List (ClassOf Text)). chain_from text_eq cs (Some d)) (append-nil xs)
chain_front (y ∷ ys) xs before j d at =
    let assoc = append_assoc xs (y ∷ []) ys in
    ap (λ (cs : List (ClassOf Text)). chain_from text_eq cs (Some d)) (sym assoc)
    ∙ chain_front ys (xs ++ y ∷ []) (subst SuperclassesStandBefore (sym assoc) before) j d (slice_get-front xs (y ∷ []) j d at)
    ∙ chain_from-end text_eq text_eq-refl xs y (before_front xs (y ∷ ys) before) j d at

-- variables that are defined once are so among the first classes
pub once_front : (kind : VariableKind) (xs ys : List (ClassOf Text)) → SuperclassesStandBefore (xs ++ ys) → AllByRecursion (DefinesOnceOnChain text_eq (xs ++ ys) kind) (xs ++ ys) → AllByRecursion (DefinesOnceOnChain text_eq xs kind) xs
once_front kind xs ys before all =
    all-at (DefinesOnceOnChain text_eq (xs ++ ys) kind) (DefinesOnceOnChain text_eq xs kind) xs
    (λ j d at p. subst (λ (cs : List (ClassOf Text)). HasNoRepeat (flat_map (variables kind) cs)) (chain_front ys xs before j d at) p)
    (all_front (DefinesOnceOnChain text_eq (xs ++ ys) kind) xs ys all)

-- where the superclass of a class stands
pub above_before : (front : List (ClassOf Text)) (c : ClassOf Text) (back : List (ClassOf Text)) → SuperclassesStandBefore (front ++ c ∷ back) → (n : Text) → c.superclass ≡ Some n → (j : ℕ) × (slice_get (class_names front) j ≡ Some n)
above_before front c back before n super =
    let named = before (length front) c n (at_front front c back) super in
    let earlier : named.0 < length front = named.1 in
    (named.0, sym (names_front front (c ∷ back) named.0 earlier) ∙ named.2)

-- it is one of the classes before it
pub above_there : (front : List (ClassOf Text)) (c : ClassOf Text) (back : List (ClassOf Text)) → SuperclassesStandBefore (front ++ c ∷ back) → (n : Text) → c.superclass ≡ Some n → Contains (class_names front) n
above_there front c back before n super = let place = above_before front c back before n super in place-contains (class_names front) place.0 n place.1

-- the variables of a class and of those above it are defined once
pub once_up : (kind : VariableKind) (front : List (ClassOf Text)) (c : ClassOf Text) (back : List (ClassOf Text)) → SuperclassesStandBefore (front ++ c ∷ back) → AllByRecursion (DefinesOnceOnChain text_eq (front ++ c ∷ back) kind) (front ++ c ∷ back) → HasNoRepeat (variables_up text_eq kind front c)
once_up kind front c back before all =
    let assoc = append_assoc front (c ∷ []) back in
    let behind = all_back (DefinesOnceOnChain text_eq (front ++ c ∷ back) kind) front (c ∷ back) all in
    let chain_is : chain_from text_eq (front ++ c ∷ back) (Some c) ≡ c ∷ chain text_eq front c.superclass =
    ap (λ (cs : List (ClassOf Text)). chain_from text_eq cs (Some c)) (sym assoc)
    ∙ chain_front back (front ++ c ∷ []) (subst SuperclassesStandBefore (sym assoc) before) (length front) c (at_front front c [])
    ∙ chain_from-new text_eq text_eq-refl front c (before_front front (c ∷ back) before) (above_there front c back before) in
    subst (λ (cs : List (ClassOf Text)). HasNoRepeat (flat_map (variables kind) cs)) chain_is behind.0

-- a class of a name that stands at a place is there
pub named_there : (cs : List (ClassOf Text)) (j : ℕ) (n : Text) → slice_get (class_names cs) j ≡ Some n → has_class text_eq cs n ≡ true
named_there [] j n e = absurd (cc)
named_there (c ∷ cs) zero n e =
    let same : c.name ≡ n = cc in
    ap (λ (b : Bool). is_some (cond b (Some c) (class_named text_eq cs n))) (ap (text_eq n) same ∙ text_eq-refl n)
named_there (c ∷ cs) (suc j) n e = by (text_eq n c.name) (named_there cs j n e)
  where
    by : (b : Bool) → has_class text_eq cs n ≡ true → is_some (cond b (Some c) (class_named text_eq cs n)) ≡ true
    by true rest = refl
    by false rest = rest

-- its name may be given
pub named_given : (cs : List (ClassOf Text)) → AllByRecursion (GivesNames MayName) cs → (j : ℕ) (n : Text) → slice_get (class_names cs) j ≡ Some n → MayName n
named_given [] all j n e = absurd (cc)
named_given (c ∷ cs) all zero n e = let same : c.name ≡ n = cc in subst MayName same all.0.name
named_given (c ∷ cs) all (suc j) n e = named_given cs all.1 j n e

-- no class above one has a name that no class has
pub not_above : (front : List (ClassOf Text)) (n : Text) (o : Option Text) → AllByRecursion (λ c. text_eq n c.name ≡ false) front → stands_in text_eq n (chain text_eq front o) ≡ false
not_above front n o all =
    any_none (λ (c : ClassOf Text). text_eq n c.name) (chain text_eq front o)
    (upwards-all (λ c. text_eq n c.name ≡ false) (superclass_of text_eq front) (λ c other. found c.superclass) (length front) (class_of_name text_eq front o) (found o))
  where
    found : (p : Option Text) → OptionNames (λ c. text_eq n c.name ≡ false) (class_of_name text_eq front p)
    found None = tt
    found (Some m) = find-all (λ c. text_eq n c.name ≡ false) (λ c. text_eq m c.name) front all

-- a text that stands at no place of a list is none of it
others : (x : Text) (xs : List Text) → ((j : ℕ) → slice_get xs j ≡ Some x → ⊥) → AllByRecursion (λ y. text_eq x y ≡ false) xs
others x [] none = tt
others x (y ∷ ys) none = (by (text_eq x y) refl, others x ys (λ j e. none (suc j) e))
  where
    by : (b : Bool) → text_eq x y ≡ b → b ≡ false
    by true e = absurd (none 0 (ap Some (sym (text_equal x y e))))
    by false e = refl

-- the test whether something stands twice
pub has_repeat_none : (xs : List Text) → HasNoRepeat xs → has_repeat text_eq xs ≡ false
has_repeat_none [] h = refl
has_repeat_none (x ∷ xs) h =
    or_from (list_any (text_eq x) xs) (has_repeat text_eq xs)
    (any_none (text_eq x) xs (others x xs (λ j e. let twice : 0 ≡ suc j = h 0 (suc j) x refl e in omega (arith, twice))))
    (has_repeat_none xs (no_repeat_behind x xs h))

-- the test whether a variable stands twice on the chain of a class or of one below it
pub stands_once : (cs : List (ClassOf Text)) (kind : VariableKind) (n : Text) → AllByRecursion (DefinesOnceOnChain text_eq cs kind) cs → stands_twice text_eq cs kind n ≡ false
stands_once cs kind n all =
    any_none (λ (c : ClassOf Text). has_repeat text_eq (chain_variables text_eq cs kind c)) (filter (λ (c : ClassOf Text). stands_in text_eq n (chain_from text_eq cs (Some c))) cs)
    (All-filter (λ c. has_repeat text_eq (chain_variables text_eq cs kind c) ≡ false) (λ (c : ClassOf Text). stands_in text_eq n (chain_from text_eq cs (Some c))) cs
    (all-implies (DefinesOnceOnChain text_eq cs kind) (λ c. has_repeat text_eq (chain_variables text_eq cs kind c) ≡ false) (λ c once. has_repeat_none (chain_variables text_eq cs kind c) once) cs all))
