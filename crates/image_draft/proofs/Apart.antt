-- Where no two classes have a variable of one name, no variable stands twice on a chain.
use Rattle.std.proofs.Common.{◌≡◌, ℕ, zero, suc, ◌<◌, Bool, true, false, List, [], ◌∷◌, length, Option, Some, None, slice_get, nat_eq, refl, sym, ap, ◌∙◌, true≢false, arith}
use Rattle.std.specs.Prelude.{◌||◌}
use Rattle.std.specs.List.{list_any, flat_map, AllByRecursion}
use Rattle.std.specs.Option.{option_map_or}
use Rattle.std.proofs.lemmas.List.Folds.{list_any-append}
use Rattle.image_model.specs.Image.{ClassOf}
use Rattle.image_model.specs.ImageNames.{OptionNames}
use Rattle.image_model.specs.Chain.{class_of_name, superclass_of, chain_from}
use Rattle.image_model.specs.Means.{VariableKind, variables}
use Rattle.image_model.proofs.ChainLemmas.{superclass_before, chain_from-step}
use Rattle.image_model.proofs.Lists.{find-all, all-both, all-implies}
use Rattle.image_model.proofs.UpwardsLemmas.{upwards-all, upwards-none}
use Rattle.file_model.specs.Hierarchy.{has_repeat}
use Rattle.image_draft.specs.NameSets.{has}
use Rattle.image_draft.specs.Names.{AreOrdered}
use Rattle.image_draft.specs.Once.{NoneTwice}
use Rattle.image_draft.specs.Owners.{is_noted_for, AreNoted, NoneShared}
use Rattle.image_draft.specs.Table.{place_at}
use Rattle.image_draft.specs.declared.owners.VariableOwners.{VariableOwners}
use Rattle.image_draft.proofs.Numbers.{nat_itself, nat_equal}
use Rattle.image_draft.proofs.Beside.{all_place, all_places}
use Rattle.image_draft.proofs.Parts.{among, repeat_append, repeat_front}
use Rattle.image_draft.proofs.Sound.{Once, each_once, none_of, none_stands, others_above}

-- no class has a variable of a kind twice in its own list
abbrev pub EachOnce : VariableKind → List (ClassOf ℕ) → Type 0
EachOnce kind cs = AllByRecursion (λ (c : ClassOf ℕ). has_repeat nat_eq (variables kind c) ≡ false) cs

-- a variable that is noted for two classes is shared, or they are one
pub one_owner : (t : VariableOwners) (a b m : ℕ) → has t.shared m ≡ false → is_noted_for t a m ≡ true → is_noted_for t b m ≡ true → nat_eq a b ≡ true
one_owner t a b m unshared first second =
    by (place_at t.first m) (sym (ap (λ (s : Bool). s || option_map_or (nat_eq a) (place_at t.first m) false) unshared) ∙ first) (sym (ap (λ (s : Bool). s || option_map_or (nat_eq b) (place_at t.first m) false) unshared) ∙ second)
  where
    by : (o : Option ℕ) → option_map_or (nat_eq a) o false ≡ true → option_map_or (nat_eq b) o false ≡ true → nat_eq a b ≡ true
    by None f g = absurd (true≢false (sym f))
    by (Some k) f g = ap (nat_eq a) (nat_equal b k g) ∙ f

-- a variable that is noted for a class is none of a class of another name
pub none_named : (t : VariableOwners) (a b m : ℕ) → has t.shared m ≡ false → nat_eq a b ≡ false → is_noted_for t a m ≡ true → (ys : List ℕ) → AllByRecursion (λ y. is_noted_for t b y ≡ true) ys → list_any (nat_eq m) ys ≡ false
none_named t a b m unshared differ here [] all = refl
none_named t a b m unshared differ here (y ∷ ys) all = ap (λ (s : Bool). s || list_any (nat_eq m) ys) (by (nat_eq m y) refl) ∙ none_named t a b m unshared differ here ys all.1
  where
    by : (s : Bool) → nat_eq m y ≡ s → s ≡ false
    by false e = refl
    by true e = absurd (true≢false (sym (one_owner t a b m unshared here (ap (is_noted_for t b) (nat_equal m y e) ∙ all.0)) ∙ differ))

-- nor of any of such classes
pub none_given : (t : VariableOwners) (kind : VariableKind) (a m : ℕ) → has t.shared m ≡ false → is_noted_for t a m ≡ true → (cs : List (ClassOf ℕ))
    → AllByRecursion (λ (c : ClassOf ℕ). AllByRecursion (λ y. is_noted_for t c.name y ≡ true) (variables kind c) × (nat_eq a c.name ≡ false)) cs → list_any (nat_eq m) (flat_map (variables kind) cs) ≡ false
none_given t kind a m unshared here [] all = refl
none_given t kind a m unshared here (c ∷ cs) all =
    list_any-append (nat_eq m) (variables kind c) (flat_map (variables kind) cs)
    ∙ ap (λ (s : Bool). s || list_any (nat_eq m) (flat_map (variables kind) cs)) (none_named t a c.name m unshared all.0.1 here (variables kind c) all.0.0)
    ∙ none_given t kind a m unshared here cs all.1

-- the classes above a class
abbrev pub above : List (ClassOf ℕ) → ClassOf ℕ → List (ClassOf ℕ)
above cs d = chain_from nat_eq cs (superclass_of nat_eq cs d)

-- their variables are noted for them
pub above_noted : (cs : List (ClassOf ℕ)) (kind : VariableKind) (t : VariableOwners) → AreNoted t kind cs → (d : ClassOf ℕ) → AreNoted t kind (above cs d)
above_noted cs kind t noted d = upwards-all Noted (superclass_of nat_eq cs) (λ c h. named c.superclass) (length cs) (superclass_of nat_eq cs d) (named d.superclass)
  where
    Noted : ClassOf ℕ → Type 0
    Noted c = AllByRecursion (λ m. is_noted_for t c.name m ≡ true) (variables kind c)

    named : (q : Option ℕ) → OptionNames Noted (class_of_name nat_eq cs q)
    named None = tt
    named (Some n) = find-all Noted (λ (c : ClassOf ℕ). nat_eq n c.name) cs noted

module _ (cs : List (ClassOf ℕ)) (o : AreOrdered cs) (kind : VariableKind) (t : VariableOwners) (noted : AreNoted t kind cs) (none : NoneShared t) (own : EachOnce kind cs) where
  abbrev Noted : ClassOf ℕ → Type 0
  Noted c = AllByRecursion (λ m. is_noted_for t c.name m ≡ true) (variables kind c)

  -- none of them is one of the class
  none_above : (k : ℕ) (d : ClassOf ℕ) → slice_get cs k ≡ Some d → among (flat_map (variables kind) (above cs d)) (variables kind d) ≡ false
  none_above k d at =
      none_stands (λ m. list_any (nat_eq m) (flat_map (variables kind) (above cs d))) (variables kind d)
      (all-implies (λ m. is_noted_for t d.name m ≡ true) (λ m. list_any (nat_eq m) (flat_map (variables kind) (above cs d)) ≡ false)
      (λ m here. none_given t kind d.name m (none m) here (above cs d) (all-both Noted (λ (c : ClassOf ℕ). nat_eq d.name c.name ≡ false) (above cs d) (above_noted cs kind t noted d) (others_above cs o k d at)))
      (variables kind d) (all_place Noted cs k d noted at))

  chain_once : (bound k : ℕ) (d : ClassOf ℕ) → k < bound → slice_get cs k ≡ Some d → Once cs kind d
  chain_once zero k d less at = absurd (omega (arith, less))
  chain_once (suc bound) k d less at =
      ap (λ (ds : List (ClassOf ℕ)). has_repeat nat_eq (flat_map (variables kind) ds)) (chain_from-step nat_eq nat_itself cs o.before k d at)
      ∙ repeat_append (variables kind d) (flat_map (variables kind) (above cs d))
      ∙ (λ i. all_place (λ (c : ClassOf ℕ). has_repeat nat_eq (variables kind c) ≡ false) cs k d own at i || (higher (superclass_of nat_eq cs d) refl (λ j x l a. chain_once bound j x l a) i || none_above k d at i))
    where
      higher : (q : Option (ClassOf ℕ)) → superclass_of nat_eq cs d ≡ q → ((j : ℕ) (x : ClassOf ℕ) → j < bound → slice_get cs j ≡ Some x → Once cs kind x) → has_repeat nat_eq (flat_map (variables kind) (chain_from nat_eq cs q)) ≡ false
      higher None e below = ap (λ (ds : List (ClassOf ℕ)). has_repeat nat_eq (flat_map (variables kind) ds)) (upwards-none (superclass_of nat_eq cs) (length cs))
      higher (Some x) e below =
          let up = superclass_before nat_eq nat_itself cs o.before k d x at e in
          below up.0 x (let first : up.0 < k = up.1 in omega (arith, less, first)) up.2

  pub apart_once : NoneTwice cs kind
  apart_once = none_of cs kind (all_places (Once cs kind) cs (λ k d at. chain_once (suc k) k d (omega arith) at))

-- where no variable stands twice on a chain, no class has one twice in its own list
pub own_once : (cs : List (ClassOf ℕ)) (kind : VariableKind) → AreOrdered cs → NoneTwice cs kind → EachOnce kind cs
own_once cs kind o none =
    all_places (λ (c : ClassOf ℕ). has_repeat nat_eq (variables kind c) ≡ false) cs
    (λ k c at. repeat_front (variables kind c) (flat_map (variables kind) (chain_from nat_eq cs (superclass_of nat_eq cs c)))
    (sym (ap (λ (ds : List (ClassOf ℕ)). has_repeat nat_eq (flat_map (variables kind) ds)) (chain_from-step nat_eq nat_itself cs o.before k c at)) ∙ all_place (Once cs kind) cs k c (each_once cs kind none) at))
