-- Where no variable stood twice on a chain, none stands twice on the parts of chains below the class that is changed.
use Rattle.std.proofs.Common.{◌≡◌, ℕ, zero, suc, Bool, true, false, List, [], ◌∷◌, ◌++◌, length, Option, Some, None, slice_get, nat_eq, refl, sym, ap, subst, ◌∙◌, arith}
use Rattle.std.specs.Prelude.{if◌then◌else◌, is_some}
use Rattle.std.specs.List.{flat_map}
use Rattle.std.proofs.lemmas.Grind.{flat_map-append}
use Rattle.std.proofs.lemmas.Option.{slice_get_within}
use Rattle.image_model.specs.Image.{ClassOf}
use Rattle.image_model.specs.Upwards.{upwards}
use Rattle.image_model.specs.Chain.{class_named, class_of_name, superclass_of, chain_from}
use Rattle.image_model.specs.Means.{VariableKind, of_class_side, variables}
use Rattle.image_model.proofs.ChainLemmas.{superclass_before}
use Rattle.image_model.proofs.Lists.{all-implies}
use Rattle.image_model.proofs.UpwardsLemmas.{upwards-none, upwards-enough}
use Rattle.file_model.specs.Changes.{DefinitionOf}
use Rattle.file_model.specs.Hierarchy.{has_repeat}
use Rattle.file_model.specs.Applied.{with_class_side, with_definition, defined}
use Rattle.file_laws.specs.Orders.{AreSameClasses}
use Rattle.file_laws.proofs.OtherOrder.{same_itself, all_reordered}
use Rattle.file_laws.proofs.OtherOrderLooks.{chain_from_same}
use Rattle.file_laws.proofs.OtherOrderChanges.{defined_alike}
use Rattle.image_draft.specs.Names.{AreOrdered}
use Rattle.image_draft.specs.Once.{NoneTwice, AreSound}
use Rattle.image_draft.specs.Parts.{part_below, PartsOnce}
use Rattle.image_draft.proofs.Numbers.{nat_itself, nat_equal}
use Rattle.image_draft.proofs.Beside.{finds, all_place, all_places, IsBeside, changed_beside}
use Rattle.image_draft.proofs.Ordered.{IsLet, once_of, lacks_none, cycle_none}
use Rattle.image_draft.proofs.Parts.{repeat_front}
use Rattle.image_draft.proofs.Places.{changed-none}
use Rattle.image_draft.proofs.Sound.{Once, each_once, beside}

module _ (n : ℕ) where
  -- a list is the part below the class of the name and the rest
  split : (xs : List (ClassOf ℕ)) → (ys : List (ClassOf ℕ)) × (xs ≡ part_below n xs ++ ys)
  split [] = ([], refl)
  split (x ∷ xs) = by (nat_eq n x.name) (split xs)
    where
      by : (b : Bool) → (ys : List (ClassOf ℕ)) × (xs ≡ part_below n xs ++ ys) → (ys : List (ClassOf ℕ)) × (x ∷ xs ≡ (if b then [] else x ∷ part_below n xs) ++ ys)
      by true rest = (x ∷ xs, refl)
      by false rest = (rest.0, ap (λ (zs : List (ClassOf ℕ)). x ∷ zs) rest.1)

  -- where no variable stands twice on it, none does on the part
  part_once : (kind : VariableKind) (xs : List (ClassOf ℕ)) → has_repeat nat_eq (flat_map (variables kind) xs) ≡ false → has_repeat nat_eq (flat_map (variables kind) (part_below n xs)) ≡ false
  part_once kind xs h =
      let cut = split xs in
      repeat_front (flat_map (variables kind) (part_below n xs)) (flat_map (variables kind) cut.0)
      (sym (ap (has_repeat nat_eq) (ap (flat_map (variables kind)) cut.1 ∙ flat_map-append (variables kind) (part_below n xs) cut.0)) ∙ h)

  pub parts_once : (cs : List (ClassOf ℕ)) (kind : VariableKind) → NoneTwice cs kind → PartsOnce cs kind n
  parts_once cs kind none =
      all-implies (Once cs kind) (λ (c : ClassOf ℕ). has_repeat nat_eq (flat_map (variables kind) (part_below n (chain_from nat_eq cs (Some c)))) ≡ false) (λ c h. part_once kind (chain_from nat_eq cs (Some c)) h) cs (each_once cs kind none)

  -- nothing is below the class of the name
  part_first : (cs : List (ClassOf ℕ)) (k : ℕ) (c : ClassOf ℕ) → nat_eq n c.name ≡ true → part_below n (upwards (superclass_of nat_eq cs) k (Some c)) ≡ []
  part_first cs zero c e = refl
  part_first cs (suc k) c e = ap (λ (b : Bool). if b then [] else c ∷ part_below n (upwards (superclass_of nat_eq cs) k (superclass_of nat_eq cs c))) e

  part_named : (cs : List (ClassOf ℕ)) (k m : ℕ) → nat_eq n m ≡ true → part_below n (upwards (superclass_of nat_eq cs) k (class_named nat_eq cs m)) ≡ []
  part_named cs k m e = by (class_named nat_eq cs m) refl
    where
      by : (o : Option (ClassOf ℕ)) → class_named nat_eq cs m ≡ o → part_below n (upwards (superclass_of nat_eq cs) k o) ≡ []
      by None q = ap (part_below n) (upwards-none (superclass_of nat_eq cs) k)
      by (Some c) q = part_first cs k c (ap (λ t. nat_eq t c.name) (nat_equal n m e) ∙ finds (λ (x : ClassOf ℕ). nat_eq m x.name) cs c q)

  module _ (mid old : List (ClassOf ℕ)) (b : IsBeside n mid old) where
    -- the part of a chain is the same in both lists
    same_part : (k : ℕ) (o : Option (ClassOf ℕ)) → part_below n (upwards (superclass_of nat_eq mid) k o) ≡ part_below n (upwards (superclass_of nat_eq old) k o)
    same_part zero o = refl
    same_part (suc k) None = refl
    same_part (suc k) (Some c) = ap (λ (xs : List (ClassOf ℕ)). if nat_eq n c.name then [] else c ∷ xs) (above c.superclass (same_part k))
      where
        at : (m : ℕ) → ((o : Option (ClassOf ℕ)) → part_below n (upwards (superclass_of nat_eq mid) k o) ≡ part_below n (upwards (superclass_of nat_eq old) k o)) → (a : Bool) → nat_eq n m ≡ a
            → part_below n (upwards (superclass_of nat_eq mid) k (class_named nat_eq mid m)) ≡ part_below n (upwards (superclass_of nat_eq old) k (class_named nat_eq old m))
        at m rest true e = part_named mid k m e ∙ sym (part_named old k m e)
        at m rest false e = rest (class_named nat_eq mid m) ∙ ap (λ (o : Option (ClassOf ℕ)). part_below n (upwards (superclass_of nat_eq old) k o)) (b.agree m e)

        above : (q : Option ℕ) → ((o : Option (ClassOf ℕ)) → part_below n (upwards (superclass_of nat_eq mid) k o) ≡ part_below n (upwards (superclass_of nat_eq old) k o))
            → part_below n (upwards (superclass_of nat_eq mid) k (class_of_name nat_eq mid q)) ≡ part_below n (upwards (superclass_of nat_eq old) k (class_of_name nat_eq old q))
        above None rest = rest None
        above (Some m) rest = at m rest (nat_eq n m) refl

    pub beside_parts : (kind : VariableKind) → NoneTwice old kind → PartsOnce mid kind n
    beside_parts kind none =
        all_places (λ (c : ClassOf ℕ). has_repeat nat_eq (flat_map (variables kind) (part_below n (chain_from nat_eq mid (Some c)))) ≡ false) mid (λ j c at. by j c at (nat_eq n c.name) refl)
      where
        by : (j : ℕ) (c : ClassOf ℕ) → slice_get mid j ≡ Some c → (a : Bool) → nat_eq n c.name ≡ a → has_repeat nat_eq (flat_map (variables kind) (part_below n (chain_from nat_eq mid (Some c)))) ≡ false
        by j c at true e = ap (λ (xs : List (ClassOf ℕ)). has_repeat nat_eq (flat_map (variables kind) xs)) (part_first mid (length mid) c e)
        by j c at false e =
            let place = b.from_old j c at e in
            ap (λ (xs : List (ClassOf ℕ)). has_repeat nat_eq (flat_map (variables kind) xs))
            (same_part (length mid) (Some c)
            ∙ ap (part_below n)
            (upwards-enough (superclass_of nat_eq old) (λ i d. slice_get old i ≡ Some d) (superclass_before nat_eq nat_itself old b.before) (length old) place.0 (length mid) (length old) c (slice_get_within old place.0 c place.1) b.long (omega arith)
            place.1))
            ∙ part_once kind (chain_from nat_eq old (Some c)) (all_place (Once old kind) old place.0 c (each_once old kind none) place.1)

  -- in another order of the classes the parts are the same
  parts_moved : (cs ds : List (ClassOf ℕ)) → AreSameClasses cs ds → (kind : VariableKind) → PartsOnce cs kind n → PartsOnce ds kind n
  parts_moved cs ds m kind parts =
      all_reordered (λ (c : ClassOf ℕ). has_repeat nat_eq (flat_map (variables kind) (part_below n (chain_from nat_eq ds (Some c)))) ≡ false) cs ds m.permutation
      (all-implies (λ (c : ClassOf ℕ). has_repeat nat_eq (flat_map (variables kind) (part_below n (chain_from nat_eq cs (Some c)))) ≡ false) (λ (c : ClassOf ℕ). has_repeat nat_eq (flat_map (variables kind) (part_below n (chain_from nat_eq ds (Some c)))) ≡ false)
      (λ c h. subst (λ (xs : List (ClassOf ℕ)). has_repeat nat_eq (flat_map (variables kind) (part_below n xs)) ≡ false) (chain_from_same nat_eq nat_itself nat_equal cs ds m (Some c)) h) cs parts)

-- a definition that the classes before it do not refuse
pub defined_parts : (cs new : List (ClassOf ℕ)) (d : DefinitionOf ℕ) (kernel : Bool) (n : ℕ) (kind : VariableKind) → AreOrdered cs → NoneTwice cs kind → IsLet cs d → new ≡ defined nat_eq kernel d cs → n ≡ d.name → PartsOnce new kind n
defined_parts cs new d kernel n kind o none let_in is named =
    subst (λ (m : ℕ). PartsOnce new kind m) (sym named)
    (subst (λ (ds : List (ClassOf ℕ)). PartsOnce ds kind d.name) (sym is)
    (parts_moved d.name (with_definition nat_eq kernel d cs) (defined nat_eq kernel d cs)
    (defined_alike nat_eq nat_itself nat_equal kernel d cs cs (same_itself nat_eq nat_itself nat_equal cs (once_of cs o.differ)) o.before (lacks_none cs d let_in) (cycle_none cs d let_in)).0
    kind (beside_parts d.name (with_definition nat_eq kernel d cs) cs (beside cs d kernel o let_in kind none) kind none)))

-- other class-instance variables of a class
pub side_parts : (cs : List (ClassOf ℕ)) (n : ℕ) (names : List ℕ) → AreSound cs → (new : List (ClassOf ℕ)) → new ≡ with_class_side nat_eq n names cs → PartsOnce new of_class_side n
side_parts cs n names s new is = subst (λ (ds : List (ClassOf ℕ)). PartsOnce ds of_class_side n) (sym is) (by (class_named nat_eq cs n) refl)
  where
    by : (o : Option (ClassOf ℕ)) → class_named nat_eq cs n ≡ o → PartsOnce (with_class_side nat_eq n names cs) of_class_side n
    by None e = subst (λ (ds : List (ClassOf ℕ)). PartsOnce ds of_class_side n) (sym (changed-none n (λ (c : ClassOf ℕ). record c { class_side = names }) cs (ap is_some e))) (parts_once n cs of_class_side s.class_side)
    by (Some c) e =
        beside_parts n (with_class_side nat_eq n names cs) cs (changed_beside n (λ (x : ClassOf ℕ). record x { class_side = names }) (λ x. refl) cs s.order.before (ap is_some e)) of_class_side s.class_side
