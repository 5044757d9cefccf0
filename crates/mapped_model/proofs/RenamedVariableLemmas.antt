-- A variable that is renamed in one class and in those below it is called the same in a class and its superclass, and apart from all others.
use Rattle.std.proofs.Common.{◌≡◌, ℕ, zero, suc, List, [], ◌∷◌, Some, None, refl, sym, ap, ◌∙◌, subst}
use Rattle.std.specs.Prelude.{Bool, true, false, ◌&&◌, ◌||◌, if◌then◌else◌, slice_get}
use Rattle.std.specs.List.{AllByRecursion, list_any}
use Rattle.rb_base.specs.Names.{text_eq}
use Rattle.scope_model.specs.SpecialNames.{one_block_selectors, two_block_selectors, loop_selectors}
use Rattle.image_model.specs.Image.{ClassOf, ImageOf}
use Rattle.image_model.specs.Chain.{chain}
use Rattle.image_model.specs.Means.{VariableKind, of_instance, of_class_side}
use Rattle.run_model.specs.Values.{Name}
use Rattle.run_model.specs.ObjectPrimitives.{value_classes}
use Rattle.run_model.specs.Renamings.{Renaming, class_image, selector_image}
use Rattle.mapped_model.specs.RenamedRuns.{RunsAsRenamed}
use Rattle.run_model.proofs.Finite.{by_cases}
use Rattle.run_model.proofs.RenamingLemmas.{text-same}
use Rattle.resolved_model.proofs.LookupLemmas.{everywhere}
use Rattle.mapped_model.specs.NameMaps.{NameMaps, KeepsWords}
use Rattle.mapped_model.specs.NamesInUse.{IsAmong, IsAmongPairs}
use Rattle.mapped_model.specs.NamesOfImages.{variables_along, variables_of, names_in, HasOrderedClasses}
use Rattle.mapped_model.specs.ChangedImages.{IsChangedImage}
use Rattle.mapped_model.specs.RenamedVariables.{stands_above, renamed_below, same_names, with_instance_renamed, with_class_side_renamed, MayBeRenamed}
use Rattle.mapped_model.proofs.NamesFound.{words-used}
use Rattle.mapped_model.proofs.NamesOfImagesHold.{pair-out, chain-step, uses-names, all-inherited}
use Rattle.mapped_model.proofs.MatchedByMaps.{matched-mapped}
use Rattle.mapped_model.proofs.ChangedImageLemmas.{image-changed}

-- a fact of each item, at its place
pub all-at : {X : Type 0} (P : X → Type 0) (xs : List X) (j : ℕ) (x : X) → AllByRecursion P xs → slice_get xs j ≡ Some x → P x
all-at P [] j x a e = absurd (nothing e)
  where
    nothing : None ≡ Some x → ⊥
    nothing q = cc
all-at P (y ∷ ys) zero x a e = let same : y ≡ x = cc in subst P same a.0
all-at P (y ∷ ys) (suc j) x a e = all-at P ys j x a.1 e

-- a fact of the item at each place
pub at-all : {X : Type 0} (P : X → Type 0) (xs : List X) → ((j : ℕ) (x : X) → slice_get xs j ≡ Some x → P x) → AllByRecursion P xs
at-all P [] h = tt
at-all P (x ∷ xs) h = (h 0 x refl, at-all P xs (λ j y e. h (suc j) y e))

-- where it is not the name
other : (a b : Bool) (x y : Name) → b ≡ false → (if a && b then x else y) ≡ y
other true b x y e = ap (λ z. if z then x else y) e
other false b x y e = refl

module _ (i : ImageOf Name) (ordered : HasOrderedClasses i) (kind : VariableKind) (c old new : Name) (may : MayBeRenamed i kind c old new) where
  -- what stands above a class
  above-step : (j : ℕ) (e : ClassOf Name) (d : Name) → slice_get i.classes j ≡ Some e → e.superclass ≡ Some d → stands_above i c e.name ≡ (text_eq c e.name || stands_above i c d)
  above-step j e d at q =
      ap (list_any (λ (x : ClassOf Name). text_eq c x.name)) (chain-step i ordered j e at)
      ∙ ap (λ o. text_eq c e.name || list_any (λ (x : ClassOf Name). text_eq c x.name) (chain text_eq i.classes o)) q

  -- a class calls a variable of its superclass as that does
  pub called-above : AllByRecursion (λ (e : ClassOf Name). (d n : Name) → e.superclass ≡ Some d → IsAmong (variables_along i kind d) n → renamed_below i c old new (d, n) ≡ renamed_below i c old new (e.name, n)) i.classes
  called-above =
      at-all _ i.classes
      (λ j e at d n q t. by_cases (text_eq c e.name)
      (λ s.
      let apart : text_eq old n ≡ false = different (d) n (all-at _ i.classes j e may.defined at d (text-same c e.name s) q) t in
      other (stands_above i c d) (text_eq old n) new n apart ∙ sym (other (stands_above i c e.name) (text_eq old n) new n apart))
      (λ s. ap (λ b. if b && text_eq old n then new else n) (sym (above-step j e d at q ∙ ap (λ b. b || stands_above i c d) s))))
    where
      different : (d n : Name) → (IsAmong (variables_along i kind d) old → ⊥) → IsAmong (variables_along i kind d) n → text_eq old n ≡ false
      different d n lacks t = by_cases (text_eq old n) (λ e. absurd (lacks (subst (IsAmong (variables_along i kind d)) (sym (text-same old n e)) t))) (λ e. e)

  -- by whether the two names are the old one
  apart-by : (d n m : Name) → IsAmong (variables_along i kind d) n → IsAmong (variables_along i kind d) m → (IsAmong (variables_along i kind d) new → ⊥) → (a b : Bool) → text_eq old n ≡ a → text_eq old m ≡ b → (if a then new else n) ≡ (if b then new else m) → n ≡ m
  apart-by d n m t u lacks true true p q e = sym (text-same old n p) ∙ text-same old m q
  apart-by d n m t u lacks true false p q e = absurd (lacks (subst (IsAmong (variables_along i kind d)) (sym e) u))
  apart-by d n m t u lacks false true p q e = absurd (lacks (subst (IsAmong (variables_along i kind d)) e t))
  apart-by d n m t u lacks false false p q e = e

  -- by whether the class stands above
  below-by : (d n m : Name) (b : Bool) → stands_above i c d ≡ b → IsAmong (variables_along i kind d) n → IsAmong (variables_along i kind d) m → (if b && text_eq old n then new else n) ≡ (if b && text_eq old m then new else m) → n ≡ m
  below-by d n m true s t u e = apart-by d n m t u (may.free d s) (text_eq old n) (text_eq old m) refl refl e
  below-by d n m false s t u e = e

  -- no two variables of a class are called the same
  pub renamed-apart : (d n m : Name) → IsAmongPairs (variables_of i kind) (d, n) → IsAmongPairs (variables_of i kind) (d, m) → renamed_below i c old new (d, n) ≡ renamed_below i c old new (d, m) → n ≡ m
  renamed-apart d n m t u e = below-by d n m (stands_above i c d) refl (pair-out i kind d n i.classes t) (pair-out i kind d m i.classes u) e

-- the words of the language are kept
words-same : (instance class_side : Name × Name → Name) → KeepsWords (record same_names { instance = instance; class_side = class_side })
words-same instance class_side = record {
  nothing = refl;
  classes = everywhere (λ w. w ≡ w) (λ w. refl) value_classes;
  one_block = everywhere (λ w. w ≡ w) (λ w. refl) one_block_selectors;
  two_blocks = everywhere (λ w. w ≡ w) (λ w. refl) two_block_selectors;
  loops = everywhere (λ w. w ≡ w) (λ w. refl) loop_selectors;
}

module _ (r : Renaming) (i j : ImageOf Name) (c old new : Name) (classes : (d : Name) → class_image r d ≡ d) (selectors : (s : Name) → selector_image r s ≡ s) (ordered : HasOrderedClasses i) where
  -- an instance variable
  pub instance-matched : MayBeRenamed i of_instance c old new → IsChangedImage (with_instance_renamed i c old new) i j → RunsAsRenamed i j r
  instance-matched may h =
      let f : NameMaps = with_instance_renamed i c old new in
      matched-mapped r f (names_in i) i j (λ d. sym (classes d)) (λ s. sym (selectors s))
      (record { class = λ x y t u e. e; selector = λ x y t u e. e; shared = λ x y t u e. e; instance = renamed-apart i ordered of_instance c old new may; class_side = λ d x y t u e. e })
      (words-used i) (words-same f.instance f.class_side) (uses-names i)
      (all-inherited i ordered f (at-all _ i.classes (λ k e at. record { instance = all-at _ i.classes k e (called-above i ordered of_instance c old new may) at; class_side = λ d n q t. refl })))
      (image-changed f i j h)

  -- a class-instance variable
  pub class_side-matched : MayBeRenamed i of_class_side c old new → IsChangedImage (with_class_side_renamed i c old new) i j → RunsAsRenamed i j r
  class_side-matched may h =
      let f : NameMaps = with_class_side_renamed i c old new in
      matched-mapped r f (names_in i) i j (λ d. sym (classes d)) (λ s. sym (selectors s))
      (record { class = λ x y t u e. e; selector = λ x y t u e. e; shared = λ x y t u e. e; instance = λ d x y t u e. e; class_side = renamed-apart i ordered of_class_side c old new may })
      (words-used i) (words-same f.instance f.class_side) (uses-names i)
      (all-inherited i ordered f (at-all _ i.classes (λ k e at. record { instance = λ d n q t. refl; class_side = all-at _ i.classes k e (called-above i ordered of_class_side c old new may) at })))
      (image-changed f i j h)
