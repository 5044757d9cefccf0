-- A renaming with an entry for a class and each class below it calls a variable as the maps of a renamed variable do.
use Rattle.std.proofs.Common.{◌≡◌, List, [], ◌∷◌, Some, length, refl, sym, ap, ◌∙◌}
use Rattle.std.specs.Prelude.{Bool, true, false, cond, if◌then◌else◌, ◌&&◌, ◌||◌, map, filter, find, option_map, unwrap_or}
use Rattle.std.specs.List.{AllByRecursion}
use Rattle.rb_base.specs.Names.{text_eq}
use Rattle.image_model.specs.Image.{ClassOf, ImageOf}
use Rattle.image_model.specs.Chain.{class_named, superclass_of, chain_from}
use Rattle.image_model.proofs.UpwardsLemmas.{upwards-none}
use Rattle.run_model.specs.Values.{Name}
use Rattle.run_model.specs.Store.{same_pair}
use Rattle.run_model.specs.Renamings.{OfClass, mapped}
use Rattle.run_model.proofs.Finite.{by_cases}
use Rattle.run_model.proofs.RenamingLemmas.{text-same}
use Rattle.mapped_model.specs.NamesOfImages.{HasOrderedClasses}
use Rattle.mapped_model.specs.RenamedVariables.{stands_above, renamed_below}
use Rattle.mapped_model.proofs.NamesOfImagesHold.{named-found}
use Rattle.mapped_model.proofs.RenamedVariableLemmas.{at-all}
use Rattle.rename_model.specs.Conditions.{stands_below}
use Rattle.rename_model.specs.OneRenamed.{in_classes_below}
use Rattle.rename_laws.proofs.TextsTold.{text-turned}
use Rattle.rename_laws.proofs.ClassesAfter.{find-nothing}
use Rattle.rename_laws.proofs.Unnamed.{each-fails}
use Rattle.rename_laws.proofs.ChainFacts.{is_on}

module _ (x y d n : Name) (p : ClassOf Name → Bool) where
  -- the entry of a class
  abbrev entry_of : ClassOf Name → OfClass × Name
  entry_of e = ((e.name, x), y)

  -- what entries for the classes that pass a test have for the name
  abbrev said : List (ClassOf Name) → Name
  said cs = mapped same_pair (map entry_of (filter p cs)) (d, n) n

  -- one more class
  step-by : (b : Bool) (e : ClassOf Name) (es : List (ClassOf Name)) →
      unwrap_or (option_map (λ (z : OfClass × Name). z.1) (cond b (Some (entry_of e)) (find (λ z. same_pair (d, n) z.0) (map entry_of (filter p es))))) n ≡ (if b then y else said es)
  step-by true e es = refl
  step-by false e es = refl

  step : (q : Bool) (e : ClassOf Name) (es : List (ClassOf Name)) → mapped same_pair (map entry_of (cond q (e ∷ filter p es) (filter p es))) (d, n) n ≡ (if q && (text_eq d e.name && text_eq n x) then y else said es)
  step true e es = step-by (text_eq d e.name && text_eq n x) e es
  step false e es = refl

  -- a class of the name, where all of the name pass the test or fail it
  named-by : (w z s : Bool) → (if w && z then y else (if (w && s) && z then y else n)) ≡ (if (w && true) && z then y else n)
  named-by true true s = refl
  named-by true false true = refl
  named-by true false false = refl
  named-by false z s = refl

  -- any class
  either-by : (q t w z s : Bool) → (t ≡ true → q ≡ w) → (if q && (t && z) then y else (if (w && s) && z then y else n)) ≡ (if (w && (t || s)) && z then y else n)
  either-by q true w z s h = ap (λ b. if b && z then y else (if (w && s) && z then y else n)) (h refl) ∙ named-by w z s
  either-by true false w z s h = refl
  either-by false false w z s h = refl

  -- no class
  none-by : (w z : Bool) → n ≡ (if (w && false) && z then y else n)
  none-by true z = refl
  none-by false z = refl

  -- so entries say the new name of the old one, where a class of the name passes the test
  entries-said : (w : Bool) (cs : List (ClassOf Name)) → AllByRecursion (λ (e : ClassOf Name). text_eq d e.name ≡ true → p e ≡ w) cs → said cs ≡ (if (w && is_on d cs) && text_eq n x then y else n)
  entries-said w [] a = none-by w (text_eq n x)
  entries-said w (e ∷ es) a =
      step (p e) e es
      ∙ ap (λ m. if p e && (text_eq d e.name && text_eq n x) then y else m) (entries-said w es a.1)
      ∙ either-by (p e) (text_eq d e.name) w (text_eq n x) (is_on d es) a.0

module _ (i : ImageOf Name) (ordered : HasOrderedClasses i) (c x y : Name) where
  -- a class of the name stands below where the class stands above the name
  below-above : (d : Name) → AllByRecursion (λ (e : ClassOf Name). text_eq d e.name ≡ true → stands_below text_eq i.classes c e ≡ stands_above i c d) i.classes
  below-above d =
      at-all _ i.classes
      (λ j e at t.
      ap (λ o. is_on c (chain_from text_eq i.classes o)) (sym (ap (class_named text_eq i.classes) (text-same d e.name t) ∙ named-found i ordered i.classes ordered.distinct j e at)))

  -- above the name of no class none stands
  nothing-above : (d : Name) → is_on d i.classes ≡ false → stands_above i c d ≡ false
  nothing-above d none =
      ap (λ o. is_on c (chain_from text_eq i.classes o)) (find-nothing (λ (e : ClassOf Name). text_eq d e.name) i.classes (each-fails (λ (e : ClassOf Name). text_eq d e.name) i.classes none))
      ∙ ap (is_on c) (upwards-none (superclass_of text_eq i.classes) (length i.classes))

  there-by : (d : Name) → (stands_above i c d && is_on d i.classes) ≡ stands_above i c d
  there-by d =
      by_cases (is_on d i.classes)
      (λ t. ap (λ b. stands_above i c d && b) t ∙ and-true (stands_above i c d))
      (λ t. (λ k. nothing-above d t k && t k) ∙ sym (nothing-above d t))
    where
      and-true : (b : Bool) → (b && true) ≡ b
      and-true true = refl
      and-true false = refl

  -- the renaming calls a variable of a class as the maps do
  pub called-below : (k : OfClass) → mapped same_pair (in_classes_below i c x y) k k.1 ≡ renamed_below i c x y k
  called-below k =
      entries-said x y k.0 k.1 (stands_below text_eq i.classes c) (stands_above i c k.0) i.classes (below-above k.0)
      ∙ (λ j. if there-by k.0 j && text-turned k.1 x j then y else k.1)
