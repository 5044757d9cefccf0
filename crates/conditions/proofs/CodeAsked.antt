-- What is found in the code of an image, as the conditions ask it.
use Rattle.std.proofs.Common.{◌≡◌, ℕ, ◌&&◌, ◌||◌, not, Bool, true, false, List, [], ◌∷◌, refl, ap, ◌∙◌}
use Rattle.std.specs.Prelude.{nat_eq}
use Rattle.std.specs.List.{list_any}
use Rattle.tree_model.specs.Nodes.{nodes}
use Rattle.image_model.specs.Image.{EntryOf, DoItOf, ImageOf}
use Rattle.rename_model.specs.Conditions.{speaks_of, is_method_below, is_known_selector}
use Rattle.rename_model.specs.NamesThere.{is_named_in_method}
use Rattle.code_questions.specs.declared.question.Question.{Question}
use Rattle.code_questions.specs.declared.question.Way.TheVariants as way
use Rattle.code_questions.specs.declared.question.Whose.TheVariants as whose
use Rattle.code_questions.specs.Questions.{is_method_found, is_doit_found, is_found}

-- a test that never passes
never : {X : Type 0} (xs : List X) → list_any (λ x. false) xs ≡ false
never [] = refl
never (x ∷ xs) = never xs

-- two tests that are one
any-same : {X : Type 0} (p q : X → Bool) → ((x : X) → p x ≡ q x) → (xs : List X) → list_any p xs ≡ list_any q xs
any-same p q same [] = refl
any-same p q same (x ∷ xs) = λ i. same x i || any-same p q same xs i

or-false : (b : Bool) → (b || false) ≡ b
or-false true = refl
or-false false = refl

module _ (i : ImageOf ℕ) where
  -- where no do-it is found, methods alone are
  methods-alone : (q : Question) (p : EntryOf ℕ → Bool) → ((m : EntryOf ℕ) → is_method_found i q m ≡ p m) → ((d : DoItOf ℕ) → is_doit_found q d ≡ false) → is_found i q ≡ list_any p i.methods
  methods-alone q p methods doits =
      (λ j. any-same (is_method_found i q) p methods i.methods j || (any-same (is_doit_found q) (λ d. false) doits i.doits ∙ never i.doits) j)
      ∙ or-false (list_any p i.methods)

  pub kernel-speaks : (s : ℕ) → is_found i (record { whose = whose.Kernel; what = way.Spoken; name = s }) ≡ list_any (λ (m : EntryOf ℕ). m.kernel && speaks_of nat_eq s m) i.methods
  kernel-speaks s = methods-alone (record { whose = whose.Kernel; what = way.Spoken; name = s }) (λ (m : EntryOf ℕ). m.kernel && speaks_of nat_eq s m) (λ m. refl) (λ d. refl)

  pub users-have : (s : ℕ) → is_found i (record { whose = whose.Users; what = way.Selector; name = s }) ≡ is_known_selector nat_eq i s
  users-have s =
      methods-alone (record { whose = whose.Users; what = way.Selector; name = s }) (λ (m : EntryOf ℕ). not m.kernel && nat_eq s m.tree.selector)
      (λ m.
      ap (λ (b : Bool). not m.kernel && (nat_eq s m.tree.selector || b)) (never (nodes m.tree.body))
      ∙ ap (λ (b : Bool). not m.kernel && b) (or-false (nat_eq s m.tree.selector)))
      (λ d. never (nodes d.body))

  pub named-below : (c x : ℕ) → is_found i (record { whose = whose.Below c; what = way.Named; name = x }) ≡ list_any (λ (m : EntryOf ℕ). is_method_below nat_eq i.classes c m && is_named_in_method nat_eq x m) i.methods
  named-below c x =
      methods-alone (record { whose = whose.Below c; what = way.Named; name = x }) (λ (m : EntryOf ℕ). is_method_below nat_eq i.classes c m && is_named_in_method nat_eq x m) (λ m. refl) (λ d. refl)
