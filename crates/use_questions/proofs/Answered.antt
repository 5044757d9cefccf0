-- What is found answers what commands ask.
use Rattle.std.proofs.Common.{◌≡◌, ℕ, Bool, true, false, not, ◌&&◌, Option, refl, sym, ap, ◌∙◌}
use Rattle.std.specs.Prelude.{nat_eq}
use Rattle.std.specs.List.{list_any, list_all}
use Rattle.std.specs.Option.{option_map_or}
use Rattle.scope_model.specs.Control.{is_empty}
use Rattle.image_model.specs.Image.{EntryOf, ImageOf}
use Rattle.image_model.specs.Means as means
use Rattle.image_model.specs.Nodes.{Place, Use}
use Rattle.image_model.specs.Words.{WordsOf, number_words}
use Rattle.image_model.specs.Uses.{class_uses, variable_uses}
use Rattle.rename_model.specs.Conditions.{has_variable}
use Rattle.command_model.specs.Commands.{CommandOf}
use Rattle.command_model.specs.Commands as model
use Rattle.command_model.specs.Hierarchy.{is_class, is_method_of}
use Rattle.command_model.specs.ClassConditions.{is_in_method_that, is_not_referenced}
use Rattle.command_model.specs.VariableConditions.{is_looked_through, is_unused_for}
use Rattle.class_table.specs.Slots.{Slots}
use Rattle.class_table.specs.View.{number_image}
use Rattle.name_meanings.specs.declared.meaning.VariableKind.{VariableKind}
use Rattle.name_meanings.specs.Meanings.{kind_of}
use Rattle.use_questions.specs.declared.question.Meant.TheVariants as meant
use Rattle.use_questions.specs.declared.question.Whose.{Whose}
use Rattle.use_questions.specs.declared.question.Whose.TheVariants as whose
use Rattle.use_questions.specs.Questions.{is_asked, are_doits_asked, is_found}
use Rattle.use_questions.proofs.Tests.{any-item, all-pass}
use Rattle.use_questions.proofs.Uses.{uses-found}

module _ (s : Slots) (found : Bool) (c : ℕ) where
  abbrev w : WordsOf ℕ
  w = number_words s.names

  abbrev i : ImageOf ℕ
  i = number_image s

  -- some node means the class
  pub used : found ≡ is_found s (record { whose = whose.Everyone; what = meant.Class c }) → found ≡ not (is_empty (class_uses w i c))
  used e =
      e
      ∙ sym (uses-found s (meant.Class c) (λ (p : Place). true) (λ (m : EntryOf ℕ). true) true (λ k m f. refl) (λ k. refl))
      ∙ sym (any-item (class_uses w i c))

  -- each node that means the class that is there stands in a method of the class
  pub not-referenced : found ≡ is_found s (record { whose = whose.Outside c; what = meant.Class c }) → is_class nat_eq i c ≡ true → not found ≡ is_not_referenced w i c
  not-referenced e known =
      let inside : Place → Bool = λ p. is_in_method_that (is_method_of nat_eq c) i p in
      ap not (e
      ∙ sym (uses-found s (meant.Class c) (λ p. not (inside p)) (λ (m : EntryOf ℕ). not (is_method_of nat_eq c m)) true
      (λ k m f. ap (λ (o : Option (EntryOf ℕ)). not (option_map_or (is_method_of nat_eq c) o false)) f) (λ k. refl)))
      ∙ sym (all-pass (λ (u : Use). inside u.place) (class_uses w i c))
      ∙ ap (λ (b : Bool). b && list_all (λ (u : Use). inside u.place) (class_uses w i c)) (sym known)

  -- no node of the methods that are looked through means the variable that the class has
  module _ (command : CommandOf ℕ) (looked : Whose) (methods : (m : EntryOf ℕ) → is_asked i looked m ≡ is_looked_through nat_eq i.classes command c m) (doits : are_doits_asked looked ≡ false) where
    abbrev inside : Place → Bool
    inside p = is_in_method_that (is_looked_through nat_eq i.classes command c) i p

    abbrev is_used : ℕ → means.VariableKind → Bool
    is_used x kind = list_any (λ (u : Use). inside u.place) (variable_uses w i c x kind)

    pub unused : (kind : VariableKind) (x : ℕ) → found ≡ is_found s (record { whose = looked; what = meant.Variable kind c x }) → kind_of kind ≡ model.kind_of command → has_variable nat_eq i (kind_of kind) c x ≡ true
        → not found ≡ is_unused_for w i command c x
    unused kind x e same known =
        ap not (e
        ∙ sym (uses-found s (meant.Variable kind c x) inside (is_asked i looked) (are_doits_asked looked)
        (λ k m f. ap (λ (o : Option (EntryOf ℕ)). option_map_or (is_looked_through nat_eq i.classes command c) o false) f ∙ sym (methods m)) (λ k. sym doits)))
        ∙ ap (λ (b : Bool). b && not (is_used x (kind_of kind))) (sym known)
        ∙ ap (λ (k : means.VariableKind). has_variable nat_eq i k c x && not (is_used x k)) same
