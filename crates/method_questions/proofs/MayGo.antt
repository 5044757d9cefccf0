-- Whether a method may go, from the slots of the method and of what is inherited in place of it.
use Rattle.std.proofs.Common.{◌≡◌, ℕ, Bool, true, false, ◌||◌, Option, Some, None, option_map, refl, ap, sym, ◌∙◌}
use Rattle.std.specs.Prelude.{nat_eq}
use Rattle.std.specs.Option.{option_map_or, option_and_then}
use Rattle.image_model.specs.Image.{EntryOf}
use Rattle.image_model.specs.Words.{number_words}
use Rattle.image_model.specs.Lookup.{own_method, super_lookup}
use Rattle.class_table.specs.Slots.{Slots}
use Rattle.class_table.specs.View.{entry_of, number_image}
use Rattle.class_table.specs.Valid.{IsOrderly}
use Rattle.command_model.specs.SameMethods.{is_same_method}
use Rattle.command_model.specs.MethodConditions.{is_sent_nowhere, is_removable}
use Rattle.commands.specs.Views.{asked_by}
use Rattle.method_questions.specs.Found.{bare_entry, opened_at, named_slot, inherited_slot, are_same}
use Rattle.method_questions.proofs.OwnMethods.{opened-named, named-holds, opened-holds}
use Rattle.method_questions.proofs.Inherited.{opened-inherited}

module _ (s : Slots) (orderly : IsOrderly s) (n : ℕ) (meta : Bool) (selector : ℕ) where
  abbrev unsent : Bool
  unsent = is_sent_nowhere (number_words s.names) (number_image s) selector

  abbrev same : EntryOf ℕ → EntryOf ℕ → Bool
  same = is_same_method (number_words s.names) (asked_by s.names).is_super (number_image s) (number_image s)

  abbrev pub removable : Bool
  removable = is_removable (number_words s.names) (asked_by s.names).is_super (number_image s) n meta selector

  -- what is no code does not count
  bared : (o r : Option (EntryOf ℕ)) → option_map_or (λ m. unsent || option_map_or (same m) r false) o false ≡ option_map_or (λ m. unsent || option_map_or (same m) (option_map bare_entry r) false) (option_map bare_entry o) false
  bared None r = refl
  bared (Some m) None = refl
  bared (Some m) (Some k) = refl

  in-slots : removable ≡ option_map_or (λ m. unsent || option_map_or (same m) (option_and_then (opened_at s) (inherited_slot s n meta selector)) false) (option_and_then (opened_at s) (named_slot s n meta selector)) false
  in-slots =
      bared (own_method nat_eq (number_image s).methods n meta selector) (super_lookup (number_words s.names) (number_image s) (Some n) meta selector)
      ∙ (λ i. option_map_or (λ m. unsent || option_map_or (same m) (sym (opened-inherited s orderly n meta selector) i) false) (sym (opened-named s orderly meta selector n) i) false)

  -- there is no such method
  pub not-there : named_slot s n meta selector ≡ None → removable ≡ false
  not-there e = in-slots ∙ ap (λ o. option_map_or (λ m. unsent || option_map_or (same m) (option_and_then (opened_at s) (inherited_slot s n meta selector)) false) (option_and_then (opened_at s) o) false) e

  -- its selector is sent nowhere
  pub sent-nowhere : (y : ℕ) → named_slot s n meta selector ≡ Some y → unsent ≡ true → removable ≡ true
  sent-nowhere y e t =
      in-slots
      ∙ ap (λ o. option_map_or (λ m. unsent || option_map_or (same m) (option_and_then (opened_at s) (inherited_slot s n meta selector)) false) o false) (ap (option_and_then (opened_at s)) e ∙ opened-holds s orderly meta selector y (named-holds s orderly meta selector n y e))
      ∙ ap (λ (b : Bool). b || option_map_or (same (bare_entry (entry_of s.classes (named-holds s orderly meta selector n y e).method))) (option_and_then (opened_at s) (inherited_slot s n meta selector)) false) t

  -- it is sent
  pub sent-somewhere : (y : ℕ) → named_slot s n meta selector ≡ Some y → unsent ≡ false → (o : Option ℕ) → inherited_slot s n meta selector ≡ o → removable ≡ are_same s (opened_at s y) (option_and_then (opened_at s) o)
  sent-somewhere y e f o q =
      in-slots
      ∙ (λ i. option_map_or (λ m. f i || option_map_or (same m) (option_and_then (opened_at s) (q i)) false) (option_and_then (opened_at s) (e i)) false)

  -- nothing is inherited
  pub nothing : (o : Option (EntryOf ℕ)) → are_same s o None ≡ false
  nothing None = refl
  nothing (Some m) = refl
