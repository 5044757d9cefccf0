-- Whether the methods are low that a part of a method becomes, by what is made of them.
use Rattle.std.proofs.Common.{◌≡◌, ℕ, ◌&&◌, Bool, true, false, not, List, Option, Some, refl, ap, ◌∙◌}
use Rattle.std.specs.Option.{option_map_or}
use Rattle.tree_model.specs.Tree.{MethodOf}
use Rattle.tree_model.specs.Normal.{normal}
use Rattle.image_model.specs.Image.{EntryOf}
use Rattle.class_table.specs.Slots.{Slots}
use Rattle.class_table.specs.View.{number_image}
use Rattle.command_model.specs.Asked.{no_parts}
use Rattle.command_model.specs.CodeHolds.{are_low_extracted}
use Rattle.command_model.specs.Extracted as extracted
use Rattle.command_model.specs.Numbers.{number_asked}
use Rattle.command_model.specs.ParameterConditions.{is_low}
use Rattle.command_model.specs.Parts.{Part}
use Rattle.commands.specs.Views.{self_in}
use Rattle.commands.specs.declared.command.MethodPart.{MethodPart}
use Rattle.code_conditions.specs.Trees.{asked, users_part, is_shallow_extracted}
use Rattle.code_conditions.proofs.Made.{not-not}

not-high : (b : Bool) → not b ≡ false → true ≡ b
not-high true e = refl
not-high false e = absurd (cc)

high : (b : Bool) → not b ≡ true → false ≡ b
high true e = absurd (cc)
high false e = refl

module _ (s : Slots) (p : MethodPart) (t : ℕ) (m : EntryOf ℕ) (part : Part) (is : ◌≡◌ {A = Option (EntryOf ℕ × Part)} (Some (m, part)) (users_part s p)) (ns : List (List ℕ)) (k : ℕ) (same_names : ns ≡ s.names) (self : k ≡ self_in ns) where
  -- the method that the part is taken from, after
  abbrev after : MethodOf ℕ
  after = normal (extracted.part_replaced m.tree part (extracted.call_of (asked s) t m.tree part))

  -- what is made is made of the names of the image
  pub method-told : extracted.method_of (number_asked ns k no_parts) t m.tree part ≡ extracted.method_of (asked s) t m.tree part
  method-told = ap (λ (xs : List (List ℕ)). extracted.method_of (number_asked xs k no_parts) t m.tree part) same_names

  pub sender-told : normal (extracted.part_replaced m.tree part (extracted.call_of (number_asked ns k no_parts) t m.tree part)) ≡ after
  sender-told = λ j. normal (extracted.part_replaced m.tree part (extracted.call_of (number_asked (same_names j) ((self ∙ ap self_in same_names) j) no_parts) t m.tree part))

  found-told : are_low_extracted (asked s) (number_image s) t m part ≡ is_shallow_extracted s p t
  found-told = ap (λ (o : Option (EntryOf ℕ × Part)). option_map_or (λ (e : EntryOf ℕ × Part). are_low_extracted (asked s) (number_image s) t e.0 e.1) o false) is

  module _ (made : MethodOf ℕ) (e : made ≡ extracted.method_of (number_asked ns k no_parts) t m.tree part) where
    pub extracted_high : not (is_low made.body) ≡ true → false ≡ is_shallow_extracted s p t
    extracted_high h =
        ap (λ (b : Bool). b && is_low after.body) (high (is_low made.body) h ∙ ap (λ (x : MethodOf ℕ). is_low x.body) (e ∙ method-told))
        ∙ found-told

    pub extracted_low : not (is_low made.body) ≡ false → (sender : MethodOf ℕ) → sender ≡ normal (extracted.part_replaced m.tree part (extracted.call_of (number_asked ns k no_parts) t m.tree part))
        → (tall : Bool) → tall ≡ not (is_low sender.body) → not tall ≡ is_shallow_extracted s p t
    extracted_low h sender sent tall is_tall =
        ap not is_tall
        ∙ not-not (is_low sender.body)
        ∙ ap (λ (x : MethodOf ℕ). is_low x.body) (sent ∙ sender-told)
        ∙ ap (λ (b : Bool). b && is_low after.body) (not-high (is_low made.body) h ∙ ap (λ (x : MethodOf ℕ). is_low x.body) (e ∙ method-told))
        ∙ found-told
