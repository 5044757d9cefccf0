-- A command that is judged over the numbers of names is judged so over their texts.
use Rattle.std.proofs.Common.{◌≡◌, ◌<◌, ℕ, List, length, Option, None, Some, Ok, Err, sym, ap, ◌∙◌}
use Rattle.std.specs.Option.{option_map_or}
use Rattle.rb_base.specs.Names.{HasNoTwice, name_at}
use Rattle.image_model.specs.Image.{ImageOf, map_image}
use Rattle.image_model.specs.ImageNames.{ImageNames}
use Rattle.class_table.specs.Slots.{Slots}
use Rattle.class_table.specs.Valid.{IsOrderly}
use Rattle.class_table.specs.View.{number_image, image_of}
use Rattle.command_model.specs.Asked.{asked_of_texts, text_asked}
use Rattle.command_model.specs.PartsOfText.{parts_of_text}
use Rattle.command_model.specs.Commands.{CommandOf}
use Rattle.command_model.specs.Conditions.{ConditionOf}
use Rattle.command_model.specs.Effects.{effect}
use Rattle.command_model.specs.Judged.{first_false, judged}
use Rattle.command_model.specs.Located.{Locating}
use Rattle.command_model.specs.Numbers.{number_asked, number_writing}
use Rattle.rename_model.specs.ClassRenamed.{canonical}
use Rattle.command_numbers.specs.CommandNames.{CommandNames}
use Rattle.command_numbers.specs.MappedCommands.{map_command, map_condition}
use Rattle.commands.specs.declared.command.Command.{Command}
use Rattle.commands.specs.Views.{command_of, self_in, HasSelf, asked_by}
use Rattle.code_command_numbers.specs.SelfNumber.{IsNumberOfSelf}
use Rattle.wider_slots.specs.Wider.{Wider}
use Rattle.wider_slots.proofs.Images.{numbers-still}

-- what is known of verdicts over the numbers of names
abbrev pub Accepts : Type 0
Accepts =
    (names : List (List ℕ)) (self_number : ℕ) (part_of : Locating) (i j : ImageOf ℕ) (command : CommandOf ℕ) → HasNoTwice names → IsNumberOfSelf names self_number → ImageNames (λ n. n < length names) i → CommandNames (λ n. n < length names) command
    → judged (number_asked names self_number part_of) (number_writing names) i command ≡ Ok j → judged (asked_of_texts part_of) canonical (map_image (name_at names) i) (map_command (name_at names) command) ≡ Ok (map_image (name_at names) j)

abbrev pub Refuses : Type 0
Refuses =
    (names : List (List ℕ)) (self_number : ℕ) (part_of : Locating) (i : ImageOf ℕ) (command : CommandOf ℕ) (condition : ConditionOf ℕ) → HasNoTwice names → IsNumberOfSelf names self_number → ImageNames (λ n. n < length names) i → CommandNames (λ n. n < length names) command
    → judged (number_asked names self_number part_of) (number_writing names) i command ≡ Err condition → judged (asked_of_texts part_of) canonical (map_image (name_at names) i) (map_command (name_at names) command) ≡ Err (map_condition (name_at names) condition)

-- the number of `self` in a table that has it
number-of-self : (names : List (List ℕ)) → HasSelf names → IsNumberOfSelf names (self_in names)
number-of-self names has = record { known = has.0; spelled = has.1 }

module _ (s : Slots) (c : Command) (orderly : IsOrderly s) (has : HasSelf s.names) (known : CommandNames (λ n. n < length s.names) (command_of c)) where
  -- what becomes of it over numbers, by the first condition that is false
  by_numbers : (o : Option (ConditionOf ℕ)) → first_false (asked_by s.names) (number_image s) (command_of c) ≡ o
      → judged (asked_by s.names) (number_writing s.names) (number_image s) (command_of c)
      ≡ option_map_or (λ condition. Err condition) o (Ok (effect (asked_by s.names) (number_writing s.names) (command_of c) (number_image s)))
  by_numbers o e = ap (λ (p : Option (ConditionOf ℕ)). option_map_or (λ condition. Err condition) p (Ok (effect (asked_by s.names) (number_writing s.names) (command_of c) (number_image s)))) e

  -- it is refused for the condition
  pub refused-texts : Refuses → (q : ConditionOf ℕ) → first_false (asked_by s.names) (number_image s) (command_of c) ≡ Some q
      → judged text_asked canonical (image_of s) (map_command (name_at s.names) (command_of c)) ≡ Err (map_condition (name_at s.names) q)
  refused-texts law q e = law s.names (self_in s.names) parts_of_text (number_image s) (command_of c) q orderly.names_distinct (number-of-self s.names has) orderly.names_known known (by_numbers (Some q) e)

  -- or makes what its changes make of slots with room for them
  pub accepted-texts : Accepts → (p t : Slots) → Wider s p → p.names ≡ s.names → first_false (asked_by s.names) (number_image s) (command_of c) ≡ None
      → number_image t ≡ effect (asked_by p.names) (number_writing p.names) (command_of c) (number_image p) → t.names ≡ p.names
      → judged text_asked canonical (image_of s) (map_command (name_at s.names) (command_of c)) ≡ Ok (image_of t)
  accepted-texts law p t room same e made names =
      let numbers : number_image p ≡ number_image s = ap number_image room.state ∙ numbers-still s room.closed room.more in
      let there : number_image t ≡ effect (asked_by s.names) (number_writing s.names) (command_of c) (number_image s) =
      made ∙ (λ i. effect (asked_by (same i)) (number_writing (same i)) (command_of c) (numbers i)) in
      law s.names (self_in s.names) parts_of_text (number_image s) (number_image t) (command_of c) orderly.names_distinct (number-of-self s.names has) orderly.names_known known (by_numbers None e ∙ ap (λ (j : ImageOf ℕ). Ok j) (sym there))
      ∙ ap (λ (ns : List (List ℕ)). Ok (map_image (name_at ns) (number_image t))) (sym (names ∙ same))
