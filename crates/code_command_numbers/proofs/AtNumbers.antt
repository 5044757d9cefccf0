-- All commands over the numbers of names in a table: over their texts, and in a longer table.
use Rattle.std.proofs.Common.{◌≡◌, ℕ, ◌<◌, List, ◌++◌, length, map, Result, sym, ap, ◌∙◌}
use Rattle.std.specs.List.{AllByRecursion}
use Rattle.std.specs.Result.{result_map_both}
use Rattle.rb_base.specs.Names.{HasNoTwice, name_at}
use Rattle.image_model.specs.Image.{ImageOf, map_image}
use Rattle.image_model.specs.ImageNames.{ImageNames}
use Rattle.image_model.proofs.MapImage.{map_image-id}
use Rattle.rename_model.specs.ClassRenamed.{canonical}
use Rattle.command_model.specs.Located.{Locating}
use Rattle.command_model.specs.Asked.{asked_of_texts, text_asked}
use Rattle.command_model.specs.PartsOfText.{parts_of_text}
use Rattle.command_model.specs.Commands.{CommandOf, MovesNoCode}
use Rattle.command_model.specs.Conditions.{ConditionOf}
use Rattle.command_model.specs.Numbers.{number_asked, number_writing}
use Rattle.command_model.specs.Needs.{needs}
use Rattle.command_model.specs.Holds.{holds}
use Rattle.command_model.specs.Effects.{effect}
use Rattle.command_model.specs.Judged.{first_false, judged}
use Rattle.command_numbers.specs.MappedCommands.{map_command, map_condition}
use Rattle.command_numbers.specs.CommandNames.{CommandNames, ConditionNames}
use Rattle.command_numbers.specs.WithoutMove.{IsWithoutMove}
use Rattle.command_numbers.proofs.CommandsMapped.{map_command-id, map_condition-id, list-same, option-same, result-same}
use Rattle.command_numbers.proofs.Tables.{KeepsWriting-number_writing, KeepsWriting-more}
use Rattle.code_command_numbers.specs.SelfNumber.{IsNumberOfSelf}
use Rattle.code_command_numbers.proofs.MovesCode.{moves_or_not, of_move_or_not}
use Rattle.code_command_numbers.proofs.MovedNamed.{moved_needs-named, moved_holds-named, moved_effect-named}
use Rattle.code_command_numbers.proofs.AllNamed.{first_by, judged_by, all_needs-named, all_holds-named, all_effect-named}
use Rattle.code_command_numbers.proofs.PartsUnasked.{no_move-mapped, without_move-mapped, needs-parts, holds-parts, effect-parts}
use Rattle.code_command_numbers.proofs.Tables.{KeepsMoves-number_asked, KeepsMoves-more}

-- over their texts, by what is known of the commands that move no code
module _ (names : List (List ℕ)) (self_number : ℕ) (part_of : Locating) (distinct : HasNoTwice names) (is_self : IsNumberOfSelf names self_number) (i : ImageOf ℕ) (p : ImageNames (λ n. n < length names) i) where
  pub needs-texts : ((command : CommandOf ℕ) → CommandNames (λ n. n < length names) command → MovesNoCode command
      → needs text_asked (map_image (name_at names) i) (map_command (name_at names) command) ≡ map (map_condition (name_at names)) (needs (number_asked names self_number part_of) i command))
      → (command : CommandOf ℕ) → CommandNames (λ n. n < length names) command
      → needs (asked_of_texts part_of) (map_image (name_at names) i) (map_command (name_at names) command) ≡ map (map_condition (name_at names)) (needs (number_asked names self_number part_of) i command)
  needs-texts law =
      all_needs-named (λ n. n < length names) (name_at names) (number_asked names self_number part_of) (asked_of_texts part_of) (KeepsMoves-number_asked names self_number part_of distinct is_self) i p
      (λ command q still. needs-parts part_of parts_of_text (map_image (name_at names) i) (map_command (name_at names) command) (no_move-mapped (name_at names) command still) ∙ law command q still)

  pub holds-texts : ((command : CommandOf ℕ) (condition : ConditionOf ℕ) → CommandNames (λ n. n < length names) command → ConditionNames (λ n. n < length names) condition → IsWithoutMove command condition
      → holds text_asked (map_image (name_at names) i) (map_command (name_at names) command) (map_condition (name_at names) condition) ≡ holds (number_asked names self_number part_of) i command condition)
      → (command : CommandOf ℕ) (condition : ConditionOf ℕ) → CommandNames (λ n. n < length names) command → ConditionNames (λ n. n < length names) condition
      → holds (asked_of_texts part_of) (map_image (name_at names) i) (map_command (name_at names) command) (map_condition (name_at names) condition) ≡ holds (number_asked names self_number part_of) i command condition
  holds-texts law =
      all_holds-named (λ n. n < length names) (name_at names) (number_asked names self_number part_of) (asked_of_texts part_of) (KeepsMoves-number_asked names self_number part_of distinct is_self) i p
      (λ command condition q r still. holds-parts part_of parts_of_text (map_image (name_at names) i) (map_command (name_at names) command) (map_condition (name_at names) condition) (without_move-mapped (name_at names) command condition still)
      ∙ law command condition q r still)

  pub effect-texts : ((command : CommandOf ℕ) → CommandNames (λ n. n < length names) command → MovesNoCode command
      → effect text_asked canonical (map_command (name_at names) command) (map_image (name_at names) i) ≡ map_image (name_at names) (effect (number_asked names self_number part_of) (number_writing names) command i))
      → (command : CommandOf ℕ) → CommandNames (λ n. n < length names) command
      → effect (asked_of_texts part_of) canonical (map_command (name_at names) command) (map_image (name_at names) i) ≡ map_image (name_at names) (effect (number_asked names self_number part_of) (number_writing names) command i)
  effect-texts law =
      all_effect-named (λ n. n < length names) (name_at names) (number_asked names self_number part_of) (asked_of_texts part_of) (KeepsMoves-number_asked names self_number part_of distinct is_self) i p
      (number_writing names) canonical (KeepsWriting-number_writing names)
      (λ command q still. effect-parts part_of parts_of_text (map_image (name_at names) i) canonical (map_command (name_at names) command) (no_move-mapped (name_at names) command still) ∙ law command q still)

  -- a verdict on numbers is one on texts
  pub verdict : (command : CommandOf ℕ) (r : Result (ImageOf ℕ) (ConditionOf ℕ))
      → judged (asked_of_texts part_of) canonical (map_image (name_at names) i) (map_command (name_at names) command) ≡ result_map_both (map_image (name_at names)) (map_condition (name_at names)) (judged (number_asked names self_number part_of) (number_writing names) i command)
      → judged (number_asked names self_number part_of) (number_writing names) i command ≡ r
      → judged (asked_of_texts part_of) canonical (map_image (name_at names) i) (map_command (name_at names) command) ≡ result_map_both (map_image (name_at names)) (map_condition (name_at names)) r
  verdict command r law e = law ∙ ap (λ (t : Result (ImageOf ℕ) (ConditionOf ℕ)). result_map_both (map_image (name_at names)) (map_condition (name_at names)) t) e

-- in a longer table, by what is known of the commands that move no code
module _ (names more : List (List ℕ)) (self_number : ℕ) (part_of : Locating) (known : self_number < length names) (i : ImageOf ℕ) (p : ImageNames (λ n. n < length names) i) where
  pub needs-more : ((command : CommandOf ℕ) → CommandNames (λ n. n < length names) command → MovesNoCode command
      → needs (number_asked (names ++ more) self_number part_of) i command ≡ needs (number_asked names self_number part_of) i command)
      → (command : CommandOf ℕ) → CommandNames (λ n. n < length names) command → needs (number_asked (names ++ more) self_number part_of) i command ≡ needs (number_asked names self_number part_of) i command
  needs-more law =
      moves_or_not (λ command. CommandNames (λ n. n < length names) command → needs (number_asked (names ++ more) self_number part_of) i command ≡ needs (number_asked names self_number part_of) i command)
      (λ command still q. law command q still)
      (λ command moves q. (λ j. needs (number_asked (names ++ more) self_number part_of) (sym (map_image-id i) j) (sym (map_command-id command) j))
      ∙ moved_needs-named (λ n. n < length names) (λ n. n) (number_asked names self_number part_of) (number_asked (names ++ more) self_number part_of) (KeepsMoves-more names more self_number part_of known) i command p q moves
      ∙ list-same (map_condition (λ n. n)) map_condition-id (needs (number_asked names self_number part_of) i command))

  pub holds-more : ((command : CommandOf ℕ) (condition : ConditionOf ℕ) → CommandNames (λ n. n < length names) command → ConditionNames (λ n. n < length names) condition → IsWithoutMove command condition
      → holds (number_asked (names ++ more) self_number part_of) i command condition ≡ holds (number_asked names self_number part_of) i command condition)
      → (command : CommandOf ℕ) (condition : ConditionOf ℕ) → CommandNames (λ n. n < length names) command → ConditionNames (λ n. n < length names) condition
      → holds (number_asked (names ++ more) self_number part_of) i command condition ≡ holds (number_asked names self_number part_of) i command condition
  holds-more law =
      of_move_or_not (λ command condition. CommandNames (λ n. n < length names) command → ConditionNames (λ n. n < length names) condition → holds (number_asked (names ++ more) self_number part_of) i command condition ≡ holds (number_asked names self_number part_of) i command condition)
      (λ command condition still q r. law command condition q r still)
      (λ command condition moves q r. (λ j. holds (number_asked (names ++ more) self_number part_of) (sym (map_image-id i) j) (sym (map_command-id command) j) (sym (map_condition-id condition) j))
      ∙ moved_holds-named (λ n. n < length names) (λ n. n) (number_asked names self_number part_of) (number_asked (names ++ more) self_number part_of) (KeepsMoves-more names more self_number part_of known) i command condition p q r moves)

  pub effect-more : ((command : CommandOf ℕ) → CommandNames (λ n. n < length names) command → MovesNoCode command
      → effect (number_asked (names ++ more) self_number part_of) (number_writing (names ++ more)) command i ≡ effect (number_asked names self_number part_of) (number_writing names) command i)
      → (command : CommandOf ℕ) → CommandNames (λ n. n < length names) command
      → effect (number_asked (names ++ more) self_number part_of) (number_writing (names ++ more)) command i ≡ effect (number_asked names self_number part_of) (number_writing names) command i
  effect-more law =
      moves_or_not (λ command. CommandNames (λ n. n < length names) command → effect (number_asked (names ++ more) self_number part_of) (number_writing (names ++ more)) command i ≡ effect (number_asked names self_number part_of) (number_writing names) command i)
      (λ command still q. law command q still)
      (λ command moves q. (λ j. effect (number_asked (names ++ more) self_number part_of) (number_writing (names ++ more)) (sym (map_command-id command) j) (sym (map_image-id i) j))
      ∙ moved_effect-named (λ n. n < length names) (λ n. n) (number_asked names self_number part_of) (number_asked (names ++ more) self_number part_of) (KeepsMoves-more names more self_number part_of known)
      (number_writing names) (number_writing (names ++ more)) (KeepsWriting-more names more) i command p q moves
      ∙ map_image-id (effect (number_asked names self_number part_of) (number_writing names) command i))

  -- the first condition that is false, and the verdict
  module _ (command : CommandOf ℕ) where
    pub first_false-more : needs (number_asked (names ++ more) self_number part_of) i command ≡ needs (number_asked names self_number part_of) i command
        → ((condition : ConditionOf ℕ) → ConditionNames (λ n. n < length names) condition → holds (number_asked (names ++ more) self_number part_of) i command condition ≡ holds (number_asked names self_number part_of) i command condition)
        → AllByRecursion (ConditionNames (λ n. n < length names)) (needs (number_asked names self_number part_of) i command)
        → first_false (number_asked (names ++ more) self_number part_of) i command ≡ first_false (number_asked names self_number part_of) i command
    first_false-more asks answers named =
        first_by (λ n. n < length names) (λ n. n) (number_asked names self_number part_of) (number_asked (names ++ more) self_number part_of) i i command command
        (asks ∙ sym (list-same (map_condition (λ n. n)) map_condition-id (needs (number_asked names self_number part_of) i command)))
        (λ condition r. (λ j. holds (number_asked (names ++ more) self_number part_of) i command (map_condition-id condition j)) ∙ answers condition r) named
        ∙ option-same (map_condition (λ n. n)) map_condition-id (first_false (number_asked names self_number part_of) i command)

    pub judged-more : first_false (number_asked (names ++ more) self_number part_of) i command ≡ first_false (number_asked names self_number part_of) i command
        → effect (number_asked (names ++ more) self_number part_of) (number_writing (names ++ more)) command i ≡ effect (number_asked names self_number part_of) (number_writing names) command i
        → judged (number_asked (names ++ more) self_number part_of) (number_writing (names ++ more)) i command ≡ judged (number_asked names self_number part_of) (number_writing names) i command
    judged-more first changes =
        judged_by (λ n. n < length names) (λ n. n) (number_asked names self_number part_of) (number_asked (names ++ more) self_number part_of) i i command command (number_writing names) (number_writing (names ++ more))
        (first ∙ sym (option-same (map_condition (λ n. n)) map_condition-id (first_false (number_asked names self_number part_of) i command)))
        (changes ∙ sym (map_image-id (effect (number_asked names self_number part_of) (number_writing names) command i)))
        ∙ result-same (map_image (λ n. n)) (map_condition (λ n. n)) map_image-id map_condition-id (judged (number_asked names self_number part_of) (number_writing names) i command)
