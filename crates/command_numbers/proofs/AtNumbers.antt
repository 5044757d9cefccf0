-- Commands over the numbers of names in a table: over their texts, and in a longer table.
use Rattle.std.proofs.Common.{◌≡◌, ℕ, ◌<◌, List, ◌++◌, length, length-append, Result, IfOk, sym, ap, ◌∙◌, arith}
use Rattle.std.specs.List.{AllByRecursion}
use Rattle.image_model.specs.Image.{ImageOf, map_image}
use Rattle.image_model.specs.ImageNames.{OptionNames, ImageNames}
use Rattle.image_model.proofs.MapImage.{map_image-id, map_image-same, ImageNames-implies}
use Rattle.std.specs.Result.{result_map_both}
use Rattle.rb_base.specs.Names.{HasNoTwice, name_at}
use Rattle.rename_model.specs.ClassRenamed.{canonical}
use Rattle.command_model.specs.Located.{Locating}
use Rattle.command_model.specs.Asked.{text_asked}
use Rattle.command_model.specs.Commands.{CommandOf, MovesNoCode}
use Rattle.command_model.specs.Conditions.{ConditionOf}
use Rattle.command_model.specs.Numbers.{number_asked, number_writing}
use Rattle.command_model.specs.Needs.{needs}
use Rattle.command_model.specs.Holds.{holds}
use Rattle.command_model.specs.Effects.{effect}
use Rattle.command_model.specs.Judged.{first_false, judged}
use Rattle.command_numbers.specs.MappedCommands.{map_command, map_condition}
use Rattle.command_numbers.specs.CommandNames.{CommandNames, ConditionNames}
use Rattle.command_numbers.specs.WithoutMove.{IsWithoutMove}
use Rattle.command_numbers.proofs.CommandsMapped.{map_command-id, map_condition-id, list-same, option-same, result-same}
use Rattle.command_numbers.proofs.Named.{needs-named, needs-names, holds-named, first_false-named, first_false-names, effect-named, effect-names, judged-named, judged-names}
use Rattle.command_numbers.proofs.Tables.{KeepsAsked-number_asked, KeepsWriting-number_writing, name_at-more, KeepsAsked-more, KeepsWriting-more}
use Rattle.command_numbers.proofs.Restricted.{CommandNames-implies, map_command-same}

-- whether a condition holds
module _ (names more : List (List ℕ)) (self_number : ℕ) (part_of : Locating) (i : ImageOf ℕ) (command : CommandOf ℕ) (p : ImageNames (λ n. n < length names) i) (q : CommandNames (λ n. n < length names) command) where
  pub holds-more : (condition : ConditionOf ℕ) → ConditionNames (λ n. n < length names) condition → IsWithoutMove command condition → holds (number_asked (names ++ more) self_number part_of) i command condition ≡ holds (number_asked names self_number part_of) i command condition
  holds-more condition r still =
      (λ j. holds (number_asked (names ++ more) self_number part_of) (sym (map_image-id i) j) (sym (map_command-id command) j) (sym (map_condition-id condition) j))
      ∙ holds-named (λ n. n < length names) (λ n. n) (number_asked names self_number part_of) (number_asked (names ++ more) self_number part_of) (KeepsAsked-more names more self_number part_of) i command condition p q r still

-- what a command that moves no code needs and makes
module _ (names more : List (List ℕ)) (self_number : ℕ) (part_of : Locating) (i : ImageOf ℕ) (command : CommandOf ℕ) (p : ImageNames (λ n. n < length names) i) (q : CommandNames (λ n. n < length names) command) (still : MovesNoCode command) where
  pub needs-more : needs (number_asked (names ++ more) self_number part_of) i command ≡ needs (number_asked names self_number part_of) i command
  needs-more =
      (λ j. needs (number_asked (names ++ more) self_number part_of) (sym (map_image-id i) j) (sym (map_command-id command) j))
      ∙ needs-named (λ n. n < length names) (λ n. n) (number_asked names self_number part_of) (number_asked (names ++ more) self_number part_of) (KeepsAsked-more names more self_number part_of) i command p q still
      ∙ list-same (map_condition (λ n. n)) map_condition-id (needs (number_asked names self_number part_of) i command)

  pub first_false-more : first_false (number_asked (names ++ more) self_number part_of) i command ≡ first_false (number_asked names self_number part_of) i command
  first_false-more =
      (λ j. first_false (number_asked (names ++ more) self_number part_of) (sym (map_image-id i) j) (sym (map_command-id command) j))
      ∙ first_false-named (λ n. n < length names) (λ n. n) (number_asked names self_number part_of) (number_asked (names ++ more) self_number part_of) (KeepsAsked-more names more self_number part_of) i command p q still
      ∙ option-same (map_condition (λ n. n)) map_condition-id (first_false (number_asked names self_number part_of) i command)

  pub effect-more : effect (number_asked (names ++ more) self_number part_of) (number_writing (names ++ more)) command i ≡ effect (number_asked names self_number part_of) (number_writing names) command i
  effect-more =
      (λ j. effect (number_asked (names ++ more) self_number part_of) (number_writing (names ++ more)) (sym (map_command-id command) j) (sym (map_image-id i) j))
      ∙ effect-named (λ n. n < length names) (λ n. n) (number_asked names self_number part_of) (number_asked (names ++ more) self_number part_of) (KeepsAsked-more names more self_number part_of) (number_writing names) (number_writing (names ++ more)) (KeepsWriting-more names more) i command p q still
      ∙ map_image-id (effect (number_asked names self_number part_of) (number_writing names) command i)

  pub judged-more : judged (number_asked (names ++ more) self_number part_of) (number_writing (names ++ more)) i command ≡ judged (number_asked names self_number part_of) (number_writing names) i command
  judged-more =
      (λ j. judged (number_asked (names ++ more) self_number part_of) (number_writing (names ++ more)) (sym (map_image-id i) j) (sym (map_command-id command) j))
      ∙ judged-named (λ n. n < length names) (λ n. n) (number_asked names self_number part_of) (number_asked (names ++ more) self_number part_of) (KeepsAsked-more names more self_number part_of) (number_writing names) (number_writing (names ++ more)) (KeepsWriting-more names more) i command p q still
      ∙ result-same (map_image (λ n. n)) (map_condition (λ n. n)) map_image-id map_condition-id (judged (number_asked names self_number part_of) (number_writing names) i command)

-- each number in what a command needs and makes is that of a name
module _ (names : List (List ℕ)) (self_number : ℕ) (part_of : Locating) (i : ImageOf ℕ) (command : CommandOf ℕ) (p : ImageNames (λ n. n < length names) i) (q : CommandNames (λ n. n < length names) command) (still : MovesNoCode command) where
  pub needs-numbers : AllByRecursion (ConditionNames (λ n. n < length names)) (needs (number_asked names self_number part_of) i command)
  needs-numbers = needs-names (λ n. n < length names) (number_asked names self_number part_of) i command p q still

  pub first_false-numbers : OptionNames (ConditionNames (λ n. n < length names)) (first_false (number_asked names self_number part_of) i command)
  first_false-numbers = first_false-names (λ n. n < length names) (number_asked names self_number part_of) i command p q still

  pub effect-numbers : ImageNames (λ n. n < length names) (effect (number_asked names self_number part_of) (number_writing names) command i)
  effect-numbers =
      effect-names (λ n. n < length names) (number_asked names self_number part_of) (number_writing names) i command p q still

  pub judged-numbers : IfOk (judged (number_asked names self_number part_of) (number_writing names) i command) (ImageNames (λ n. n < length names))
  judged-numbers =
      judged-names (λ n. n < length names) (number_asked names self_number part_of) (number_writing names) i command p q still

-- what numbers of a table stand for in a longer one
module _ (names more : List (List ℕ)) where
  in_longer : (n : ℕ) → n < length names → n < length (names ++ more)
  in_longer n h = omega (arith, h, length-append names more)

  pub image-more : (i : ImageOf ℕ) → ImageNames (λ n. n < length names) i → map_image (name_at (names ++ more)) i ≡ map_image (name_at names) i
  image-more i p =
      map_image-same (name_at (names ++ more)) (name_at names) i (ImageNames-implies (λ n. n < length names) (λ n. name_at (names ++ more) n ≡ name_at names n) (name_at-more names more) i p)

  pub command-more : (command : CommandOf ℕ) → CommandNames (λ n. n < length names) command → map_command (name_at (names ++ more)) command ≡ map_command (name_at names) command
  command-more command p =
      map_command-same (name_at (names ++ more)) (name_at names) command (CommandNames-implies (λ n. n < length names) (λ n. name_at (names ++ more) n ≡ name_at names n) (name_at-more names more) command p)

  pub image-longer : (i : ImageOf ℕ) → ImageNames (λ n. n < length names) i → ImageNames (λ n. n < length (names ++ more)) i
  image-longer i p = ImageNames-implies (λ n. n < length names) (λ n. n < length (names ++ more)) in_longer i p

  pub command-longer : (command : CommandOf ℕ) → CommandNames (λ n. n < length names) command → CommandNames (λ n. n < length (names ++ more)) command
  command-longer command p = CommandNames-implies (λ n. n < length names) (λ n. n < length (names ++ more)) in_longer command p

-- a verdict on numbers is one on texts
module _ (names : List (List ℕ)) (self_number : ℕ) (part_of : Locating) (distinct : HasNoTwice names) (i : ImageOf ℕ) (command : CommandOf ℕ) (p : ImageNames (λ n. n < length names) i) (q : CommandNames (λ n. n < length names) command) (still : MovesNoCode command) where
  pub verdict : (r : Result (ImageOf ℕ) (ConditionOf ℕ)) → judged (number_asked names self_number part_of) (number_writing names) i command ≡ r
      → judged text_asked canonical (map_image (name_at names) i) (map_command (name_at names) command) ≡ result_map_both (map_image (name_at names)) (map_condition (name_at names)) r
  verdict r e =
      judged-named (λ n. n < length names) (name_at names) (number_asked names self_number part_of) text_asked (KeepsAsked-number_asked names self_number part_of distinct) (number_writing names) canonical (KeepsWriting-number_writing names) i command p q still
      ∙ ap (λ (t : Result (ImageOf ℕ) (ConditionOf ℕ)). result_map_both (map_image (name_at names)) (map_condition (name_at names)) t) e
