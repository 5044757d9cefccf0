-- What holds of commands that move no code and of those that move some, put together for all.
use Rattle.std.proofs.Common.{◌≡◌, Bool, true, false, not, cond, List, [], ◌∷◌, map, find, Option, Some, None, Result, Ok, Err, IfOk, option_map, refl, ap, ◌∙◌}
use Rattle.std.specs.List.{AllByRecursion}
use Rattle.std.specs.Option.{option_map_or}
use Rattle.std.specs.Result.{result_map_both}
use Rattle.image_model.specs.Image.{ImageOf, map_image}
use Rattle.image_model.specs.ImageNames.{OptionNames, ImageNames}
use Rattle.image_model.proofs.Lists.{find-all}
use Rattle.rename_model.specs.ClassRenamed.{WritingOf}
use Rattle.command_model.specs.Commands.{CommandOf, MovesNoCode}
use Rattle.command_model.specs.Conditions.{ConditionOf}
use Rattle.command_model.specs.Asked.{AskedOf}
use Rattle.command_model.specs.Needs.{needs}
use Rattle.command_model.specs.Holds.{holds}
use Rattle.command_model.specs.Effects.{effect}
use Rattle.command_model.specs.Judged.{first_false, judged}
use Rattle.command_numbers.specs.MappedCommands.{map_command, map_condition}
use Rattle.command_numbers.specs.CommandNames.{CommandNames, ConditionNames}
use Rattle.command_numbers.specs.KeepsAsked.{KeepsWriting}
use Rattle.command_numbers.specs.WithoutMove.{IsWithoutMove}
use Rattle.code_command_numbers.specs.KeepsMoves.{KeepsMoves}
use Rattle.code_command_numbers.proofs.MovesCode.{moves_or_not, of_move_or_not}
use Rattle.code_command_numbers.proofs.MovedNamed.{moved_needs-names, moved_effect-names, moved_needs-named, moved_holds-named, moved_effect-named}

-- the first condition that is false, and the verdict, by the conditions, which of them hold, and the image after
module _ {M N : Type 0} (P : M → Type 0) (f : M → N) (a : AskedOf M) (b : AskedOf N) (i : ImageOf M) (j : ImageOf N) (command : CommandOf M) (command_there : CommandOf N) where
  module _ (asks : needs b j command_there ≡ map (map_condition f) (needs a i command)) (answers : (condition : ConditionOf M) → ConditionNames P condition → holds b j command_there (map_condition f condition) ≡ holds a i command condition) (named : AllByRecursion (ConditionNames P) (needs a i command)) where
    first_among : (conditions : List (ConditionOf M)) → AllByRecursion (ConditionNames P) conditions
        → find (λ condition. not (holds b j command_there condition)) (map (map_condition f) conditions) ≡ option_map (map_condition f) (find (λ condition. not (holds a i command condition)) conditions)
    first_among [] all = refl
    first_among (q ∷ qs) all =
        (λ k. cond (not (answers q all.0 k)) (Some (map_condition f q)) (first_among qs all.1 k)) ∙ by (not (holds a i command q))
      where
        by : (t : Bool) → cond t (Some (map_condition f q)) (option_map (map_condition f) (find (λ condition. not (holds a i command condition)) qs))
            ≡ option_map (map_condition f) (cond t (Some q) (find (λ condition. not (holds a i command condition)) qs))
        by true = refl
        by false = refl

    pub first_by : first_false b j command_there ≡ option_map (map_condition f) (first_false a i command)
    first_by = ap (find (λ condition. not (holds b j command_there condition))) asks ∙ first_among (needs a i command) named

  pub judged_by : (writing : WritingOf M) (writing_there : WritingOf N) → first_false b j command_there ≡ option_map (map_condition f) (first_false a i command) → effect b writing_there command_there j ≡ map_image f (effect a writing command i)
      → judged b writing_there j command_there ≡ result_map_both (map_image f) (map_condition f) (judged a writing i command)
  judged_by writing writing_there first changes = (λ k. option_map_or (λ (c : ConditionOf N). Err c) (first k) (Ok (changes k))) ∙ by (first_false a i command)
    where
      by : (o : Option (ConditionOf M)) → ◌≡◌ {A = Result (ImageOf N) (ConditionOf N)} (option_map_or (λ c. Err c) (option_map (map_condition f) o) (Ok (map_image f (effect a writing command i))))
          (result_map_both (map_image f) (map_condition f) (option_map_or (λ (c : ConditionOf M). Err c) o (Ok (effect a writing command i))))
      by None = refl
      by (Some c) = refl

-- the names of what a command asks and makes
module _ {M : Type 0} (P : M → Type 0) (a : AskedOf M) (is_known : P a.self_name) (i : ImageOf M) (p : ImageNames P i) where
  module _ (still : (command : CommandOf M) → CommandNames P command → MovesNoCode command → AllByRecursion (ConditionNames P) (needs a i command)) where
    pub all_needs-names : (command : CommandOf M) → CommandNames P command → AllByRecursion (ConditionNames P) (needs a i command)
    all_needs-names =
        moves_or_not (λ command. CommandNames P command → AllByRecursion (ConditionNames P) (needs a i command)) (λ command u q. still command q u) (λ command u q. moved_needs-names P a is_known i command p q u)

    pub all_first_false-names : (command : CommandOf M) → CommandNames P command → OptionNames (ConditionNames P) (first_false a i command)
    all_first_false-names command q = find-all (ConditionNames P) (λ condition. not (holds a i command condition)) (needs a i command) (all_needs-names command q)

  module _ (writing : WritingOf M) (still : (command : CommandOf M) → CommandNames P command → MovesNoCode command → ImageNames P (effect a writing command i)) where
    pub all_effect-names : (command : CommandOf M) → CommandNames P command → ImageNames P (effect a writing command i)
    all_effect-names =
        moves_or_not (λ command. CommandNames P command → ImageNames P (effect a writing command i)) (λ command u q. still command q u) (λ command u q. moved_effect-names P a is_known writing i command p q u)

    pub all_judged-names : (command : CommandOf M) → CommandNames P command → IfOk (judged a writing i command) (ImageNames P)
    all_judged-names command q = by (first_false a i command) (all_effect-names command q)
      where
        by : (o : Option (ConditionOf M)) → ImageNames P (effect a writing command i) → IfOk {T = ImageOf M} {E = ConditionOf M} (option_map_or (λ c. Err c) o (Ok (effect a writing command i))) (ImageNames P)
        by None r = r
        by (Some c) r = tt

-- what a command asks and makes once names are changed
module _ {M N : Type 0} (P : M → Type 0) (f : M → N) (a : AskedOf M) (b : AskedOf N) (keeps : KeepsMoves P f a b) (i : ImageOf M) (p : ImageNames P i) where
  pub all_needs-named : ((command : CommandOf M) → CommandNames P command → MovesNoCode command → needs b (map_image f i) (map_command f command) ≡ map (map_condition f) (needs a i command))
      → (command : CommandOf M) → CommandNames P command → needs b (map_image f i) (map_command f command) ≡ map (map_condition f) (needs a i command)
  all_needs-named still =
      moves_or_not (λ command. CommandNames P command → needs b (map_image f i) (map_command f command) ≡ map (map_condition f) (needs a i command))
      (λ command u q. still command q u) (λ command u q. moved_needs-named P f a b keeps i command p q u)

  pub all_holds-named : ((command : CommandOf M) (condition : ConditionOf M) → CommandNames P command → ConditionNames P condition → IsWithoutMove command condition → holds b (map_image f i) (map_command f command) (map_condition f condition) ≡ holds a i command condition)
      → (command : CommandOf M) (condition : ConditionOf M) → CommandNames P command → ConditionNames P condition → holds b (map_image f i) (map_command f command) (map_condition f condition) ≡ holds a i command condition
  all_holds-named still =
      of_move_or_not (λ command condition. CommandNames P command → ConditionNames P condition → holds b (map_image f i) (map_command f command) (map_condition f condition) ≡ holds a i command condition)
      (λ command condition u q r. still command condition q r u) (λ command condition u q r. moved_holds-named P f a b keeps i command condition p q r u)

  pub all_effect-named : (writing : WritingOf M) (writing_there : WritingOf N) → KeepsWriting P f writing writing_there
      → ((command : CommandOf M) → CommandNames P command → MovesNoCode command → effect b writing_there (map_command f command) (map_image f i) ≡ map_image f (effect a writing command i))
      → (command : CommandOf M) → CommandNames P command → effect b writing_there (map_command f command) (map_image f i) ≡ map_image f (effect a writing command i)
  all_effect-named writing writing_there written still =
      moves_or_not (λ command. CommandNames P command → effect b writing_there (map_command f command) (map_image f i) ≡ map_image f (effect a writing command i))
      (λ command u q. still command q u) (λ command u q. moved_effect-named P f a b keeps writing writing_there written i command p q u)
