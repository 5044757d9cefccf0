-- What becomes of a command in an image.
use Rattle.std.specs.Prelude.{not, find, Option, Result, Ok, Err}
use Rattle.std.specs.Option.{option_map_or}
use Rattle.image_model.specs.Image.{ImageOf}
use Rattle.rename_model.specs.ClassRenamed.{WritingOf}
use Rattle.command_model.specs.Commands.{CommandOf}
use Rattle.command_model.specs.Conditions.{ConditionOf}
use Rattle.command_model.specs.Asked.{AskedOf}
use Rattle.command_model.specs.Effects.{effect}
use Rattle.command_model.specs.Needs.{needs}
use Rattle.command_model.specs.Holds.{holds}

-- the first condition that is false
abbrev pub first_false : {N : Type 0} → AskedOf N → ImageOf N → CommandOf N → Option (ConditionOf N)
first_false a i command = find (λ condition. not (holds a i command condition)) (needs a i command)

-- the image after the command, or the first condition that is false
abbrev pub judged : {N : Type 0} → AskedOf N → WritingOf N → ImageOf N → CommandOf N → Result (ImageOf N) (ConditionOf N)
judged a writing i command = option_map_or (λ condition. Err condition) (first_false a i command) (Ok (effect a writing command i))
