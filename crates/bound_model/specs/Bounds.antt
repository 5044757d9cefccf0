-- How many bodies may be opened.
use Rattle.std.specs.Prelude.{ℕ, ◌+◌, ◌*◌, List, [], ◌∷◌, length, Bool, true, false, if◌then◌else◌}
use Rattle.image_model.specs.Image.{ImageOf}
use Rattle.rename_model.specs.ClassRenamed.{WritingOf}
use Rattle.command_model.specs.Asked.{AskedOf}
use Rattle.command_model.specs.Commands.{CommandOf}
use Rattle.command_model.specs.Conditions.{ConditionOf, Removable, Unreached, ParameterUnused, PlainArguments, Shallow}
use Rattle.command_model.specs.Effects.{effect}
use Rattle.command_model.specs.Needs.{needs}
use Rattle.session_model.specs.Actions.{ActionOf}
use Rattle.session_model.specs.OwnConditions.{own_conditions}
use Rattle.session_model.specs.Steps.{steps_of}
use Rattle.bound_model.specs.Listed.{listed}
use Rattle.bound_model.specs.Touched.{touched}

-- whether a condition may look through the methods that a command speaks of
abbrev pub looks_through : {N : Type 0} → ConditionOf N → Bool
looks_through (Removable c meta s) = true
looks_through (Unreached s) = true
looks_through (ParameterUnused s k) = true
looks_through (PlainArguments s k) = true
looks_through Shallow = true
looks_through condition = false

module _ {N : Type 0} (a : AskedOf N) (i : ImageOf N) where
  -- what is listed for a command, and its conditions
  abbrev pub asked_for : CommandOf N → ℕ
  asked_for command = listed a i command + length (needs a i command) + 2

  -- how many bodies a condition of a command may open
  abbrev pub condition_bound : CommandOf N → ConditionOf N → ℕ
  condition_bound command condition = if looks_through condition then 4 * asked_for command else 4

  module _ (writing : WritingOf N) where
    -- how many a command may open, with its conditions
    abbrev pub command_bound : CommandOf N → ℕ
    command_bound command = 40 * (asked_for command + touched i (effect a writing command i))

module _ {N : Type 0} (a : AskedOf N) (writing : WritingOf N) where
  -- the image after commands in order
  abbrev pub image_after : ImageOf N → List (CommandOf N) → ImageOf N
  image_after i [] = i
  image_after i (c ∷ cs) = image_after (effect a writing c i) cs

  -- how many bodies commands may open, each in the image that those before it leave
  abbrev pub steps_bound : ImageOf N → List (CommandOf N) → ℕ
  steps_bound i [] = 0
  steps_bound i (c ∷ cs) = command_bound a i writing c + steps_bound (effect a writing c i) cs

  -- how many an action may open: its steps, and four for each condition of its own
  abbrev pub action_bound : ImageOf N → ActionOf N → ℕ
  action_bound i action =
      steps_bound i (steps_of a.words.tests.same i writing action) + 4 * length (own_conditions a i action)
