-- Conditions that ask for no code that a command moves.
use Rattle.command_model.specs.Commands.{CommandOf, MovesNoCode}
use Rattle.command_model.specs.Conditions.{ConditionOf, Shallow, IsOfNoMove}

-- whether a condition of a command is one of those that commands have which move no code; `Shallow` looks at what the command makes, so there the command itself moves none
abbrev pub IsWithoutMove : {N : Type 0} → CommandOf N → ConditionOf N → Type 0
IsWithoutMove command Shallow = MovesNoCode command
IsWithoutMove command condition = IsOfNoMove condition
