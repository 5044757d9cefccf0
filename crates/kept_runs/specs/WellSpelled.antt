-- What each line of a script gives of its command: what is added is spelled, and a setter has its names.
use Rattle.std.specs.Prelude.{◌≡◌}
use Rattle.run_model.specs.Values.{Name}
use Rattle.command_model.specs.Accessors.{setter_selector, setter_argument}
use Rattle.command_model.specs.Commands.{CommandOf, AbstractInstVar}
use Rattle.command_model.specs.Spelled.{IsSpelled, MayBeFiled}
use Rattle.session_model.specs.Actions.{ActionOf, Single, CreateAccessors, ExtractSuperclass, PushUpWithMethods}

-- the names in a setter of a variable
pub record AreSetterNames (x setter parameter : Name) : Type 0 where
  pub selector : setter ≡ setter_selector x
  pub parameter_is : parameter ≡ setter_argument x

-- a setter that a command makes has the names that belong to its variable
abbrev pub HasItsSetter : CommandOf Name → Type 0
HasItsSetter (AbstractInstVar c x setter given) = AreSetterNames x setter given
HasItsSetter command = Unit {0}

-- A method that the command adds has a text that spells it and may stand as a chunk, some text spells a literal that it passes, and a setter has its names.
abbrev pub IsWellSpelled : CommandOf Name → Type 0
IsWellSpelled command = IsSpelled command × MayBeFiled command × HasItsSetter command

-- so it is of an action
abbrev pub IsWellSpelledAction : ActionOf Name → Type 0
IsWellSpelledAction (Single command) = IsWellSpelled command
IsWellSpelledAction (CreateAccessors c x setter parameter) = AreSetterNames x setter parameter
IsWellSpelledAction (ExtractSuperclass d p under) = Unit {0}
IsWellSpelledAction (PushUpWithMethods c x) = Unit {0}
