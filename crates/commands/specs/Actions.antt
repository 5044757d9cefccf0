-- Actions with each name changed, and a fact of each name in one.
use Rattle.std.specs.Prelude.{map}
use Rattle.std.specs.List.{AllByRecursion}
use Rattle.session_model.specs.Actions.{ActionOf, Single, CreateAccessors, ExtractSuperclass, PushUpWithMethods}
use Rattle.command_numbers.specs.CommandNames.{CommandNames}
use Rattle.command_numbers.specs.MappedCommands.{map_command}

-- the same action with each name changed
abbrev pub map_action : {M N : Type 0} → (M → N) → ActionOf M → ActionOf N
map_action f (Single command) = Single (map_command f command)
map_action f (CreateAccessors c x setter parameter) = CreateAccessors (f c) (f x) (f setter) (f parameter)
map_action f (ExtractSuperclass d p under) = ExtractSuperclass (f d) (f p) (map f under)
map_action f (PushUpWithMethods c x) = PushUpWithMethods (f c) (f x)

-- of each name in an action
abbrev pub ActionNames : {N : Type 0} → (N → Type 0) → ActionOf N → Type 0
ActionNames P (Single command) = CommandNames P command
ActionNames P (CreateAccessors c x setter parameter) = P c × P x × P setter × P parameter
ActionNames P (ExtractSuperclass d p under) = P d × P p × AllByRecursion P under
ActionNames P (PushUpWithMethods c x) = P c × P x
