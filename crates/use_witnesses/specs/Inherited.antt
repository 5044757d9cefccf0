-- Whether a method is inherited in place of another.
use Rattle.std.specs.Prelude.{ℕ, Bool}
use Rattle.std.specs.Option.{option_and_then}
use Rattle.class_table.specs.Slots.{Slots}
use Rattle.commands.specs.declared.command.MethodName.{MethodName}
use Rattle.method_questions.specs.Found.{are_same, inherited_slot, opened_at}

-- whether the method in a slot is the same as what is inherited in place of a method of a name
abbrev pub is_inherited : Slots → ℕ → MethodName → Bool
is_inherited s k n = are_same s (opened_at s k) (option_and_then (opened_at s) (inherited_slot s n.class n.meta n.selector))
