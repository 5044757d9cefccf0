-- Code that is low enough to be changed, by its slots.
use Rattle.std.specs.Prelude.{ℕ, Bool, true, ◌||◌}
use Rattle.std.specs.Option.{option_map_or}
use Rattle.st_tree.specs.View.{sequence_of}
use Rattle.class_table.specs.declared.record.MethodRec.{MethodRec}
use Rattle.class_table.specs.declared.record.DoIt.{DoIt}
use Rattle.class_table.specs.Slots.{Slots}
use Rattle.class_table.specs.View.{live_at}
use Rattle.command_model.specs.ParameterConditions.{is_low}

-- whether a method is one of the kernel or at most 200 nodes high, and whether a do-it is
abbrev pub is_method_low : MethodRec → Bool
is_method_low m = m.kernel || is_low (sequence_of m.tree.body)

abbrev pub is_doit_low : DoIt → Bool
is_doit_low d = is_low (sequence_of d.body)

-- whether the method in a slot is low, if the slot is live
abbrev pub is_low_method : Slots → ℕ → Bool
is_low_method s k = option_map_or is_method_low (live_at s.methods s.method_order k) true
