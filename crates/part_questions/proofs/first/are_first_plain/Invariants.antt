use Rattle.std.proofs.Common.{◌≡◌, ℕ, ◌<◌, true}
use Rattle.std.specs.Option.{option_map_or}
use Rattle.tree_model.specs.Path.{nth, children}
use Rattle.class_table.specs.View.{number_image}
use Rattle.command_model.specs.Asked.{no_parts}
use Rattle.command_model.specs.Numbers.{number_asked}
use Rattle.command_model.specs.Plain.{is_plain}
use Rattle.part_questions.specs.Codes.{entry_of}
use Rattle.part_questions.proofs.first.are_first_plain.Given as goal

abbrev pub invariant-loop-step : goal.invariant-loop-step
invariant-loop-step l =
    (j : ℕ) → j < l.step
    → option_map_or (is_plain (number_asked l.image.names l.self_name no_parts) (number_image l.image) (entry_of l.image l.code) l.path) (nth (children l.node) j) true ≡ true
