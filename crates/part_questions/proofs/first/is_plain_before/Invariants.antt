use Rattle.std.proofs.Common.{◌≡◌, drop}
use Rattle.class_table.specs.View.{number_image}
use Rattle.command_model.specs.Asked.{no_parts}
use Rattle.command_model.specs.Numbers.{number_asked}
use Rattle.part_questions.specs.Codes.{entry_of}
use Rattle.part_questions.specs.Before.{is_plain_before}
use Rattle.part_questions.proofs.first.is_plain_before.Given as goal

abbrev pub invariant-loop-step : goal.invariant-loop-step
invariant-loop-step l =
    is_plain_before (number_asked l.image.names l.self_name no_parts) (number_image l.image) (entry_of l.image l.code) l.path l.node (drop l.step-index l.steps)
    ≡ is_plain_before (number_asked l.image.names l.self_name no_parts) (number_image l.image) (entry_of l.image l.code) l.path l.initial.node l.steps
