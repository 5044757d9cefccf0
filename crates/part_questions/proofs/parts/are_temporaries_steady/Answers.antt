use Rattle.std.proofs.Common.{not, ap, ◌∙◌}
use Rattle.st_tree.specs.View.{method_of}
use Rattle.command_model.specs.Places.{part_nodes}
use Rattle.part_questions.specs.declared.faults.Asked.{Asked}
use Rattle.part_questions.specs.Parts.{part_of}
use Rattle.part_questions.specs.Faults.{is_node_steady}
use Rattle.part_questions.proofs.Tests.{none-fails}
use Rattle.part_questions.proofs.parts.are_temporaries_steady.Goals as goal

pub returns : goal.returns
returns c =
    let it : Asked = record { names = c.args.names; method = c.args.method; part = c.args.part } in
    ap not c.in_ok-is_faulty.ensures ∙ none-fails (is_node_steady it) (part_nodes (method_of c.args.method.now) (part_of c.args.part.now))
