use Rattle.command_model.specs.Parts.{Expression}
use Rattle.witness_texts.proofs.StartLines.{part-line}
use Rattle.witness_texts.proofs.lines.node_line.Goals as goal

pub returns : goal.returns
returns c =
    part-line c.args.image.now c.requires c.args.owner.now c.in-Some.code c.in-Some.ensures (Expression c.args.path.now) c.in_ok-line.line c.push_slice.new.self c.in_ok-line.ensures c.in_ok-push_slice.ensures.ok
