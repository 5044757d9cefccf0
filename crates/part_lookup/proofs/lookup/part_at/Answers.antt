use Rattle.std.proofs.Common.{option_map, sym}
use Rattle.part_questions.specs.Parts.{part_of}
use Rattle.part_lookup.proofs.Read.{part_there, none_spelled}
use Rattle.part_lookup.proofs.lookup.part_at.Goals as goal

pub returns-in-Ok : goal.returns-in-Ok
returns-in-Ok c =
    let r = c.in-Ok.ensures.part in
    c.law_parts_of_text.ensures.one_part c.args.source.now r.tree c.args.from c.args.to (option_map part_of c.in-Ok.part) r.spells
    (part_there r.tree.body (record { from = c.args.from; to = c.args.to }) c.in-Ok.part r.holds)

pub returns-in_default : goal.returns-in_default
returns-in_default c =
    sym (c.law_parts_of_text.ensures.none_unspelled c.args.source.now c.args.from c.args.to (none_spelled c.args.source.now c.in-Err.fault c.in_default.not-Memory c.in-Err.ensures.fault))
