use Rattle.std.proofs.lemmas.Result.{IfOk-weaker}
use Rattle.class_table.specs.View.{live_at}
use Rattle.image_search.proofs.Records.{slot_told}
use Rattle.image_search.proofs.parts.slot_lines.Goals as goal

pub returns-in-Some-open_body : goal.returns-in-Some-open_body
returns-in-Some-open_body g c =
    let s = c.args.image.now in
    IfOk-weaker c.tree_lines.result _ _
    (λ text lines. slot_told s c.args.pattern.now text (live_at s.methods s.method_order c.args.slot) c.in-Some.info c.in-Some-open_body.tree.now c.in-Some.ensures c.if-info.false c.in-Some-open_body.ensures.tree lines)
    c.tree_lines.ensures
