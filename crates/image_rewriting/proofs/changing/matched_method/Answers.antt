use Rattle.class_table.specs.View.{live_at}
use Rattle.image_rewriting.proofs.Copies.{no-match-method}
use Rattle.image_rewriting.proofs.changing.matched_method.Goals as goal

pub returns-then-not-branch : goal.returns-then-not-branch
returns-then-not-branch g c =
    let s = c.args.image.now in
    no-match-method s.names c.names.result.now c.args.rule.now c.in_ok-has_match.field-0 c.names.ensures c.if-not-branch.true
    (live_at s.methods s.method_order c.args.slot) c.in-Some-open_body.tree.now c.in-Some-open_body.ensures.tree c.in_ok-has_match.ensures
