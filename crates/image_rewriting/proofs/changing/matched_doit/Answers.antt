use Rattle.std.proofs.Common.{slice_get}
use Rattle.image_rewriting.proofs.Copies.{no-match-doit}
use Rattle.image_rewriting.proofs.changing.matched_doit.Goals as goal

pub returns-then-not-branch : goal.returns-then-not-branch
returns-then-not-branch g c =
    let s = c.args.image.now in
    no-match-doit s.names c.names.result.now c.args.rule.now c.in_ok-has_match.field-0 c.names.ensures c.if-not-branch.true
    (slice_get s.doits c.args.number) c.in-Some.body.now c.in-Some.ensures.body c.in_ok-has_match.ensures
