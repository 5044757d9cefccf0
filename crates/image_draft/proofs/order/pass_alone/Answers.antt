use Rattle.std.proofs.Common.{sym, ◌∙◌}
use Rattle.image_draft.proofs.Passed.{passed_alone}
use Rattle.image_draft.proofs.order.pass_alone.Goals as goal

pub returns : goal.returns
returns c =
    c.put_back.ensures ∙ sym (passed_alone c.args.name c.args.above c.args.classes.now c.in-Some.from c.in-Some.to c.requires.differ c.requires.childless c.in-Some.ensures.first c.in-Some.ensures.second c.in-Some.ensures.before)
