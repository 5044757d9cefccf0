use Rattle.std.proofs.Common.{is_some, ap, ◌∙◌}
use Rattle.method_plans.proofs.Receivers.{own-has}
use Rattle.method_plans.proofs.down.has_method.Goals as goal

pub returns : goal.returns
returns c =
    let m = c.args.method in
    c.is_some.ensures ∙ ap is_some c.own_method.ensures ∙ own-has c.args.image.now c.requires m
