use Rattle.std.proofs.Common.{sym, ◌∙◌}
use Rattle.std.proofs.lemmas.Result.{IfOk-weaker}
use Rattle.event_checks.specs.Lists.{declared}
use Rattle.event_checks.proofs.Repeats.{repeat_first, repeat_second}
use Rattle.event_checks.proofs.duplicates.repeat_in.Goals as goal

pub returns-then-is_some : goal.returns-then-is_some
returns-then-is_some c =
    repeat_first c.in_ok-repeat.repeat (declared c.args.first.now) (declared c.args.second.now) c.new-names.result c.repeat_among.new.names c.new-names.ensures (sym c.is_some.ensures ∙ c.if-is_some.true) c.in_ok-repeat.ensures

pub returns : goal.returns
returns c =
    IfOk-weaker c.repeat_among-2.result _ _
    (λ b h.
    repeat_second c.in_ok-repeat.repeat b (declared c.args.first.now) (declared c.args.second.now) c.new-names.result c.repeat_among.new.names c.repeat_among-2.new.names
    c.new-names.ensures (sym c.is_some.ensures ∙ c.if-is_some.false) c.in_ok-repeat.ensures h)
    c.repeat_among-2.ensures
