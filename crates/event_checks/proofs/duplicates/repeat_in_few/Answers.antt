use Rattle.std.proofs.Common.{[], ◌++◌, refl, sym, ◌∙◌}
use Rattle.event_checks.specs.Lists.{declared, names_of}
use Rattle.event_checks.proofs.Repeats.{repeat_first, repeat_second}
use Rattle.event_checks.proofs.duplicates.repeat_in_few.Goals as goal

pub returns-then-is_some : goal.returns-then-is_some
returns-then-is_some c =
    repeat_first c.repeat_behind-repeat.result (declared c.args.first.now) (declared c.args.second.now) [] (names_of c.args.first.now) refl (sym c.is_some.ensures ∙ c.if-is_some.true) c.repeat_behind-repeat.ensures

pub returns : goal.returns
returns c =
    repeat_second c.repeat_behind-repeat.result c.repeat_behind.result (declared c.args.first.now) (declared c.args.second.now) [] (names_of c.args.first.now) (names_of c.args.first.now ++ names_of c.args.second.now)
    refl (sym c.is_some.ensures ∙ c.if-is_some.false) c.repeat_behind-repeat.ensures c.repeat_behind.ensures
