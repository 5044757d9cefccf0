use Rattle.std.proofs.Common.{sym, ◌∙◌}
use Rattle.method_plans.proofs.Receivers.{copy-wider}
use Rattle.method_plans.proofs.down.put_copy.Goals as goal

pub returns-clause-wider : goal.returns-clause-wider
returns-clause-wider c =
    copy-wider c.args.image.now c.room_for_method.new.image c.requires.closed c.requires.orderly c.args.class c.args.slot c.in-Some.rec c.requires.class
    (sym c.in_ok-rec.ensures ∙ c.in-Some.is) c.in-Ok.ensures.ok
