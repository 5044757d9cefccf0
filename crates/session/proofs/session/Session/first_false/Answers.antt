use Rattle.std.proofs.Common.{sym, subst}
use Rattle.reference_index.specs.Mentioned.{IsIndexOf}
use Rattle.session.specs.Log.{Log}
use Rattle.session.proofs.Logs.{is-index}
use Rattle.session.proofs.session.Session.first_false.Goals as goal

pub first_false-requires-clause-index : goal.first_false-requires-clause-index
first_false-requires-clause-index g c =
    let log = c.renew.new.self in
    subst (λ (l : Log). IsIndexOf c.args.image.now l.index) (sym c.self.view_is) (is-index c.args.image.now log.index log.stale c.in_ok-renew.ensures.renewed c.in_ok-renew.ensures.log.index)
