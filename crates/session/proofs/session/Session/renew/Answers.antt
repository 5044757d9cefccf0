use Rattle.std.proofs.Common.{subst}
use Rattle.session.proofs.UnderWay.{Follows}
use Rattle.session.proofs.Steps.{renewed-log}
use Rattle.session.proofs.session.Session.renew.Goals as goal

pub returns-clause-log : goal.returns-clause-log
returns-clause-log g c =
    let v = c.self.inside in
    let s = c.args.image.now in
    let follows : Follows s v.index c.update.new.self v.stale.items = subst (Follows s v.index c.update.new.self) c.as_slice.ensures.value c.in_ok-update.ensures.ok in
    renewed-log s v.index c.update.new.self v.stale.items c.clear.new.self.items v.entries.items v.done c.args.self.now c.self.view_is c.requires follows c.clear.ensures.items
