use Rattle.std.proofs.Common.{List, sym, subst, codes}
use Rattle.log_model.specs.Events.{Event as Asked, LogSays}
use Rattle.event_trees.proofs.Known.{Grows-twice}
use Rattle.script_lang.proofs.Growing.{either-grows}
use Rattle.log_lang.proofs.Growing.{events-grown, all_known-grown}
use Rattle.applied_scripts.proofs.SelfKnown.{has-self}
use Rattle.played_logs.proofs.events.events_and_self.Goals as goal

pub returns-in_err-intern-clause-grows : goal.returns-in_err-intern-clause-grows
returns-in_err-intern-clause-grows c =
    Grows-twice c.parse_log.ensures.grows (either-grows c.intern.result c.parse_log.new.names c.intern.new.self (codes "self") c.intern.ensures.ok c.intern.ensures.err)

pub returns-clause-grows : goal.returns-clause-grows
returns-clause-grows c =
    Grows-twice c.parse_log.ensures.grows (either-grows c.intern.result c.parse_log.new.names c.intern.new.self (codes "self") c.intern.ensures.ok c.intern.ensures.err)

pub returns-clause-self_known : goal.returns-clause-self_known
returns-clause-self_known c = has-self c.intern.new.self _ c.in_ok-intern.ensures.number

pub returns-clause-said : goal.returns-clause-said
returns-clause-said c =
    let grows = either-grows c.intern.result c.parse_log.new.names c.intern.new.self (codes "self") c.intern.ensures.ok c.intern.ensures.err in
    subst (λ (asked : List Asked). LogSays c.args.log.now asked) (sym (events-grown grows c.in_ok-events.events.items c.in_ok-events.ensures.known)) c.in_ok-events.ensures.ok

pub returns-clause-known : goal.returns-clause-known
returns-clause-known c =
    let grows = either-grows c.intern.result c.parse_log.new.names c.intern.new.self (codes "self") c.intern.ensures.ok c.intern.ensures.err in
    all_known-grown grows c.in_ok-events.events.items c.in_ok-events.ensures.known
