use Rattle.std.proofs.Common.{◌≤◌, ◌∷◌, [], length, ap, length-append, arith}
use Rattle.std.proofs.lemmas.Result.{err_from_is_err_and}
use Rattle.script_model.specs.Commands.{TooMany}
use Rattle.log_model.specs.Events.{IsWrong}
use Rattle.log_lang.specs.Shown.{event_in}
use Rattle.log_lang.proofs.Telling.{told-cause, no-room, wrong-line}
use Rattle.log_lang.proofs.log.read_event.Goals as goal

pub returns-in_err-event-clause-fault : goal.returns-in_err-event-clause-fault
returns-in_err-event-clause-fault c =
    let p = err_from_is_err_and c.from_residual.result c.from_residual.ensures.1 in
    rw (p.1, p.2) (λ n cause e.
    let h = c.in_err-event.ensures.fault n cause e in
    (h.0, wrong-line c.args.text.now (length c.args.events.now.items) cause h.1))

pub returns-then-len-gt-EVENT_LIMIT-clause-fault : goal.returns-then-len-gt-EVENT_LIMIT-clause-fault
returns-then-len-gt-EVENT_LIMIT-clause-fault c = λ n cause e.
    let old = c.args.events.now.items in
    let full : 10000 ≤ length old = omega (arith, c.if-len-gt-EVENT_LIMIT.true, c.len.ensures, c.push.new.events.ok.0, ap length c.in_ok-push.ensures, length-append old (c.in_ok-event.event ∷ [])) in
    told-cause c.args.line n TooMany cause (λ x. IsWrong c.args.text.now (length old) x)
    (no-room c.args.text.now (length old) (event_in c.event_of.new.names c.in_ok-event.event) c.in_ok-event.ensures.said full) e

pub returns-clause-ok : goal.returns-clause-ok
returns-clause-ok c =
    let old = c.args.events.now.items in
    record {
      event = c.in_ok-event.event;
      says = c.in_ok-event.ensures.said;
      known = c.in_ok-event.ensures.known;
      room = omega (arith, c.if-len-gt-EVENT_LIMIT.false, c.len.ensures, c.push.new.events.ok.0, ap length c.in_ok-push.ensures, length-append old (c.in_ok-event.event ∷ []));
      added = c.in_ok-push.ensures;
    }
