use Rattle.std.proofs.Common.{◌≡◌, ◌∷◌, length, refl, rules, arith}
use Rattle.std.proofs.lemmas.Result.{err_from_is_err_and}
use Rattle.std.specs.Vec.Iter.{into_iter_items}
use Rattle.team_core.specs.Events.{point_of}
use Rattle.session_book.specs.Shared.{shared_history}
use Rattle.played_logs.proofs.Playing.{Point, session-next, room-next, count-next, fits-next, amid-none, amid-next, amid-all}
use Rattle.played_logs.proofs.play.play_events.Goals as goal

pub answer-requires-clause-session : goal.answer-requires-clause-session
answer-requires-clause-session g c =
    let left : into_iter_items c.loop-event.event-iterator ≡ c.in-Some.event ∷ into_iter_items c.next.new.self = search rules in
    session-next c.in-Some.event (into_iter_items c.next.new.self) left c.loop-event.invariant

pub answer-requires-clause-room : goal.answer-requires-clause-room
answer-requires-clause-room g c =
    let left : into_iter_items c.loop-event.event-iterator ≡ c.in-Some.event ∷ into_iter_items c.next.new.self = search rules in
    room-next c.in-Some.event (into_iter_items c.next.new.self) left c.loop-event.invariant

pub answer-requires-clause-fits : goal.answer-requires-clause-fits
answer-requires-clause-fits g c =
    let left : into_iter_items c.loop-event.event-iterator ≡ c.in-Some.event ∷ into_iter_items c.next.new.self = search rules in
    fits-next c.in-Some.event (into_iter_items c.next.new.self) left c.loop-event.invariant

pub loop-event-init : goal.loop-event-init
loop-event-init g c =
    let p : Point = point_of c.args.team.now.journal c.args.team.now.proposed.items (shared_history c.args.team.now.book) in
    let same : into_iter_items c.into_iter-event-iterator.result ≡ c.args.events.items = search rules in
    amid-none c.args.team.now.book.image.names p c.args.events.items (into_iter_items c.into_iter-event-iterator.result) c.args.out.now same c.requires.known c.requires.room

pub loop-event-preserved-in_ok-push_reply_line : goal.loop-event-preserved-in_ok-push_reply_line
loop-event-preserved-in_ok-push_reply_line g c =
    let left : into_iter_items c.loop-event.event-iterator ≡ c.in-Some.event ∷ into_iter_items c.next.new.self = search rules in
    let m : Point = point_of c.answer.new.team.journal c.answer.new.team.proposed.items (shared_history c.answer.new.team.book) in
    amid-next c.in-Some.event (into_iter_items c.next.new.self) left c.loop-event.invariant
    c.in_ok-reply.reply m c.answer.new.team.book.image.names c.push_reply_line.new.out c.in_ok-reply.ensures.answers c.answer.ensures.keeps c.in_ok-push_reply_line.ensures

pub loop-event-preserved : goal.loop-event-preserved
loop-event-preserved g c =
    let left : into_iter_items c.loop-event.event-iterator ≡ c.in-Some.event ∷ into_iter_items c.next.new.self = search rules in
    let m : Point = point_of c.answer.new.team.journal c.answer.new.team.proposed.items (shared_history c.answer.new.team.book) in
    amid-next c.in-Some.event (into_iter_items c.next.new.self) left c.loop-event.invariant
    c.in_ok-reply.reply m c.answer.new.team.book.image.names c.push_reply_line.new.out c.in_ok-reply.ensures.answers c.answer.ensures.keeps c.in_ok-push_reply_line.ensures

pub overflow_add-number : goal.overflow_add-number
overflow_add-number g c =
    let left : into_iter_items c.loop-event.event-iterator ≡ c.in-Some.event ∷ into_iter_items c.next.new.self = search rules in
    omega (arith, count-next c.in-Some.event (into_iter_items c.next.new.self) left c.loop-event.invariant)

pub returns-in_err-reply : goal.returns-in_err-reply
returns-in_err-reply g c =
    let failed = err_from_is_err_and c.from_residual.result c.from_residual.ensures.1 in
    rw failed.1 tt

pub returns-in_err-push_reply_line : goal.returns-in_err-push_reply_line
returns-in_err-push_reply_line g c =
    let failed = err_from_is_err_and c.from_residual-in_err-push_reply_line.result c.from_residual-in_err-push_reply_line.ensures.1 in
    rw failed.1 tt

pub returns : goal.returns
returns g c =
    let none : length (into_iter_items c.loop-event.event-iterator) ≡ 0 = search rules in
    amid-all c.loop-event.team.book none refl c.args.team.now.fit c.loop-event.invariant
