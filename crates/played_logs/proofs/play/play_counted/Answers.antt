use Rattle.std.proofs.Common.{List, ℕ, length, ap, subst, sym, arith}
use Rattle.class_table.specs.View.{image_of}
use Rattle.session_model.specs.Scripts.{History}
use Rattle.log_lang.specs.Shown.{AreKnownEvents}
use Rattle.team_core.specs.Events.{point_of}
use Rattle.session_book.specs.Shared.{book_of, shared_history}
use Rattle.played_logs.proofs.Playing.{Point}
use Rattle.played_logs.proofs.Answering.{answer-played}
use Rattle.played_logs.proofs.play.play_counted.Goals as goal

pub play_events-requires-clause-known : goal.play_events-requires-clause-known
play_events-requires-clause-known g c = subst (λ (ns : List (List ℕ)). AreKnownEvents ns c.args.events.items) (sym c.in_ok-team.ensures.names) c.requires.known

pub play_events-requires-clause-room : goal.play_events-requires-clause-room
play_events-requires-clause-room g c = omega (arith, ap length c.in_ok-team.ensures.journal, c.requires.few)

pub returns : goal.returns
returns g c =
    let team = c.in_ok-team.team in
    let p : Point = point_of team.journal team.proposed.items (shared_history team.book) in
    answer-played c.args.image.names team.book.image.names (image_of c.args.image) p c.args.events.items c.play_events.new.team.book c.args.out.now c.play_events.new.out c.push_slice.new.self c.write_image.new.out
    c.in_ok-team.ensures.names c.in_ok-team.ensures.journal c.in_ok-team.ensures.proposed (ap (λ (h : History). book_of h) c.in_ok-team.ensures.history) c.in_ok-play_events.ensures c.requires.empty
    c.in_ok-push_slice.ensures.ok (rw (c.image.ensures.image, c.book.ensures) at c.in_ok-write_image.ensures.ok)
