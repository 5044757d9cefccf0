use Rattle.std.specs.Vec.Iter.{into_iter_items}
use Rattle.team_core.specs.Events.{point_of}
use Rattle.session_book.specs.Shared.{shared_history}
use Rattle.played_logs.proofs.Playing.{IsAmid}
use Rattle.played_logs.proofs.play.play_events.Given as goal

abbrev pub invariant-loop-event : goal.invariant-loop-event
invariant-loop-event g l =
    IsAmid l.initial.team.book.image.names (point_of l.initial.team.journal l.initial.team.proposed.items (shared_history l.initial.team.book)) l.fn.events.items (into_iter_items l.event-iterator)
    l.team.book.image.names (point_of l.team.journal l.team.proposed.items (shared_history l.team.book)) l.number l.initial.out l.out
