use Rattle.std.proofs.Common.{ap, sym}
use Rattle.class_table.specs.View.{image_of}
use Rattle.session_book.specs.Shared.{book_of, shared_history}
use Rattle.session_model.specs.Scripts.{History}
use Rattle.played_logs.proofs.Answering.{is-opening}
use Rattle.played_logs.proofs.play.team_of.Goals as goal

pub open-requires-clause-self_known : goal.open-requires-clause-self_known
open-requires-clause-self_known g c = rw c.reindex.ensures c.requires.self_known

pub open-requires-2 : goal.open-requires-2
open-requires-2 g c = is-opening (image_of c.reindex.new.self) (shared_history c.in_ok-book.book) (ap (λ (h : History). book_of h) c.in_ok-book.ensures.history)

pub returns-in-Ok-clause-history : goal.returns-in-Ok-clause-history
returns-in-Ok-clause-history g c = rw (c.in-Ok.ensures.book, sym c.reindex.ensures) c.in_ok-book.ensures.history
