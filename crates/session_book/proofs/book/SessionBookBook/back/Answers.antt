use Rattle.std.proofs.Common.{subst}
use Rattle.team_core.specs.History.{Back, moved, Moves}
use Rattle.session_book.specs.Shared.{Shared, book_rules, shared_history}
use Rattle.session_book.proofs.Sharing.{back-moves}
use Rattle.session_book.proofs.book.SessionBookBook.back.Goals as goal

pub returns-clause-moves : goal.returns-clause-moves
returns-clause-moves g c =
    let v = c.self.inside in
    let after : Shared = record { image = c.moved_by.new.image; log = c.moved_by.new.session } in
    subst (λ (b : Shared). Moves (moved (book_rules b.image.names) (shared_history b) Back) (shared_history b) c.moved_by.result (shared_history after)) c.self.view_is
    (back-moves v.image.names v.image c.moved_by.new.image v.session c.moved_by.new.session c.moved_by.result c.moved_by.ensures.moved)
