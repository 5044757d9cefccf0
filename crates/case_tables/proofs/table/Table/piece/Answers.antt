-- Each kind of pieces.
use Rattle.std.proofs.Common.{refl, sym, ◌∙◌}
use Rattle.std.proofs.lemmas.Bool.{false≢true}
use Rattle.case_tables.proofs.ReadPieces.{plain_read, repeated_read, counted_read}
use Rattle.case_tables.proofs.table.Table.piece.Goals as goal

pub returns-in_ok-extend_from_slice-clause-read : goal.returns-in_ok-extend_from_slice-clause-read
returns-in_ok-extend_from_slice-clause-read c = λ _. plain_read c.in_ok-bytes.field-0.now _ _ _ _ _ (c.if-skip.ensures.read refl) c.in_ok-bytes.ensures.ok c.in_ok-extend_from_slice.ensures.items

pub returns-in_ok-push_times-clause-read : goal.returns-in_ok-push_times-clause-read
returns-in_ok-push_times-clause-read c = λ _.
    let read = sym (c.if-skip.ensures.unread false≢true) ∙ c.if-skip-2.ensures.read refl in
    repeated_read c.in_ok-times.times c.in_ok-bytes-2.field-0.now _ _ _ _ _ _ read c.in_ok-times.ensures.ok c.in_ok-bytes-2.ensures.ok c.in_ok-push_times.ensures

pub returns-in_ok-push_count-clause-read : goal.returns-in_ok-push_count-clause-read
returns-in_ok-push_count-clause-read c = λ _.
    let read = sym (c.if-skip-2.ensures.unread false≢true ∙ c.if-skip.ensures.unread false≢true) ∙ c.if-skip-3.ensures.read refl in
    counted_read c.in_ok-from.from c.in_ok-before.before c.in_ok-bytes-3.field-0.now _ _ _ _ _ _ _ read c.in_ok-from.ensures.ok c.in_ok-before.ensures.ok c.in_ok-bytes-3.ensures.ok c.in_ok-push_count.ensures
