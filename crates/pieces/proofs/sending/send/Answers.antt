-- What was put so far, and what the next put adds.
use Rattle.std.proofs.Common.{rules, arith, [], ◌∷◌, sym, drop}
use Rattle.std.proofs.lemmas.List.{take-append-drop}
use Rattle.std.proofs.lemmas.Result.{err_from_is_err_and, on_err_weaker, on_ok_weaker}
use Rattle.rb_base.proofs.Sending.{GoesOn-start, GoesOn-step, SendsPart-front}
use Rattle.pieces.specs.Puts.{LastPiece, Taken, Adds, PutsAll}
use Rattle.pieces.proofs.Pieces.{start_of_puts, one_more, none_left, last_taken, put_failed, put_wanted, has_first}
use Rattle.pieces.proofs.sending.send.Goals as goal

pub loop-rest-init : goal.loop-rest-init
loop-rest-init g c = record {
  goes_on = GoesOn-start _ _;
  faults = omega arith;
  puts = start_of_puts _ _;
}

pub loop-rest-preserved : goal.loop-rest-preserved
loop-rest-preserved g c = record {
  goes_on = GoesOn-step _ _ _ _ _ _ _ (rw (c.split_at.ensures.front, c.split_at.ensures.back) (sym (take-append-drop 1024 _))) c.in_ok-put_piece.ensures.ok c.loop-rest.invariant.goes_on;
  faults = omega (arith, c.put_piece.ensures.more_faults, c.loop-rest.invariant.faults);
  puts = one_more _ _ c.split_at.result.0.now _ _ _ _ (rw (c.split_at.ensures.front, c.split_at.ensures.back) (sym (take-append-drop 1024 _))) c.split_at.ensures.front_len c.in_ok-put_piece.ensures.taken c.loop-rest.invariant.puts;
}

pub returns-in_err-put_piece-clause-err : goal.returns-in_err-put_piece-clause-err
returns-in_err-put_piece-clause-err g c =
    let p = err_from_is_err_and c.from_residual.result c.from_residual.ensures.1 in
    rw p.1 (c.loop-rest.invariant.goes_on.some _ (SendsPart-front _ _ (drop 1024 c.loop-rest.rest.now) _ _ (rw (c.split_at.ensures.front) (sym (take-append-drop 1024 _))) c.in_err-put_piece.ensures.err))

pub returns-in_err-put_piece-clause-failed : goal.returns-in_err-put_piece-clause-failed
returns-in_err-put_piece-clause-failed g c = λ is.
    let (after, are) = has_first c.loop-rest.rest.now c.split_at.result.0.now c.split_at.result.1.now (rw (c.split_at.ensures.front, c.split_at.ensures.back) (sym (take-append-drop 1024 _))) c.split_at.ensures.front_len in
    put_failed _ _ _ after _ _ _ are (c.in_err-put_piece.ensures.failed (search rules)) c.loop-rest.invariant.puts

pub returns-in_err-put_piece-clause-wanted : goal.returns-in_err-put_piece-clause-wanted
returns-in_err-put_piece-clause-wanted g c = λ is.
    let (after, are) = has_first c.loop-rest.rest.now c.split_at.result.0.now c.split_at.result.1.now (rw (c.split_at.ensures.front, c.split_at.ensures.back) (sym (take-append-drop 1024 _))) c.split_at.ensures.front_len in
    put_wanted _ _ _ after _ _ _ are (c.in_err-put_piece.ensures.wanted (search rules)) c.loop-rest.invariant.puts

pub returns-then-is_empty-clause-all : goal.returns-then-is_empty-clause-all
returns-then-is_empty-clause-all g c = none_left _ _ _ _ (search rules) c.loop-rest.invariant.puts

pub returns-else-is_empty-clause-err : goal.returns-else-is_empty-clause-err
returns-else-is_empty-clause-err g c = on_err_weaker _ (c.loop-rest.invariant.goes_on.some _) c.put_piece-else-is_empty.ensures.err

pub returns-else-is_empty-clause-all : goal.returns-else-is_empty-clause-all
returns-else-is_empty-clause-all g c =
    let before = g.K.PutSink.puts c.loop-rest.out in
    let after = g.K.PutSink.puts c.put_piece-else-is_empty.new.self in
    on_ok_weaker {Q = PutsAll c.args.bytes.now (g.K.PutSink.puts c.args.out.now) after} c.put_piece-else-is_empty.result
    (λ (add : Adds (Taken c.loop-rest.rest.now ∷ []) before after). last_taken _ _ _ _ _ (search rules) (search rules) add c.loop-rest.invariant.puts) c.put_piece-else-is_empty.ensures.taken

pub returns-else-is_empty-clause-failed : goal.returns-else-is_empty-clause-failed
returns-else-is_empty-clause-failed g c = λ is.
    put_failed _ _ _ [] _ _ _ (LastPiece _ (search rules) (search rules)) (c.put_piece-else-is_empty.ensures.failed is) c.loop-rest.invariant.puts

pub returns-else-is_empty-clause-wanted : goal.returns-else-is_empty-clause-wanted
returns-else-is_empty-clause-wanted g c = λ is.
    put_wanted _ _ _ [] _ _ _ (LastPiece _ (search rules) (search rules)) (c.put_piece-else-is_empty.ensures.wanted is) c.loop-rest.invariant.puts
