use Rattle.std.proofs.Common.{◌++◌, ◌∷◌, [], drop, ap, ◌∙◌, arith}
use Rattle.chunk_format.proofs.Cuts.{behind, between, double_mark, double_rest}
use Rattle.chunk_format.proofs.Doubles.{FindsMark-from_first}
use Rattle.std.proofs.Common.{length-drop}
use Rattle.chunk_format.proofs.source.double_marks.Goals as goal

pub loop-skipped-preserved : goal.loop-skipped-preserved
loop-skipped-preserved c =
    let i = c.loop-skipped.invariant in
    let first = rw (behind _ _ i.inside) at c.in-Some.ensures in
    let found = FindsMark-from_first 33 (drop c.loop-skipped.from c.args.source.now) c.in-Some.skipped first in
    record {
      inside = omega (arith, found.inside, length-drop c.loop-skipped.from c.args.source.now);
      so_far = c.in_ok-push.ensures.items ∙ ap (λ s. s ++ 33 ∷ []) (c.in_ok-extend_from_slice.ensures.items ∙ ap (λ s. c.loop-skipped.written.items ++ s) (between c.loop-skipped.from c.in-Some.skipped (drop c.loop-skipped.from c.args.source.now))) ∙ double_mark c.args.source.now c.loop-skipped.written.items c.loop-skipped.from c.in-Some.skipped i.inside i.so_far first;
    }

pub returns : goal.returns
returns c =
    let i = c.loop-skipped.invariant in
    c.in_ok-extend_from_slice-2.ensures.items ∙ ap (λ s. c.loop-skipped.written.items ++ s) (behind c.loop-skipped.from c.args.source.now i.inside) ∙ double_rest c.args.source.now c.loop-skipped.written.items c.loop-skipped.from i.so_far (rw (behind _ _ i.inside) at c.in_default.ensures)
