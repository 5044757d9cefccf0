use Rattle.std.proofs.Common.{◌++◌, drop, ap, ◌∙◌}
use Rattle.rb_base.specs.Doubling.{doubled}
use Rattle.chunk_format.proofs.Cuts.{behind, between, halve_pair, halve_rest}
use Rattle.chunk_format.proofs.source.halve_marks.Goals as goal

pub loop-skipped-preserved : goal.loop-skipped-preserved
loop-skipped-preserved c =
    let i = c.loop-skipped.invariant in
    let h = halve_pair c.args.paired.now c.loop-skipped.halved.items c.loop-skipped.from c.in-Some.skipped i.inside i.so_far i.rest (rw (behind _ _ i.inside) at c.in-Some.ensures) in
    record {
      inside = h.inside;
      so_far = ap (doubled 33) (c.in_ok-extend_from_slice.ensures.items ∙ ap (λ s. c.loop-skipped.halved.items ++ s) (between c.loop-skipped.from c.in-Some.skipped (drop c.loop-skipped.from c.args.paired.now))) ∙ h.made_so_far;
      rest = h.rest;
    }

pub returns : goal.returns
returns c =
    let i = c.loop-skipped.invariant in
    ap (doubled 33) (c.in_ok-extend_from_slice-2.ensures.items ∙ ap (λ s. c.loop-skipped.halved.items ++ s) (behind c.loop-skipped.from c.args.paired.now i.inside)) ∙ halve_rest c.args.paired.now c.loop-skipped.halved.items c.loop-skipped.from i.so_far (rw (behind _ _ i.inside) at c.in_default.ensures)
