use Rattle.std.proofs.Common.{◌-◌, ◌<◌, length, ap, ◌∙◌, take, arith}
use Rattle.grammar_model.specs.Machine.{step}
use Rattle.st_faults.specs.Sorts.{terminal}
use Rattle.st_faults.specs.Stacks.{stack_of}
use Rattle.st_faults.proofs.Stacked.{stack_of-take}
use Rattle.st_faults.proofs.stack.find.Goals as goal

pub returns-in-Refuses : goal.returns-in-Refuses
returns-in-Refuses c = λ s t.
    c.loop-count.invariant.same s t ∙
    ap (λ ss. step ss (terminal c.args.sort s t)) (stack_of-take c.args.stack.now c.loop-count.count _ c.loop-count-test.true c.loop-count.invariant.inside) ∙
    c.in-Refuses.ensures s t (stack_of (take (c.loop-count.count - 1) c.args.stack.now))

pub loop-count-preserved : goal.loop-count-preserved
loop-count-preserved c = record {
  inside = omega arith;
  same = λ s t.
      c.loop-count.invariant.same s t ∙
      ap (λ ss. step ss (terminal c.args.sort s t)) (stack_of-take c.args.stack.now c.loop-count.count _ c.loop-count-test.true c.loop-count.invariant.inside) ∙
      c.in-Passes.ensures s t (stack_of (take (c.loop-count.count - 1) c.args.stack.now));
}

pub returns-in-Reads : goal.returns-in-Reads
returns-in-Reads c =
    let below : c.loop-count.count - 1 < length c.args.stack.now = omega (arith, c.loop-count.invariant.inside) in (
      below,
      λ s t.
          c.loop-count.invariant.same s t ∙
          ap (λ ss. step ss (terminal c.args.sort s t)) (stack_of-take c.args.stack.now c.loop-count.count _ c.loop-count-test.true c.loop-count.invariant.inside) ∙
          c.in-Reads.ensures s t (stack_of (take (c.loop-count.count - 1) c.args.stack.now)),
    )
