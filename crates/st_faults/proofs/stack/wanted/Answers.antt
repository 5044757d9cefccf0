use Rattle.std.proofs.Common.{◌-◌, ap, sym, ◌∙◌, take, arith}
use Rattle.grammar_model.specs.Machine.{wish}
use Rattle.st_faults.specs.Stacks.{stack_of}
use Rattle.st_faults.proofs.Stacked.{stack_of-take}
use Rattle.st_faults.proofs.stack.wanted.Goals as goal

pub returns-in-Some : goal.returns-in-Some
returns-in-Some c =
    sym (c.loop-count.invariant.same ∙ ap wish (stack_of-take c.args.stack.now c.loop-count.count _ c.loop-count-test.true c.loop-count.invariant.inside) ∙
    c.in-Some.ensures (stack_of (take (c.loop-count.count - 1) c.args.stack.now)))

pub loop-count-preserved : goal.loop-count-preserved
loop-count-preserved c = record {
  inside = omega arith;
  same = c.loop-count.invariant.same ∙ ap wish (stack_of-take c.args.stack.now c.loop-count.count _ c.loop-count-test.true c.loop-count.invariant.inside) ∙
      c.in_default.ensures (stack_of (take (c.loop-count.count - 1) c.args.stack.now));
}
