use Rattle.std.proofs.Common.{◌++◌, ap, ◌∙◌, arith}
use Rattle.std.proofs.lemmas.Grind.{common_steps}
use Rattle.std.proofs.lemmas.List.{take_all}
use Rattle.use_index.specs.Uses.{uses_of}
use Rattle.use_index.proofs.Once.{once-step}
use Rattle.use_index.proofs.code.put_once.Goals as goal

pub loop-name-preserved : goal.loop-name-preserved
loop-name-preserved c = (
  grind (arith, common_steps),
  once-step c.args.way c.args.path.now c.loop-name.seen c.push.new.self c.name-item.result c.args.uses.now c.loop-name.uses c.put_new.new.uses c.loop-name.invariant.1
      (rw c.as_slice.ensures at c.in_ok-put_new.ensures)
      c.in_ok-push.ensures.ok,
)

pub returns : goal.returns
returns c =
    c.loop-name.invariant.1
    ∙ ap (λ ns. c.args.uses.now ++ uses_of c.args.way c.args.path.now ns) (c.loop-name.invariant.0 ∙ take_all c.loop-name.name-index c.args.names.now (omega arith))
