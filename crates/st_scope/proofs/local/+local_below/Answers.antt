use Rattle.st_scope.proofs.Locals.{local_below_child}
use Rattle.st_scope.proofs.local.+local_below.Goals as goal

pub returns-in-Some-child : goal.returns-in-Some-child
returns-in-Some-child t c =
    local_below_child c.args.depth c.args.node.now c.args.steps.now c.in-Some.step.now c.in-Some.rest.now c.in-Some-child.child.now c.args.name c.args.outside
    c.local_inside-inside.result c.local_below.result c.in-Some.ensures.cases.0 c.in-Some-child.ensures c.local_inside-inside.ensures c.local_below.ensures
