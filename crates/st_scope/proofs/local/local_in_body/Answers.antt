use Rattle.std.proofs.Common.{refl, Some, None}
use Rattle.scope_model.specs.NameTests.{is_pseudo_in}
use Rattle.st_scope.proofs.Locals.{local_in_body_step}
use Rattle.st_scope.proofs.local.local_in_body.Goals as goal

pub returns-in-None-statement_node : goal.returns-in-None-statement_node
returns-in-None-statement_node c =
    local_in_body_step (is_pseudo_in c.args.names.now) c.args.arguments.now c.args.body.now.temporaries c.as_slice.result.now c.args.body.now.statements
    c.as_slice-in-Some.result.now c.args.steps.now c.in-Some.step.now c.in-Some.rest.now None c.args.name c.declared_or-outside.result c.declared_or-outside.result
    c.is_pseudo.result c.if-is_pseudo.false c.is_pseudo.ensures c.in-Some.ensures.cases.0 c.as_slice-in-Some.ensures c.in-None-statement_node.ensures
    c.as_slice.ensures c.declared_or-outside.ensures refl

pub returns-in-Some-statement_node : goal.returns-in-Some-statement_node
returns-in-Some-statement_node c =
    local_in_body_step (is_pseudo_in c.args.names.now) c.args.arguments.now c.args.body.now.temporaries c.as_slice.result.now c.args.body.now.statements
    c.as_slice-in-Some.result.now c.args.steps.now c.in-Some.step.now c.in-Some.rest.now (Some c.in-Some-statement_node.node.now) c.args.name
    c.declared_or-outside.result c.local_below.result
    c.is_pseudo.result c.if-is_pseudo.false c.is_pseudo.ensures c.in-Some.ensures.cases.0 c.as_slice-in-Some.ensures c.in-Some-statement_node.ensures
    c.as_slice.ensures c.declared_or-outside.ensures c.local_below.ensures
