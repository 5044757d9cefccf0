use Rattle.scope_model.proofs.Changed.{local_in_scope-map_scope}
use Rattle.scope_model.specs.Scope.{method_scope, doit_scope}
use Rattle.scope_model.proofs.laws.law_local_named.Goals as goal

pub returns-clause-method : goal.returns-clause-method
returns-clause-method g c =
    λ f p a b m path n keeps h q.
    local_in_scope-map_scope _ f a b keeps (method_scope m) path n
    (record { arguments = h.arguments; temporaries = h.body.temporaries; statements = h.body.statements }) q

pub returns-clause-doit : goal.returns-clause-doit
returns-clause-doit g c =
    λ f p a b m path n keeps h q.
    local_in_scope-map_scope _ f a b keeps (doit_scope m) path n
    (record { arguments = tt; temporaries = h.temporaries; statements = h.statements }) q
