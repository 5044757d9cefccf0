use Rattle.scope_model.proofs.Changed.{free_names-map_names, free_names_of_run-map_statements}
use Rattle.scope_model.proofs.laws.law_free_names_named.Goals as goal

pub returns-clause-expression : goal.returns-clause-expression
returns-clause-expression g c = λ f p a b t keeps h. free_names-map_names _ f a b keeps t h

pub returns-clause-run : goal.returns-clause-run
returns-clause-run g c = λ f p a b ss keeps h. free_names_of_run-map_statements _ f a b keeps ss h
