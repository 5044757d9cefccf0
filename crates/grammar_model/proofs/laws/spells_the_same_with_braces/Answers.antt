use Rattle.grammar_model.proofs.Dialects.{doit_second, method_second}
use Rattle.grammar_model.proofs.laws.spells_the_same_with_braces.Goals as goal

pub returns-clause-doit : goal.returns-clause-doit
returns-clause-doit c = doit_second

pub returns-clause-method : goal.returns-clause-method
returns-clause-method c = method_second
