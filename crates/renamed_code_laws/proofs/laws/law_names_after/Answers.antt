use Rattle.renamed_code_laws.proofs.NamesAfter.{method-names_after, doit-names_after}
use Rattle.renamed_code_laws.proofs.laws.law_names_after.Goals as goal

pub returns-clause-method : goal.returns-clause-method
returns-clause-method c = λ s what to slot other rec e n there. method-names_after s what to slot other rec e n there

pub returns-clause-doit : goal.returns-clause-doit
returns-clause-doit c = λ s what to number other doit e n there. doit-names_after s what to number other doit e n there
