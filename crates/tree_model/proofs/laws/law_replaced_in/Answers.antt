use Rattle.tree_model.proofs.Parts.{part_in-replaced_in, replaced_in-replaced_in, replaced_in-part_in, replaced_in-nowhere, part_in-replaced_in_apart}
use Rattle.tree_model.proofs.laws.law_replaced_in.Goals as goal

pub returns-clause-found : goal.returns-clause-found
returns-clause-found g c = λ b path d u e. part_in-replaced_in b path d u e

pub returns-clause-last : goal.returns-clause-last
returns-clause-last g c = λ b path u v. replaced_in-replaced_in b path u v

pub returns-clause-by_itself : goal.returns-clause-by_itself
returns-clause-by_itself g c = λ b path d e. replaced_in-part_in b path d e

pub returns-clause-nowhere : goal.returns-clause-nowhere
returns-clause-nowhere g c = λ b path u e. replaced_in-nowhere b path u e

pub returns-clause-others : goal.returns-clause-others
returns-clause-others g c = λ b path other u apart. part_in-replaced_in_apart b path other u apart
