use Rattle.tree_model.proofs.Parts.{part_at-replaced, replaced-replaced, replaced-part_at, replaced-nowhere, part_at-replaced_apart, replaced-append}
use Rattle.tree_model.proofs.laws.law_replaced.Goals as goal

pub returns-clause-found : goal.returns-clause-found
returns-clause-found g c = λ t path d u e. part_at-replaced t path d u e

pub returns-clause-last : goal.returns-clause-last
returns-clause-last g c = λ t path u v. replaced-replaced t path u v

pub returns-clause-by_itself : goal.returns-clause-by_itself
returns-clause-by_itself g c = λ t path d e. replaced-part_at t path d e

pub returns-clause-nowhere : goal.returns-clause-nowhere
returns-clause-nowhere g c = λ t path u e. replaced-nowhere t path u e

pub returns-clause-others : goal.returns-clause-others
returns-clause-others g c = λ t path other u apart. part_at-replaced_apart t path other u apart

pub returns-clause-inside : goal.returns-clause-inside
returns-clause-inside g c = λ t path rest d u e. replaced-append t path rest d u e
