use Rattle.tree_model.proofs.NormalLemmas.{IsNormal-normal, normal-IsNormal, bare_method-normal, normal-map_method}
use Rattle.tree_model.proofs.laws.law_normal.Goals as goal

pub returns-clause-is : goal.returns-clause-is
returns-clause-is g c = λ m. IsNormal-normal m

pub returns-clause-stays : goal.returns-clause-stays
returns-clause-stays g c = λ m is. normal-IsNormal m is

pub returns-clause-bare : goal.returns-clause-bare
returns-clause-bare g c = λ m. bare_method-normal m

pub returns-clause-named : goal.returns-clause-named
returns-clause-named g c = λ f m. normal-map_method f m
