use Rattle.tree_model.proofs.BareLemmas.{bare-bare, bare_method-map_method}
use Rattle.tree_model.proofs.laws.law_bare.Goals as goal

pub returns-clause-gone : goal.returns-clause-gone
returns-clause-gone g c = λ t. bare-bare t

pub returns-clause-named : goal.returns-clause-named
returns-clause-named g c = λ f m. bare_method-map_method f m
