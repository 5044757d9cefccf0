use Rattle.tree_model.proofs.Measures.{height-map_names, size-map_names, height-bare, size-bare}
use Rattle.tree_model.proofs.laws.law_heights.Goals as goal

pub returns-clause-height_named : goal.returns-clause-height_named
returns-clause-height_named g c = λ f t. height-map_names f t

pub returns-clause-size_named : goal.returns-clause-size_named
returns-clause-size_named g c = λ f t. size-map_names f t

pub returns-clause-height_bare : goal.returns-clause-height_bare
returns-clause-height_bare g c = λ t. height-bare t

pub returns-clause-size_bare : goal.returns-clause-size_bare
returns-clause-size_bare g c = λ t. size-bare t
