use Rattle.image_model.proofs.HierarchyLemmas.{chain-hierarchy}
use Rattle.image_model.proofs.grown.law_hierarchy.Goals as goal

pub returns : goal.returns
returns g c = λ same before after o e. chain-hierarchy same before after o e
