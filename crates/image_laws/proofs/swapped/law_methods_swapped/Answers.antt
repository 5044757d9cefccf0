use Rattle.image_laws.proofs.SwapLemmas.{method-live, method-dead, method-source, method-tree}
use Rattle.image_laws.proofs.swapped.law_methods_swapped.Goals as goal

pub returns-clause-live : goal.returns-clause-live
returns-clause-live c = λ s k p m orders at. method-live s k p m orders at

pub returns-clause-not_live : goal.returns-clause-not_live
returns-clause-not_live c = λ s k m at. method-dead s k m at

pub returns-clause-source : goal.returns-clause-source
returns-clause-source c = λ s k p text orders at. method-source s k p text orders at

pub returns-clause-tree : goal.returns-clause-tree
returns-clause-tree c = λ s k p t orders at. method-tree s k p t orders at
