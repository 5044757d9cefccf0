use Rattle.image_laws.proofs.Sources.{source-back, source-there, tree-back, body-back}
use Rattle.image_laws.proofs.undone.law_source_undone.Goals as goal

pub returns-clause-back : goal.returns-clause-back
returns-clause-back c = λ s place former other e. source-back s place former other e

pub returns-clause-source : goal.returns-clause-source
returns-clause-source c = λ s place former other e. source-there s place former other e

pub returns-clause-tree : goal.returns-clause-tree
returns-clause-tree c = λ s k m other e. tree-back s k m other e

pub returns-clause-body : goal.returns-clause-body
returns-clause-body c = λ s n d other e. body-back s n d other e
