use Rattle.image_laws.proofs.SwapLemmas.{doit-swapped, doit-source, doit-body}
use Rattle.image_laws.proofs.swapped.law_doits_swapped.Goals as goal

pub returns-clause-whole : goal.returns-clause-whole
returns-clause-whole c = λ s n d. doit-swapped s n d

pub returns-clause-source : goal.returns-clause-source
returns-clause-source c = λ s n text. doit-source s n text

pub returns-clause-body : goal.returns-clause-body
returns-clause-body c = λ s n body. doit-body s n body
