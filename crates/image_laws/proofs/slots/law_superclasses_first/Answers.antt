use Rattle.image_laws.proofs.SlotLemmas.{superclasses-first}
use Rattle.image_laws.proofs.slots.law_superclasses_first.Goals as goal

pub returns : goal.returns
returns c = λ s orderly before. superclasses-first s orderly before
