use Rattle.image_laws.proofs.SlotLemmas.{orderly-put_in}
use Rattle.image_laws.proofs.slots.law_class_orderly.Goals as goal

pub returns : goal.returns
returns c = λ s k p class orderly at fits. orderly-put_in s orderly k class at p fits
