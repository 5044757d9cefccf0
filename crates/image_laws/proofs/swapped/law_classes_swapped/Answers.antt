use Rattle.image_laws.proofs.SwapLemmas.{class-live, class-dead}
use Rattle.image_laws.proofs.swapped.law_classes_swapped.Goals as goal

pub returns-clause-live : goal.returns-clause-live
returns-clause-live c = λ s k p former class orders at e kept. class-live s k former class e kept p orders at

pub returns-clause-not_live : goal.returns-clause-not_live
returns-clause-not_live c = λ s k former class at e kept. class-dead s k former class e kept at
