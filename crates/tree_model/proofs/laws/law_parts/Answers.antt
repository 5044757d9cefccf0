use Rattle.tree_model.proofs.Parts.{part_at-append}
use Rattle.tree_model.proofs.laws.law_parts.Goals as goal

pub returns : goal.returns
returns g c = λ t path rest. part_at-append t path rest
