use Rattle.class_table.proofs.Found.{class_named-named_in}
use Rattle.class_table.proofs.laws.law_class_named.Goals as goal

pub returns : goal.returns
returns c = λ s name. class_named-named_in s name
