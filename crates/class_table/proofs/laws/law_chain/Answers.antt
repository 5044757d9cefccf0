use Rattle.class_table.proofs.Found.{chain-live}
use Rattle.class_table.proofs.laws.law_chain.Goals as goal

pub returns : goal.returns
returns c = λ s class orderly live. chain-live s orderly class live
