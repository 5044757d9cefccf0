use Rattle.class_table.proofs.Found.{lookup-live, lookup-image_of}
use Rattle.class_table.proofs.laws.law_lookup.Goals as goal

pub returns-clause-numbers : goal.returns-clause-numbers
returns-clause-numbers c = λ s class meta selector orderly live. lookup-live s orderly class meta selector live

pub returns-clause-texts : goal.returns-clause-texts
returns-clause-texts c = λ s class meta selector orderly live known. lookup-image_of s orderly class meta selector live known
