use Rattle.st_faults.proofs.brackets.scan.Goals as goal

pub returns-in-Ok-TooDeep-clause-fault : goal.returns-in-Ok-TooDeep-clause-fault
returns-in-Ok-TooDeep-clause-fault c = rw c.in-Ok-TooDeep.field-0-is at c.in-Ok-TooDeep.ensures.depth
