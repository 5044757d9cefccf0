-- The numbers of the statuses.
use Rattle.std.specs.Prelude.{ℕ}
use Rattle.image_forms.specs.declared.status.Status.{Status}
use Rattle.image_forms.specs.declared.status.Status.TheVariants.{Done, Condition, Usage, ImageText, ScriptText, Read, Write, Memory, TooLarge, RunError, Spent}

-- with which number a process ends that ended so
abbrev pub number_of : Status → ℕ
number_of Done = 0
number_of Condition = 1
number_of Usage = 2
number_of ImageText = 3
number_of ScriptText = 4
number_of Read = 5
number_of Write = 6
number_of Memory = 7
number_of TooLarge = 8
number_of RunError = 9
number_of Spent = 10
