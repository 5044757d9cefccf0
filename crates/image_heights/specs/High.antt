-- Changes that make code too high.
use Rattle.std.specs.Prelude.{Bool, false}
use Rattle.st_tree.specs.View.{sequence_of}
use Rattle.change_set.specs.declared.change.Change.{Change}
use Rattle.change_set.specs.declared.change.Change.TheVariants as change
use Rattle.parameter_questions.specs.Questions.{is_high}

-- whether a change puts a method or a do-it in that is higher than 200 nodes
abbrev pub is_high_change : Change → Bool
is_high_change (change.Class id rec) = false
is_high_change (change.Method slot rec) = is_high (sequence_of rec.tree.body)
is_high_change (change.DoIt n doit) = is_high (sequence_of doit.body)
is_high_change (change.Part at path part source) = false
is_high_change (change.Live what at) = false
