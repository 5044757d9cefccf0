use Rattle.std.proofs.Common.{◌≡◌, ◌++◌}
use Rattle.change_file.proofs.DoItTexts.{replacements_from}
use Rattle.change_file.proofs.doit_edits.write_replacements.Given as goal

abbrev pub invariant-loop-number : goal.invariant-loop-number
invariant-loop-number l = l.out ++ replacements_from l.number l.old.doits l.new.doits ≡ l.initial.out ++ replacements_from 0 l.old.doits l.new.doits
