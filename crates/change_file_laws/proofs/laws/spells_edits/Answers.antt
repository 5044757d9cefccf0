use Rattle.change_file_laws.proofs.EditsRead.{spells_change}
use Rattle.change_file_laws.proofs.Lines.{spells_settling, spells_replacement, spells_placed_opening}
use Rattle.change_file_laws.proofs.Numbers.{numeral_unsigned}
use Rattle.std.specs.Fmt.{decimal}
use Rattle.change_file_laws.proofs.laws.spells_edits.Goals as goal

pub returns-clause-change : goal.returns-clause-change
returns-clause-change c = λ change stated. spells_change (record { definition = c.spells_definitions.ensures.definition; class_side = c.spells_definitions.ensures.class_side; comment = c.spells_definitions.ensures.comment }) change stated

pub returns-clause-settling : goal.returns-clause-settling
returns-clause-settling c = spells_settling

pub returns-clause-replacement : goal.returns-clause-replacement
returns-clause-replacement c = λ k source n. spells_replacement (decimal k) source (numeral_unsigned k n)

pub returns-clause-opening : goal.returns-clause-opening
returns-clause-opening c = λ run k word n. spells_placed_opening run (decimal k) word (numeral_unsigned k n)
