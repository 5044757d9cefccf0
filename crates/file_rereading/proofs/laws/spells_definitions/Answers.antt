use Rattle.file_rereading.proofs.Lines.{spells_class_side, spells_comment, spells_opening}
use Rattle.file_rereading.proofs.Definitions.{spells_definition}
use Rattle.file_rereading.proofs.laws.spells_definitions.Goals as goal

pub returns-clause-definition : goal.returns-clause-definition
returns-clause-definition c = spells_definition

pub returns-clause-class_side : goal.returns-clause-class_side
returns-clause-class_side c = spells_class_side

pub returns-clause-comment : goal.returns-clause-comment
returns-clause-comment c = spells_comment

pub returns-clause-opening : goal.returns-clause-opening
returns-clause-opening c = spells_opening
