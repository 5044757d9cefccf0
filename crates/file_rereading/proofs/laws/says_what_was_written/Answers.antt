use Rattle.file_rereading.proofs.Says.{says_definition, says_class_side, says_comment, says_opening}
use Rattle.file_rereading.proofs.laws.says_what_was_written.Goals as goal

pub returns-clause-definition : goal.returns-clause-definition
returns-clause-definition c = says_definition

pub returns-clause-class_side : goal.returns-clause-class_side
returns-clause-class_side c = says_class_side

pub returns-clause-comment : goal.returns-clause-comment
returns-clause-comment c = says_comment

pub returns-clause-opening : goal.returns-clause-opening
returns-clause-opening c = says_opening
