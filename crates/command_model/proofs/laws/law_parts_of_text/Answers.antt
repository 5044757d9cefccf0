use Rattle.command_model.proofs.PartsFound.{finds-parts, finds-one, finds-none}
use Rattle.command_model.proofs.laws.law_parts_of_text.Goals as goal

pub returns-clause-locating : goal.returns-clause-locating
returns-clause-locating c = finds-parts

pub returns-clause-one_part : goal.returns-clause-one_part
returns-clause-one_part c = finds-one

pub returns-clause-none_unspelled : goal.returns-clause-none_unspelled
returns-clause-none_unspelled c = finds-none
