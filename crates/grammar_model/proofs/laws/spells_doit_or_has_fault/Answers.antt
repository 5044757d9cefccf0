use Rattle.grammar_model.specs.Whole.{DoIt}
use Rattle.grammar_model.proofs.Texts.{doit_or_fault, no_fault_DoIt, one_SpellsDoIt, one_HasFirstFault}
use Rattle.grammar_model.proofs.laws.spells_doit_or_has_fault.Goals as goal

pub returns-clause-either : goal.returns-clause-either
returns-clause-either c = doit_or_fault

pub returns-clause-not_both : goal.returns-clause-not_both
returns-clause-not_both c = no_fault_DoIt

pub returns-clause-one_tree : goal.returns-clause-one_tree
returns-clause-one_tree c = one_SpellsDoIt

pub returns-clause-one_fault : goal.returns-clause-one_fault
returns-clause-one_fault c = λ d t v w. one_HasFirstFault d DoIt t v w
