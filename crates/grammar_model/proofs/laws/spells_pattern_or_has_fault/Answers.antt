use Rattle.grammar_model.proofs.Texts.{pattern_or_fault, no_fault_Pattern, one_SpellsPattern, one_HasFirstPatternFault}
use Rattle.grammar_model.proofs.laws.spells_pattern_or_has_fault.Goals as goal

pub returns-clause-either : goal.returns-clause-either
returns-clause-either c = pattern_or_fault

pub returns-clause-not_both : goal.returns-clause-not_both
returns-clause-not_both c = no_fault_Pattern

pub returns-clause-one_tree : goal.returns-clause-one_tree
returns-clause-one_tree c = one_SpellsPattern

pub returns-clause-one_fault : goal.returns-clause-one_fault
returns-clause-one_fault c = one_HasFirstPatternFault
