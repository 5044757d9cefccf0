use Rattle.grammar_model.specs.Whole.{Method}
use Rattle.grammar_model.proofs.Texts.{method_or_fault, no_fault_Method, one_SpellsMethod, one_HasFirstFault}
use Rattle.grammar_model.proofs.laws.spells_method_or_has_fault.Goals as goal

pub returns-clause-either : goal.returns-clause-either
returns-clause-either c = method_or_fault

pub returns-clause-not_both : goal.returns-clause-not_both
returns-clause-not_both c = no_fault_Method

pub returns-clause-one_tree : goal.returns-clause-one_tree
returns-clause-one_tree c = one_SpellsMethod

pub returns-clause-one_fault : goal.returns-clause-one_fault
returns-clause-one_fault c = λ d kernel t v w. one_HasFirstFault d (Method kernel) t v w
