use Rattle.std.proofs.Common.{refl}
use Rattle.scope_model.specs.SpecialNames.{is_pseudo_variable}
use Rattle.st_kernel.specs.Selectors.{is_control, is_reserved_selector, is_reflective_selector}
use Rattle.law_examples.proofs.laws.judges_parameter_examples.Goals as goal

pub returns-clause-plain : goal.returns-clause-plain
unfolding is_pseudo_variable
returns-clause-plain c = (refl, refl)

pub returns-clause-unread : goal.returns-clause-unread
unfolding is_pseudo_variable
returns-clause-unread c = (refl, refl, refl, refl)

pub returns-clause-others : goal.returns-clause-others
unfolding is_control is_reserved_selector is_reflective_selector
returns-clause-others c = (refl, refl, refl, refl)

pub returns-clause-made : goal.returns-clause-made
returns-clause-made c = (refl, refl)
