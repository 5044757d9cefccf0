use Rattle.token_model.specs.declared.kind.Dialect.TheVariants.{Second}
use Rattle.effect_laws.proofs.Kernel.{whole_kernel}
use Rattle.code_effect_laws.proofs.CodeKept.{kept_valid, kept_fileable, kept_first}
use Rattle.code_effect_laws.proofs.laws.law_code_effect_valid.Goals as goal

pub returns-clause-valid : goal.returns-clause-valid
returns-clause-valid c kernel image command is valid spelled names none =
    let whole = whole_kernel kernel (c.kernel_is_valid.ensures.valid Second kernel is) (c.kernel_is_valid.ensures.beginning Second kernel is) (c.kernel_has_these_classes.ensures Second kernel is) (c.kernel_has_these_methods.ensures Second kernel is) (c.kernel_knows_its_names.ensures Second kernel is) in
    kept_valid kernel whole image command valid spelled names none

pub returns-clause-fileable : goal.returns-clause-fileable
returns-clause-fileable c kernel image command is valid spelled names stands none =
    let whole = whole_kernel kernel (c.kernel_is_valid.ensures.valid Second kernel is) (c.kernel_is_valid.ensures.beginning Second kernel is) (c.kernel_has_these_classes.ensures Second kernel is) (c.kernel_has_these_methods.ensures Second kernel is) (c.kernel_knows_its_names.ensures Second kernel is) in
    kept_fileable kernel whole image command valid spelled names none stands

pub returns-clause-first : goal.returns-clause-first
returns-clause-first c kernel image command is valid spelled names none =
    let whole = whole_kernel kernel (c.kernel_is_valid.ensures.valid Second kernel is) (c.kernel_is_valid.ensures.beginning Second kernel is) (c.kernel_has_these_classes.ensures Second kernel is) (c.kernel_has_these_methods.ensures Second kernel is) (c.kernel_knows_its_names.ensures Second kernel is) in
    kept_first kernel whole image command valid spelled names none
