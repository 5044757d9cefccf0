use Rattle.token_model.specs.declared.kind.Dialect.TheVariants.{Second}
use Rattle.effect_laws.proofs.Kernel.{whole_kernel}
use Rattle.effect_laws.proofs.Steps.{effect_valid, effect_first, effect_fileable}
use Rattle.effect_laws.proofs.laws.law_effect_valid.Goals as goal

pub returns-clause-valid : goal.returns-clause-valid
returns-clause-valid c kernel image command is valid shape spelled none =
    let whole = whole_kernel kernel (c.kernel_is_valid.ensures.valid Second kernel is) (c.kernel_is_valid.ensures.beginning Second kernel is) (c.kernel_has_these_classes.ensures Second kernel is) (c.kernel_has_these_methods.ensures Second kernel is) (c.kernel_knows_its_names.ensures Second kernel is) in
    effect_valid kernel whole image command valid shape spelled none

pub returns-clause-fileable : goal.returns-clause-fileable
returns-clause-fileable c kernel image command is behind shape spelled stands none files =
    let whole = whole_kernel kernel (c.kernel_is_valid.ensures.valid Second kernel is) (c.kernel_is_valid.ensures.beginning Second kernel is) (c.kernel_has_these_classes.ensures Second kernel is) (c.kernel_has_these_methods.ensures Second kernel is) (c.kernel_knows_its_names.ensures Second kernel is) in
    effect_fileable kernel whole image command behind shape spelled stands none files

pub returns-clause-first : goal.returns-clause-first
returns-clause-first c kernel image command is valid shape spelled none first =
    let whole = whole_kernel kernel (c.kernel_is_valid.ensures.valid Second kernel is) (c.kernel_is_valid.ensures.beginning Second kernel is) (c.kernel_has_these_classes.ensures Second kernel is) (c.kernel_has_these_methods.ensures Second kernel is) (c.kernel_knows_its_names.ensures Second kernel is) in
    effect_first kernel whole image command valid shape spelled none first
