use Rattle.token_model.specs.declared.kind.Dialect.TheVariants.{Second}
use Rattle.effect_laws.proofs.Kernel.{whole_kernel}
use Rattle.code_effect_laws.proofs.ScriptsKept.{script_kept}
use Rattle.code_effect_laws.proofs.laws.law_script_images.Goals as goal

pub returns-clause-valid : goal.returns-clause-valid
returns-clause-valid c kernel i script h is valid spelled accepted =
    let whole = whole_kernel kernel (c.kernel_is_valid.ensures.valid Second kernel is) (c.kernel_is_valid.ensures.beginning Second kernel is) (c.kernel_has_these_classes.ensures Second kernel is) (c.kernel_has_these_methods.ensures Second kernel is) (c.kernel_knows_its_names.ensures Second kernel is) in
    (script_kept kernel whole i script h valid spelled accepted).valid

pub returns-clause-fileable : goal.returns-clause-fileable
returns-clause-fileable c kernel i script h is valid spelled accepted =
    let whole = whole_kernel kernel (c.kernel_is_valid.ensures.valid Second kernel is) (c.kernel_is_valid.ensures.beginning Second kernel is) (c.kernel_has_these_classes.ensures Second kernel is) (c.kernel_has_these_methods.ensures Second kernel is) (c.kernel_knows_its_names.ensures Second kernel is) in
    (script_kept kernel whole i script h valid spelled accepted).fileable

pub returns-clause-first : goal.returns-clause-first
returns-clause-first c kernel i script h is valid spelled accepted =
    let whole = whole_kernel kernel (c.kernel_is_valid.ensures.valid Second kernel is) (c.kernel_is_valid.ensures.beginning Second kernel is) (c.kernel_has_these_classes.ensures Second kernel is) (c.kernel_has_these_methods.ensures Second kernel is) (c.kernel_knows_its_names.ensures Second kernel is) in
    (script_kept kernel whole i script h valid spelled accepted).first
