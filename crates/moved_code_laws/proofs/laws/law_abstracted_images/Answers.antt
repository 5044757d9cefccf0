use Rattle.rename_model.specs.ClassRenamed.{canonical}
use Rattle.moved_code_laws.proofs.laws.law_abstracted_images.Goals as goal

pub returns-clause-image : goal.returns-clause-image
returns-clause-image g = λ dialect kernel image c x setter given is valid. g.law_abstracted_variable.ensures canonical image c x setter given (g.every_image_is_well_written.ensures dialect kernel image is valid)

pub returns-clause-file : goal.returns-clause-file
returns-clause-file g = λ dialect text image c x setter given is.
    returns-clause-image g dialect is.kernel image c x setter given is.is_kernel (g.every_image_is_valid.ensures.valid dialect text is.kernel image is.is_kernel is)
