use Rattle.rename_model.specs.ClassRenamed.{canonical}
use Rattle.moved_code_laws.proofs.laws.law_extracted_images.Goals as goal

pub returns-clause-image : goal.returns-clause-image
returns-clause-image g = λ dialect kernel image c meta s from to t is valid. g.law_part_extracted.ensures canonical image c meta s from to t (g.every_image_is_well_written.ensures dialect kernel image is valid)

pub returns-clause-file : goal.returns-clause-file
returns-clause-file g = λ dialect text image c meta s from to t is.
    returns-clause-image g dialect is.kernel image c meta s from to t is.is_kernel (g.every_image_is_valid.ensures.valid dialect text is.kernel image is.is_kernel is)
