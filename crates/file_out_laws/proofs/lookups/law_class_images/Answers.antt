use Rattle.rename_model.specs.ClassRenamed.{canonical}
use Rattle.file_out_laws.proofs.lookups.law_class_images.Goals as goal

pub returns-clause-added : goal.returns-clause-added
returns-clause-added k dialect kernel image d p under is valid none =
    k.law_class_commands.ensures.added canonical image d p under (k.every_image_may_be_renamed.ensures.behind_kernel dialect kernel image is valid) none

pub returns-clause-removed : goal.returns-clause-removed
returns-clause-removed k dialect kernel image c is valid none =
    k.law_class_commands.ensures.removed canonical image c (k.every_image_may_be_renamed.ensures.behind_kernel dialect kernel image is valid).ordered (k.every_image_has_kernel_chains.ensures dialect kernel image is valid) none
