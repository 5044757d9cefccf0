use Rattle.file_out_laws.proofs.lookups.law_class_files.Goals as goal

pub returns-clause-added : goal.returns-clause-added
returns-clause-added k dialect file image d p under is none =
    k.law_class_images.ensures.added dialect is.kernel image d p under is.is_kernel (k.every_image_is_valid.ensures.valid dialect file is.kernel image is.is_kernel is) none

pub returns-clause-removed : goal.returns-clause-removed
returns-clause-removed k dialect file image c is none =
    k.law_class_images.ensures.removed dialect is.kernel image c is.is_kernel (k.every_image_is_valid.ensures.valid dialect file is.kernel image is.is_kernel is) none
