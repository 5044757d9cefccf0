use Rattle.file_out_laws.proofs.lookups.law_method_files.Goals as goal

pub returns-clause-added : goal.returns-clause-added
returns-clause-added k dialect file image c meta protocol text tree is none =
    k.law_method_images.ensures.added dialect is.kernel image c meta protocol text tree is.is_kernel (k.every_image_is_valid.ensures.valid dialect file is.kernel image is.is_kernel is) none

pub returns-clause-removed : goal.returns-clause-removed
returns-clause-removed k dialect file image c meta s is none =
    k.law_method_images.ensures.removed dialect is.kernel image c meta s is.is_kernel (k.every_image_is_valid.ensures.valid dialect file is.kernel image is.is_kernel is) none

pub returns-clause-pushed_up : goal.returns-clause-pushed_up
returns-clause-pushed_up k dialect file image c meta s is none =
    k.law_method_images.ensures.pushed_up dialect is.kernel image c meta s is.is_kernel (k.every_image_is_valid.ensures.valid dialect file is.kernel image is.is_kernel is) none

pub returns-clause-pushed_down : goal.returns-clause-pushed_down
returns-clause-pushed_down k dialect file image c meta s is none =
    k.law_method_images.ensures.pushed_down dialect is.kernel image c meta s is.is_kernel (k.every_image_is_valid.ensures.valid dialect file is.kernel image is.is_kernel is) none
