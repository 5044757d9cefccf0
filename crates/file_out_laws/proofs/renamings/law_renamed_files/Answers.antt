use Rattle.file_out_laws.proofs.renamings.law_renamed_files.Goals as goal

pub returns-clause-class : goal.returns-clause-class
returns-clause-class k dialect text image c d is = k.law_renamed_images.ensures.class dialect is.kernel image c d is.is_kernel (k.every_image_is_valid.ensures.valid dialect text is.kernel image is.is_kernel is)

pub returns-clause-selector : goal.returns-clause-selector
returns-clause-selector k dialect text image s t is = k.law_renamed_images.ensures.selector dialect is.kernel image s t is.is_kernel (k.every_image_is_valid.ensures.valid dialect text is.kernel image is.is_kernel is)

pub returns-clause-instance : goal.returns-clause-instance
returns-clause-instance k dialect text image c x y is = k.law_renamed_images.ensures.instance dialect is.kernel image c x y is.is_kernel (k.every_image_is_valid.ensures.valid dialect text is.kernel image is.is_kernel is)

pub returns-clause-class_side : goal.returns-clause-class_side
returns-clause-class_side k dialect text image c x y is = k.law_renamed_images.ensures.class_side dialect is.kernel image c x y is.is_kernel (k.every_image_is_valid.ensures.valid dialect text is.kernel image is.is_kernel is)

pub returns-clause-shared : goal.returns-clause-shared
returns-clause-shared k dialect text image c x y is = k.law_renamed_images.ensures.shared dialect is.kernel image c x y is.is_kernel (k.every_image_is_valid.ensures.valid dialect text is.kernel image is.is_kernel is)
