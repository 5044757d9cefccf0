use Rattle.file_out_laws.proofs.parameters.law_changed_files.Goals as goal

pub returns-clause-removed : goal.returns-clause-removed
returns-clause-removed c dialect text image s t k is = c.law_changed_parameters.ensures.removed dialect is.kernel image s t k is.is_kernel (c.every_image_is_valid.ensures.valid dialect text is.kernel image is.is_kernel is)

pub returns-clause-added : goal.returns-clause-added
returns-clause-added c dialect text image s t x l is = c.law_changed_parameters.ensures.added dialect is.kernel image s t x l is.is_kernel (c.every_image_is_valid.ensures.valid dialect text is.kernel image is.is_kernel is)

pub returns-clause-removed_where : goal.returns-clause-removed_where
returns-clause-removed_where c dialect text image s t k is = c.law_changed_parameters.ensures.removed_where dialect is.kernel image s t k is.is_kernel (c.every_image_is_valid.ensures.valid dialect text is.kernel image is.is_kernel is)

pub returns-clause-added_where : goal.returns-clause-added_where
returns-clause-added_where c dialect text image s t x l is = c.law_changed_parameters.ensures.added_where dialect is.kernel image s t x l is.is_kernel (c.every_image_is_valid.ensures.valid dialect text is.kernel image is.is_kernel is)
