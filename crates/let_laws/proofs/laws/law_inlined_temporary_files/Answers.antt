use Rattle.let_laws.proofs.laws.law_inlined_temporary_files.Goals as goal

pub returns : goal.returns
returns g = λ dialect text image c meta s x is none.
    g.law_inlined_temporary_images.ensures dialect is.kernel image c meta s x (g.every_image_is_valid.ensures.valid dialect text is.kernel image is.is_kernel is) none
