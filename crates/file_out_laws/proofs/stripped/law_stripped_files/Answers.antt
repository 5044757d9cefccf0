use Rattle.std.proofs.Common.{◌∙◌}
use Rattle.rb_base.specs.Names.{text_eq}
use Rattle.token_model.specs.declared.kind.Dialect.TheVariants.{Second}
use Rattle.st_kernel.specs.KernelText.{prelude_text}
use Rattle.file_rereading.specs.Rereading.{with_heads}
use Rattle.strip_model.specs.Stripped.{strip}
use Rattle.file_out_laws.proofs.KernelStays.{strip-first, strip-limits, heads-apart}
use Rattle.file_out_laws.proofs.stripped.law_stripped_files.Goals as goal

pub returns-clause-run : goal.returns-clause-run
returns-clause-run k = λ dialect file image e r n is closed.
    k.law_stripped_images.ensures.run dialect is.kernel image e r n is.is_kernel (k.every_image_is_valid.ensures.valid dialect file is.kernel image is.is_kernel is) closed

pub returns-clause-matched : goal.returns-clause-matched
returns-clause-matched k = λ dialect file image e r is closed.
    k.law_stripped_images.ensures.matched dialect is.kernel image e r is.is_kernel (k.every_image_is_valid.ensures.valid dialect file is.kernel image is.is_kernel is) closed

pub returns-clause-reread : goal.returns-clause-reread
returns-clause-reread k = λ file image e r is closed.
    let valid = k.every_image_is_valid.ensures.valid Second file is.kernel image is.is_kernel is in
    let fileable = k.every_image_is_valid.ensures.fileable Second file is.kernel image is.is_kernel is in
    let first = k.every_image_is_valid.ensures.first Second file is.kernel image is.is_kernel is in
    let limits = k.keeps_the_kernel_first.ensures.limits Second prelude_text file image is in
    k.every_image_is_read_again.ensures.written is.kernel _ is.is_kernel (strip-first image e r closed is.kernel valid.kernel_classes valid.kernel_methods valid.method_classes_there first)
    (k.law_stripped_images.ensures.valid Second is.kernel image e r is.is_kernel valid closed) (k.law_stripped_images.ensures.fileable Second is.kernel image r fileable) (strip-limits image r limits)

pub returns-clause-reread_run : goal.returns-clause-reread_run
returns-clause-reread_run k = λ file image e r n is closed.
    heads-apart (strip text_eq r image) e (with_heads (strip text_eq r image)).heads n
    ∙ k.law_stripped_images.ensures.run Second is.kernel image e r n is.is_kernel (k.every_image_is_valid.ensures.valid Second file is.kernel image is.is_kernel is) closed
