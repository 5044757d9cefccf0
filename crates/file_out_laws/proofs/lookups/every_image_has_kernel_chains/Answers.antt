use Rattle.std.proofs.Common.{◌∙◌}
use Rattle.file_out_laws.proofs.KernelAbove.{kernel-chains}
use Rattle.file_out_laws.proofs.lookups.every_image_has_kernel_chains.Goals as goal

pub returns : goal.returns
returns k =
    λ dialect kernel image is valid.
    let behind = k.every_image_may_be_renamed.ensures.behind_kernel dialect kernel image is valid in
    kernel-chains image behind.ordered (valid.kernel_classes ∙ k.kernel_has_these_classes.ensures dialect kernel is) behind.words
