use Rattle.std.proofs.Common.{refl}
use Rattle.st_kernel.specs.KernelText.{prelude_text}
use Rattle.st_kernel.proofs.kernel_text.prelude.Goals as goal

pub returns : goal.returns
unfolding prelude_text
returns c = refl
