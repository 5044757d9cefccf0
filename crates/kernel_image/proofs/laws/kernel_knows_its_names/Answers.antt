use Rattle.std.proofs.Common.{ap, ◌∙◌}
use Rattle.kernel_image.specs.KernelNames.{knows_names}
use Rattle.kernel_image.proofs.Existing.{its_names}
use Rattle.kernel_image.proofs.laws.kernel_knows_its_names.Goals as goal

pub returns : goal.returns
returns c dialect kernel is = ap knows_names (c.kernel_says.ensures dialect kernel is) ∙ its_names
