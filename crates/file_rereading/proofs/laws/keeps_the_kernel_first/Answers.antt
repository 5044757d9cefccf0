use Rattle.file_rereading.proofs.Stays.{first_in_image}
use Rattle.file_rereading.proofs.Limits.{limits_image}
use Rattle.file_rereading.proofs.laws.keeps_the_kernel_first.Goals as goal

pub returns-clause-first : goal.returns-clause-first
returns-clause-first c = first_in_image

pub returns-clause-limits : goal.returns-clause-limits
returns-clause-limits c = limits_image
