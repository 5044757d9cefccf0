use Rattle.file_rereading.proofs.Least.{least_is_kernel, least_is_beginning, least_is_valid}
use Rattle.file_rereading.proofs.laws.holds_of_some_kernel.Goals as goal

pub returns-clause-kernel : goal.returns-clause-kernel
returns-clause-kernel c = least_is_kernel

pub returns-clause-beginning : goal.returns-clause-beginning
returns-clause-beginning c = least_is_beginning

pub returns-clause-valid : goal.returns-clause-valid
returns-clause-valid c = least_is_valid
