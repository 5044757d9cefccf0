use Rattle.file_laws.proofs.Plain.{plain_kernel, plain_image}
use Rattle.file_laws.proofs.laws.gives_plain_classes.Goals as goal

pub returns-clause-kernel : goal.returns-clause-kernel
returns-clause-kernel c = plain_kernel

pub returns-clause-image : goal.returns-clause-image
returns-clause-image c = plain_image
