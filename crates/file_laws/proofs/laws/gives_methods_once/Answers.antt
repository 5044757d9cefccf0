use Rattle.file_laws.proofs.Methods.{methods_once}
use Rattle.file_laws.proofs.laws.gives_methods_once.Goals as goal

pub returns : goal.returns
returns c = methods_once
