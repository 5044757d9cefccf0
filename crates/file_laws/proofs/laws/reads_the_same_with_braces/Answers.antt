use Rattle.file_laws.proofs.Braces.{image_alike}
use Rattle.file_laws.proofs.laws.reads_the_same_with_braces.Goals as goal

pub returns : goal.returns
returns c = image_alike
