use Rattle.file_laws.proofs.Whole.{valid_image}
use Rattle.file_laws.proofs.laws.gives_valid_images.Goals as goal

pub returns : goal.returns
returns c = valid_image
