use Rattle.file_rereading.proofs.Again.{reads_image_again}
use Rattle.file_rereading.proofs.laws.reads_each_image_again.Goals as goal

pub returns : goal.returns
returns c = reads_image_again
