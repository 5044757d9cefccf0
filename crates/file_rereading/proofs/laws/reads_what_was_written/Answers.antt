use Rattle.file_rereading.proofs.Again.{reads_again}
use Rattle.file_rereading.proofs.laws.reads_what_was_written.Goals as goal

pub returns : goal.returns
returns c = reads_again
