use Rattle.file_rereading.proofs.Same.{same_text}
use Rattle.file_rereading.proofs.laws.writes_the_same_again.Goals as goal

pub returns : goal.returns
returns c = same_text
