use Rattle.change_file_laws.proofs.Named.{stated_edits}
use Rattle.change_file_laws.proofs.laws.states_all_edits.Goals as goal

pub returns : goal.returns
returns c = λ kernel i j can root few. stated_edits kernel i j can root few
