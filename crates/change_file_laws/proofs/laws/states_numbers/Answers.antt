use Rattle.change_file_laws.proofs.Numbers.{place_stated}
use Rattle.change_file_laws.proofs.laws.states_numbers.Goals as goal

pub returns : goal.returns
returns c = λ k n. place_stated k n
