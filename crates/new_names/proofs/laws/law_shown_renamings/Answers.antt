use Rattle.new_names.proofs.ShownRuns.{images-shown}
use Rattle.new_names.proofs.laws.law_shown_renamings.Goals as goal

pub returns : goal.returns
returns c = λ i j r q same m. images-shown r q same i j m
