use Rattle.change_file_laws.proofs.Says.{says_change, says_settling, says_replacement, says_placed_opening}
use Rattle.change_file_laws.proofs.laws.says_edits.Goals as goal

pub returns-clause-change : goal.returns-clause-change
returns-clause-change c = λ change stated. says_change change stated

pub returns-clause-settling : goal.returns-clause-settling
returns-clause-settling c = says_settling

pub returns-clause-replacement : goal.returns-clause-replacement
returns-clause-replacement c = λ k source n. says_replacement k source n

pub returns-clause-opening : goal.returns-clause-opening
returns-clause-opening c = λ run k n. says_placed_opening run k n
