use Rattle.change_laws.proofs.Chunks.{change_taken, settle_taken, put_taken, replacement_taken}
use Rattle.change_laws.proofs.laws.edits_by_chunks.Goals as goal

pub returns-clause-change : goal.returns-clause-change
returns-clause-change c = λ f chunk change t e. change_taken f chunk change t e

pub returns-clause-settle : goal.returns-clause-settle
returns-clause-settle c = λ f chunk t e. settle_taken f chunk t e

pub returns-clause-put : goal.returns-clause-put
returns-clause-put c = λ dialect f opening m k t e. put_taken dialect f opening m k t e

pub returns-clause-replace : goal.returns-clause-replace
returns-clause-replace c = λ f numeral k d t number e. replacement_taken f numeral k d t number e
