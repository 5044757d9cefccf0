use Rattle.grammar_model.proofs.Either.{text_or_stop, not_both, one_HasStop}
use Rattle.grammar_model.proofs.laws.is_text_or_stops.Goals as goal

pub returns-clause-either : goal.returns-clause-either
returns-clause-either c = text_or_stop

pub returns-clause-not_both : goal.returns-clause-not_both
returns-clause-not_both c = not_both

pub returns-clause-one_fault : goal.returns-clause-one_fault
returns-clause-one_fault c = one_HasStop
