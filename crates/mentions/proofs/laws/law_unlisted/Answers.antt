use Rattle.mentions.proofs.Unlisted.{unlisted-nowhere, unlisted-senders, unlisted-identifiers}
use Rattle.mentions.proofs.laws.law_unlisted.Goals as goal

pub returns-clause-nowhere : goal.returns-clause-nowhere
returns-clause-nowhere g c = λ test place b n only absent. unlisted-nowhere test place b n only absent

pub returns-clause-senders : goal.returns-clause-senders
returns-clause-senders g c = λ same place b s equal absent. unlisted-senders same equal place b s absent

pub returns-clause-identifiers : goal.returns-clause-identifiers
returns-clause-identifiers g c = λ same place b n equal absent. unlisted-identifiers same equal place b n absent
