use Rattle.log_model.proofs.EventAnswers.{says-one, says-some}
use Rattle.log_model.proofs.OneLog.{says_once, not_refused, refused_once}
use Rattle.log_model.proofs.SomeLog.{read}
use Rattle.log_model.proofs.laws.has_one_log.Goals as goal

pub returns-clause-events : goal.returns-clause-events
returns-clause-events c =
    let law = c.has_one_reading.ensures in
    let some = says-some law.either in
    says_once (λ l. (some l).0) (λ l. (some l).1) (says-one law.requests law.not_both law.refusal)

pub returns-clause-not_both : goal.returns-clause-not_both
returns-clause-not_both c =
    let law = c.has_one_reading.ensures in
    let some = says-some law.either in
    not_refused (λ l. (some l).0) (λ l. (some l).1) (says-one law.requests law.not_both law.refusal)

pub returns-clause-refusal : goal.returns-clause-refusal
returns-clause-refusal c =
    let law = c.has_one_reading.ensures in
    let some = says-some law.either in
    refused_once (λ l. (some l).0) (λ l. (some l).1) (says-one law.requests law.not_both law.refusal)

pub returns-clause-either : goal.returns-clause-either
returns-clause-either c =
    let law = c.has_one_reading.ensures in
    let some = says-some law.either in
    read (λ l. (some l).0) (λ l. (some l).1) (says-one law.requests law.not_both law.refusal)
