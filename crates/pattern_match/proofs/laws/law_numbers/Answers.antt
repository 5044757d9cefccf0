use Rattle.pattern_match.proofs.Numbers.{match_texts, search_texts}
use Rattle.pattern_match.proofs.laws.law_numbers.Goals as goal

pub returns-clause-matched : goal.returns-clause-matched
returns-clause-matched c = λ names p t distinct known named. match_texts names distinct p known t named

pub returns-clause-searched : goal.returns-clause-searched
returns-clause-searched c = λ names p b distinct known named. search_texts names distinct p known b named
