use Rattle.mentions.proofs.Listed.{listed-own, listed-in_method, own-used, own-sent, own-declared}
use Rattle.mentions.proofs.laws.law_listed.Goals as goal

pub returns-clause-own : goal.returns-clause-own
returns-clause-own g c = λ b path t n h own. listed-own b path t n h own

pub returns-clause-used : goal.returns-clause-used
returns-clause-used g c = λ b path t n h e. listed-own b path t n h (own-used t n e)

pub returns-clause-sent : goal.returns-clause-sent
returns-clause-sent g c = λ same b path t s equal h e. listed-own b path t s h (own-sent same equal t s e)

pub returns-clause-declared : goal.returns-clause-declared
returns-clause-declared g c = λ same b path t n equal h e. listed-own b path t n h (own-declared same equal t n e)

pub returns-clause-in_method : goal.returns-clause-in_method
returns-clause-in_method g c = λ m n h. listed-in_method m n h
