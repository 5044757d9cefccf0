use Rattle.refusal_witnesses.proofs.AllShown.{shown, hindered, hindering, none-else}
use Rattle.refusal_witnesses.proofs.laws.law_witnesses.Goals as goal

pub returns-clause-shown : goal.returns-clause-shown
returns-clause-shown g c = λ a i command condition h. shown a i command condition h

pub returns-clause-hindered : goal.returns-clause-hindered
returns-clause-hindered g c = λ a i command condition h. hindered a i command condition h

pub returns-clause-hindering : goal.returns-clause-hindering
returns-clause-hindering g c = λ a i command condition. hindering a i command condition

pub returns-clause-others : goal.returns-clause-others
returns-clause-others g c = λ a i command condition h. none-else a i command condition h
