use Rattle.run_model.specs.Acts.{acts}
use Rattle.run_model.proofs.LayoutLemmas.{reads-method, reads-doit, inside-laid_out, round-statement, round-step}
use Rattle.run_model.proofs.laws.law_names_at_places.Goals as goal

pub returns-clause-method : goal.returns-clause-method
returns-clause-method g = λ i m path f n e h l. reads-method acts i m path f n e h l

pub returns-clause-doit : goal.returns-clause-doit
returns-clause-doit g = λ i d path f n e h l. reads-doit acts i d path f n e h l

pub returns-clause-entered : goal.returns-clause-entered
returns-clause-entered g = λ ps f d scope vs k l. inside-laid_out ps f d scope vs k l

pub returns-clause-statement : goal.returns-clause-statement
returns-clause-statement g = λ scope k. round-statement scope k

pub returns-clause-part : goal.returns-clause-part
returns-clause-part g = λ scope path u k e. round-step scope path u k e
