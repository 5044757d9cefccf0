use Rattle.grammar_model.proofs.Limits.{limit_DoIt, limit_Method, normal_Method, user_Method}
use Rattle.grammar_model.proofs.laws.keeps_the_limits.Goals as goal

pub returns-clause-doit : goal.returns-clause-doit
returns-clause-doit c = limit_DoIt

pub returns-clause-method : goal.returns-clause-method
returns-clause-method c = limit_Method

pub returns-clause-user : goal.returns-clause-user
returns-clause-user c = user_Method

pub returns-clause-normal : goal.returns-clause-normal
returns-clause-normal c = normal_Method
