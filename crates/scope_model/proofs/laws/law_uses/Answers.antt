use Rattle.scope_model.proofs.UsesLemmas.{names_of-uses}
use Rattle.scope_model.proofs.laws.law_uses.Goals as goal

pub returns : goal.returns
returns g c = λ a in_place t. names_of-uses a.same a.is_pseudo a.form in_place t
