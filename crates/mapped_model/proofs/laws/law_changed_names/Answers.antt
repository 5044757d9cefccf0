use Rattle.mapped_model.proofs.ChangedLemmas.{changed-scope}
use Rattle.mapped_model.proofs.laws.law_changed_names.Goals as goal

pub returns : goal.returns
returns g = λ f c to scope before after h. changed-scope f c scope to before after h
