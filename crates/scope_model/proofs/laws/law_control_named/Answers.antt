use Rattle.scope_model.proofs.Changed.{is_control-map_names}
use Rattle.scope_model.proofs.laws.law_control_named.Goals as goal

pub returns : goal.returns
returns g c = λ f p a b t keeps h. is_control-map_names _ f a b keeps t h
