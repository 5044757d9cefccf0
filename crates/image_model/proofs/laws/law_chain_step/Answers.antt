use Rattle.image_model.proofs.ChainLemmas.{chain_from-step}
use Rattle.image_model.proofs.laws.law_chain_step.Goals as goal

pub returns : goal.returns
returns g c = λ same classes place class reflexive before at. chain_from-step same reflexive classes before place class at
