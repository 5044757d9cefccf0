use Rattle.let_laws.proofs.Images.{let-unfolds}
use Rattle.let_laws.proofs.laws.law_let_once.Goals as goal

pub returns-clause-unfolds : goal.returns-clause-unfolds
returns-clause-unfolds g = λ i j named h. let-unfolds g.law_control_sends.ensures i j h named

pub returns-clause-matched : goal.returns-clause-matched
returns-clause-matched g = λ i j named h.
    let u = let-unfolds g.law_control_sends.ensures i j h named in
    (g.law_unfolded_call.ensures.unfolded i j u, g.law_unfolded_call.ensures.folded i j u)
