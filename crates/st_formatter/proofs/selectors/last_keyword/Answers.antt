use Rattle.std.proofs.Common.{◌≡◌, ap, ◌∙◌, suc, ◌-◌, ◌++◌, take, eq-eqb, arith}
use Rattle.text_model.specs.Pieces.{keywords_of}
use Rattle.st_formatter.proofs.Words.{keywords_of-cut, keyword-last}
use Rattle.st_formatter.proofs.selectors.last_keyword.Goals as goal

pub loop-at-init : goal.loop-at-init
loop-at-init c = record { within = omega arith; one = keyword-last c.args.selector.now _ (omega arith) }

pub returns-then-selector-at-eq58-clause-cut : goal.returns-then-selector-at-eq58-clause-cut
returns-then-selector-at-eq58-clause-cut c =
    let e : suc (c.loop-at.at - 1) ≡ c.loop-at.at = omega arith in
    let cut = keywords_of-cut c.args.selector.now (c.loop-at.at - 1) (omega arith) (eq-eqb _ _ c.if-selector-at-eq58.true) in
    rw e at cut ∙ ap (λ ks. keywords_of (take c.loop-at.at c.args.selector.now) ++ ks) c.loop-at.invariant.one
