use Rattle.std.proofs.Common.{◌≡◌, ◌∙◌, suc, ◌-◌, ap, sym, arith}
use Rattle.std.specs.List.{list_any}
use Rattle.image_model.specs.Upwards.{upwards}
use Rattle.st_prims.specs.Walks.{has_text, next_above}
use Rattle.st_prims.proofs.Walked.{ended, found, next}
use Rattle.st_prims.proofs.chain.has_above.Goals as goal

pub returns-in_default : goal.returns-in_default
returns-in_default c =
    ended (next_above c.args.image.now) (has_text c.args.image.now c.args.name.now) c.loop-left.left ∙ ap (λ o. list_any (has_text c.args.image.now c.args.name.now) (upwards (next_above c.args.image.now) c.loop-left.left o)) (sym c.in_default.is) ∙ c.loop-left.invariant

pub returns-then-has_text : goal.returns-then-has_text
returns-then-has_text c =
    let e : c.loop-left.left ≡ suc (c.loop-left.left - 1) = omega (arith, c.loop-left-test.true) in
    found (next_above c.args.image.now) (has_text c.args.image.now c.args.name.now) c.loop-left.left (c.loop-left.left - 1) c.in-Some.id e c.if-has_text.ensures
    ∙ ap (λ o. list_any (has_text c.args.image.now c.args.name.now) (upwards (next_above c.args.image.now) c.loop-left.left o)) (sym c.in-Some.is) ∙ c.loop-left.invariant

pub loop-left-preserved : goal.loop-left-preserved
loop-left-preserved c =
    let e : c.loop-left.left ≡ suc (c.loop-left.left - 1) = omega (arith, c.loop-left-test.true) in
    ap (λ o. list_any (has_text c.args.image.now c.args.name.now) (upwards (next_above c.args.image.now) (c.loop-left.left - 1) o)) c.chain_at-at.ensures
    ∙ next (next_above c.args.image.now) (has_text c.args.image.now c.args.name.now) c.loop-left.left (c.loop-left.left - 1) c.in-Some.id e c.if-has_text.ensures
    ∙ ap (λ o. list_any (has_text c.args.image.now c.args.name.now) (upwards (next_above c.args.image.now) c.loop-left.left o)) (sym c.in-Some.is) ∙ c.loop-left.invariant

pub returns : goal.returns
returns c =
    let e : 0 ≡ c.loop-left.left = omega (arith, c.loop-left-test.false) in
    ap (λ n. list_any (has_text c.args.image.now c.args.name.now) (upwards (next_above c.args.image.now) n c.loop-left.at)) e ∙ c.loop-left.invariant
