use Rattle.std.proofs.Common.{◌≡◌, ℕ, suc, ◌+◌, ◌&&◌, Bool, drop, sym, ap, ◌∙◌, arith}
use Rattle.std.specs.List.{list_all}
use Rattle.image_strip.specs.SlotsClosed.{doit_closed}
use Rattle.image_strip.proofs.Alls.{all-step}
use Rattle.image_strip.proofs.closed.are_doits_closed.Goals as goal

pub returns-then-not-branch : goal.returns-then-not-branch
returns-then-not-branch g c =
    let s = c.args.image.now in
    let p = doit_closed s c.args.reach.now in
    let k = c.loop-number.number in
    sym (sym c.loop-number.invariant ∙ all-step p s.doits k ∙ ap (λ (b : Bool). b && list_all p (drop (suc k) s.doits)) (sym c.in_ok-is_number_closed.ensures ∙ c.if-not-branch.true))

pub loop-number-preserved : goal.loop-number-preserved
loop-number-preserved g c =
    let s = c.args.image.now in
    let p = doit_closed s c.args.reach.now in
    let k = c.loop-number.number in
    let next : k + 1 ≡ suc k = omega arith in
    ap (λ (n : ℕ). list_all p (drop n s.doits)) next
    ∙ sym (ap (λ (b : Bool). b && list_all p (drop (suc k) s.doits)) (sym c.in_ok-is_number_closed.ensures ∙ c.if-not-branch.false))
    ∙ sym (all-step p s.doits k)
    ∙ c.loop-number.invariant
