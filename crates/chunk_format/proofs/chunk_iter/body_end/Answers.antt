use Rattle.std.proofs.Common.{refl, arith, sym, ◌∙◌, inl, inr}
use Rattle.rb_base.specs.Doubling.{Empty}
use Rattle.chunk_format.proofs.Cuts.{reaches, IsPaired-rest, cut_at, over_pair, behind}
use Rattle.chunk_format.proofs.chunk_iter.body_end.Goals as goal
use Rattle.chunk_format.proofs.chunk_iter.body_end.Goals.{then-at-text-via-then-at-text, then-at-text-via-else-at-text+then-text-at-ne-MARK}

pub loop-skipped-init : goal.loop-skipped-init
loop-skipped-init c = record { inside = omega arith; paired = Empty; doubled = refl }

pub returns-then-at-text-clause-found : goal.returns-then-at-text-clause-found
returns-then-at-text-clause-found c =
    let r = reaches _ _ _ c.loop-skipped.invariant.inside c.loop-skipped.invariant.paired (rw (behind _ _ c.loop-skipped.invariant.inside) at c.in-Some.ensures) in
    cut_at _ _ _ r (elim c.then-at-text.branch [ then-at-text-via-then-at-text w ↦ inl w.if-at-text.true | then-at-text-via-else-at-text+then-text-at-ne-MARK w ↦ inr w.if-text-at-ne-MARK.true ])

pub returns-then-at-text-clause-doubled : goal.returns-then-at-text-clause-doubled
returns-then-at-text-clause-doubled c =
    let r = reaches _ _ _ c.loop-skipped.invariant.inside c.loop-skipped.invariant.paired (rw (behind _ _ c.loop-skipped.invariant.inside) at c.in-Some.ensures) in
    c.loop-skipped.invariant.doubled ∙ sym r.same

pub loop-skipped-preserved : goal.loop-skipped-preserved
loop-skipped-preserved c =
    let r = reaches _ _ _ c.loop-skipped.invariant.inside c.loop-skipped.invariant.paired (rw (behind _ _ c.loop-skipped.invariant.inside) at c.in-Some.ensures) in
    let p = over_pair _ _ _ r (omega (arith, r.inside)) c.if-text-at-ne-MARK.false in
    record { inside = omega (arith, r.inside); paired = p.0; doubled = sym p.1 }

pub returns-clause-none : goal.returns-clause-none
returns-clause-none c = IsPaired-rest _ _ c.loop-skipped.invariant.paired (rw (behind _ _ c.loop-skipped.invariant.inside) at c.in_default.ensures)
