use Rattle.std.proofs.Common.{List, refl, sym, ap, ◌∙◌}
use Rattle.std.specs.List.{list_any}
use Rattle.std.proofs.lemmas.Result.{err_from_is_err_and}
use Rattle.change_set.specs.declared.change.Change.{Change}
use Rattle.image_heights.specs.High.{is_high_change}
use Rattle.session.proofs.Made.{made-wanting}
use Rattle.session.proofs.RuledSteps.{wider-names, ruling, telling, rule-high-first, rule-made, rule-too-high}
use Rattle.session.proofs.ruling.rewrite.Goals as goal

pub plan_rule-requires-clause-orderly : goal.plan_rule-requires-clause-orderly
plan_rule-requires-clause-orderly g c = c.requires.under_way.1.orderly

pub plan_rule-requires-clause-rule : goal.plan_rule-requires-clause-rule
plan_rule-requires-clause-rule g c = record { pattern = c.requires.known.0; replacement = c.requires.known.1 }

pub returns-in_err-planned : goal.returns-in_err-planned
returns-in_err-planned g c =
    let s = c.args.image.now in
    let p = c.plan_rule.new.image in
    let r = c.args.request.now in
    let q = err_from_is_err_and c.from_residual.result c.from_residual.ensures.1 in
    let plan = c.in_err-planned.ensures in
    rw (q.1, q.2) (
    made-wanting s c.args.index.now c.args.done.now (ruling s.names r) (telling r) p c.args.index.now c.args.done.now _ (wider-names s p c.requires.under_way.1.closed plan.rest plan.grows plan.once) refl refl (λ names. refl))

pub returns-then-makes_high : goal.returns-then-makes_high
returns-then-makes_high g c =
    let plan = c.in_ok-planned.ensures in
    let changes : List Change = c.in_ok-planned.planned.changes in
    rule-high-first c.args.image.now c.plan_rule.new.image c.args.index.now c.args.done.now c.args.request.now changes c.in_ok-planned.planned.touched.items c.requires.under_way.1.closed plan.rest plan.grows plan.once plan.plan
    c.requires.quiet c.requires.derived (sym (ap (list_any is_high_change) c.as_slice.ensures) ∙ sym c.makes_high.ensures ∙ c.if-makes_high.true)

pub returns-in_err-carry_out : goal.returns-in_err-carry_out
returns-in_err-carry_out g c =
    let s = c.args.image.now in
    let p = c.plan_rule.new.image in
    let r = c.args.request.now in
    let q = err_from_is_err_and c.from_residual-in_err-carry_out.result c.from_residual-in_err-carry_out.ensures.1 in
    let plan = c.in_ok-planned.ensures in
    let same = c.in_err-carry_out.ensures in
    rw (q.1, q.2, same.same_image) (
    made-wanting s c.args.index.now c.args.done.now (ruling s.names r) (telling r) p c.carry_out.new.index c.carry_out.new.done _ (wider-names s p c.requires.under_way.1.closed plan.rest plan.grows plan.once) same.same_index same.same_done (λ names. refl))

pub returns-then-is_shallow : goal.returns-then-is_shallow
returns-then-is_shallow g c =
    let s = c.args.image.now in
    let plan = c.in_ok-planned.ensures in
    let made = c.in_ok-carry_out.ensures in
    rule-made s c.plan_rule.new.image c.carry_out.new.image c.args.index.now c.carry_out.new.index c.args.done.now c.carry_out.new.done c.args.request.now c.in_ok-planned.planned.changes c.in_ok-planned.planned.touched.items
    c.requires.under_way.0 c.requires.under_way.1 plan.rest plan.grows plan.once plan.plan made.image made.done made.index c.requires.quiet c.requires.derived (sym c.is_shallow.ensures ∙ c.if-is_shallow.true)

pub returns-else-is_shallow : goal.returns-else-is_shallow
returns-else-is_shallow g c =
    let s = c.args.image.now in
    let plan = c.in_ok-planned.ensures in
    let made = c.in_ok-carry_out.ensures in
    rule-too-high s c.plan_rule.new.image c.carry_out.new.image c.args.index.now c.carry_out.new.index c.args.done.now c.carry_out.new.done c.args.request.now c.in_ok-planned.planned.changes c.in_ok-planned.planned.touched.items
    c.requires.under_way.0 c.requires.under_way.1 plan.rest plan.grows plan.once plan.plan made.image made.done made.index c.requires.quiet c.requires.derived (sym c.is_shallow.ensures ∙ c.if-is_shallow.false)
