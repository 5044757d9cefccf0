use Rattle.std.proofs.Common.{◌≡◌, ◌∙◌, ap, sym, subst}
use Rattle.std.proofs.lemmas.Result.{err_from_is_err_and}
use Rattle.class_table.specs.Valid.{IsOrderly}
use Rattle.class_table.specs.View.{image_of}
use Rattle.image_rewriting.specs.Changed.{rule_of}
use Rattle.image_rewriting.proofs.Effects.{applied-image}
use Rattle.image_rewriting.proofs.Grown.{same-image, still-orderly}
use Rattle.image_rewriting.proofs.rewriting.rewrite_counted.Goals as goal

pub apply_all-requires : goal.apply_all-requires
apply_all-requires g c = c.in_ok-plan.ensures.plan.can

pub returns-clause-image : goal.returns-clause-image
returns-clause-image g c =
    let s = c.args.image.now in
    applied-image s c.plan_rule.new.image c.apply_all.new.image (rule_of s.names c.args.rule.now) c.in_ok-plan.plan.changes c.in_ok-plan.plan.touched.items c.requires.orderly c.plan_rule.ensures.rest c.plan_rule.ensures.grows c.in_ok-plan.ensures.plan
    c.apply_all.ensures.image

pub returns-clause-orderly : goal.returns-clause-orderly
returns-clause-orderly g c = subst IsOrderly (sym c.apply_all.ensures.image) c.in_ok-plan.ensures.plan.orderly

pub returns-in_err-plan-clause-orderly : goal.returns-in_err-plan-clause-orderly
returns-in_err-plan-clause-orderly g c =
    let s = c.args.image.now in
    subst IsOrderly (sym c.plan_rule.ensures.rest) (still-orderly s c.plan_rule.new.image.names c.requires.orderly c.plan_rule.ensures.grows c.plan_rule.ensures.once)

pub returns-in_err-plan-clause-kept : goal.returns-in_err-plan-clause-kept
returns-in_err-plan-clause-kept g c =
    let s = c.args.image.now in
    let e = err_from_is_err_and c.from_residual.result c.from_residual.ensures.1 in
    let same : image_of c.plan_rule.new.image ≡ image_of s = ap image_of c.plan_rule.ensures.rest ∙ same-image s c.plan_rule.new.image.names c.requires.orderly c.plan_rule.ensures.grows in
    rw e.1 same
