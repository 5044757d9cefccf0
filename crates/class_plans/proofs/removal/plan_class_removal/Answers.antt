use Rattle.std.proofs.Common.{sym, ◌∙◌}
use Rattle.class_plans.proofs.Gone.{class-there, gone-found}
use Rattle.class_plans.proofs.removal.plan_class_removal.Goals as goal

pub returns-in_default : goal.returns-in_default
returns-in_default c = absurd (class-there c.args.image.now c.args.class c.requires.holds (sym c.class_named.ensures ∙ c.in_default.is))

pub returns : goal.returns
returns c =
    gone-found c.args.image.now c.requires.orderly c.args.class c.in-Some.id (sym c.class_named.ensures ∙ c.in-Some.is) c.requires.holds
    c.new-changes.result c.put_methods_gone.new.changes c.push.new.self c.new-touched.result.items c.put_methods_gone.new.touched.items
    c.new-changes.ensures c.in_ok-put_methods_gone.ensures.changes c.in_ok-push.ensures.ok c.new-touched.ensures.items c.in_ok-put_methods_gone.ensures.touched
