use Rattle.std.proofs.Common.{length, sym, ap, ◌∙◌}
use Rattle.method_plans.proofs.Added.{class-found, room-wider, room-plan}
use Rattle.method_plans.proofs.going.plan_new_method.Goals as goal

pub returns-in_default-clause-plan : goal.returns-in_default-clause-plan
returns-in_default-clause-plan c = absurd (class-found c.args.image.now c.requires.orderly c.args.new.now c.requires.holds (sym c.class_named.ensures ∙ c.in_default.is))

pub returns-in_err-put_live-clause-wider : goal.returns-in_err-put_live-clause-wider
returns-in_err-put_live-clause-wider c =
    room-wider c.args.image.now c.requires.orderly c.args.new.now c.in-Some.class (sym c.class_named.ensures ∙ c.in-Some.is) c.requires.known c.room_for_method.new.image
    c.in_ok-try_copy.field-0 c.in_ok-try_copy-2.field-0 c.in_ok-try_copy-3.field-0 c.in_ok-try_copy.ensures c.in_ok-try_copy-2.ensures c.in_ok-try_copy-3.ensures c.in-Ok.ensures.ok c.requires.closed

pub returns-clause-wider : goal.returns-clause-wider
returns-clause-wider c =
    room-wider c.args.image.now c.requires.orderly c.args.new.now c.in-Some.class (sym c.class_named.ensures ∙ c.in-Some.is) c.requires.known c.room_for_method.new.image
    c.in_ok-try_copy.field-0 c.in_ok-try_copy-2.field-0 c.in_ok-try_copy-3.field-0 c.in_ok-try_copy.ensures c.in_ok-try_copy-2.ensures c.in_ok-try_copy-3.ensures c.in-Ok.ensures.ok c.requires.closed

pub returns-clause-plan : goal.returns-clause-plan
returns-clause-plan c =
    room-plan c.args.image.now c.requires.orderly c.args.new.now c.in-Some.class (sym c.class_named.ensures ∙ c.in-Some.is) c.requires.known c.room_for_method.new.image
    c.in_ok-try_copy.field-0 c.in_ok-try_copy-2.field-0 c.in_ok-try_copy-3.field-0 c.in_ok-try_copy.ensures c.in_ok-try_copy-2.ensures c.in_ok-try_copy-3.ensures c.in-Ok.ensures.ok
    c.in-Ok.slot (length c.methods-place.result.now) c.new.result c.put_live.new.plan.changes c.new-2.result.items c.put_live.new.plan.touched.items
    c.in-Ok.ensures.slot (ap length c.methods-place.ensures.value) c.new.ensures c.new-2.ensures.items c.in_ok-put_live.ensures.changes c.in_ok-put_live.ensures.touched
