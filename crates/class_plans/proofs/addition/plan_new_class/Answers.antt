use Rattle.std.proofs.Common.{◌≡◌, ap, sym, subst, ◌∙◌}
use Rattle.class_table.specs.declared.record.ClassRec.{ClassRec}
use Rattle.wider_slots.specs.Wider.{Wider, one_class, widened}
use Rattle.wider_slots.proofs.StepLemmas.{wider-same}
use Rattle.class_plans.proofs.Made.{with_slot, slot-wider, new-plan}
use Rattle.class_plans.proofs.addition.plan_new_class.Goals as goal

pub returns-in_default-clause-wider : goal.returns-in_default-clause-wider
returns-in_default-clause-wider c =
    subst (Wider c.args.image.now) (sym c.in_default.ensures.err) (wider-same c.args.image.now c.requires.closed)

pub returns-clause-wider : goal.returns-clause-wider
returns-clause-wider c =
    let s = c.args.image.now in
    let new = c.args.new.now in
    let is : c.room_for_class.new.image ≡ with_slot s new.name new.superclass = c.in-Ok.ensures.ok ∙ ap (λ (r : ClassRec). widened (one_class r) s) c.new_record-rec.ensures in
    subst (Wider s) (sym is) (slot-wider s c.requires.closed new.name new.superclass c.requires.known.0)

pub returns-clause-plan : goal.returns-clause-plan
returns-clause-plan c =
    let s = c.args.image.now in
    let new = c.args.new.now in
    let is : c.room_for_class.new.image ≡ with_slot s new.name new.superclass = c.in-Ok.ensures.ok ∙ ap (λ (r : ClassRec). widened (one_class r) s) c.new_record-rec.ensures in
    new-plan s c.requires.closed c.requires.orderly new.name new.superclass new.under c.requires.known c.requires.holds
    c.room_for_class.new.image c.in-Ok.id c.plan_in_room.result is c.in-Ok.ensures.slot c.plan_in_room.ensures.changes c.plan_in_room.ensures.touched
