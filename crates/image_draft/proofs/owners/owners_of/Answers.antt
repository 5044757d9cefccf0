use Rattle.std.proofs.Common.{subst}
use Rattle.image_model.specs.Means.{of_instance, of_class_side}
use Rattle.image_draft.specs.Owners.{IsUnderNoted}
use Rattle.image_draft.proofs.Notes.{owned_more}
use Rattle.image_draft.proofs.Owned.{IsNotedOf}
use Rattle.image_draft.proofs.owners.owners_of.Goals as goal

pub loop-class-preserved : goal.loop-class-preserved
loop-class-preserved c =
    owned_more c.loop-class.owners c.note_class.new.self c.in_ok-note_class.ensures.instance_kept c.in_ok-note_class.ensures.class_side_kept c.in_ok-note_class.ensures.superclasses_kept c.args.classes.now c.loop-class.class-index c.class-item.result c.loop-class-test.true c.class-item.is
    c.loop-class.invariant (subst (IsNotedOf c.note_class.new.self.instance of_instance) c.class.ensures c.in_ok-note_class.ensures.instance)
    (subst (IsNotedOf c.note_class.new.self.class_side of_class_side) c.class.ensures c.in_ok-note_class.ensures.class_side)
    (subst (IsUnderNoted c.note_class.new.self.superclasses) c.class.ensures c.in_ok-note_class.ensures.superclass)
