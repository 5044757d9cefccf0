use Rattle.image_draft.proofs.classes.Classes.set_class_side.Goals as goal

pub returns-clause-before : goal.returns-clause-before
returns-clause-before c = c.change_class_side.ensures.sound.order.before
