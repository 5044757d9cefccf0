use Rattle.image_draft.proofs.classes.Classes.comment.Goals as goal

pub returns-clause-before : goal.returns-clause-before
returns-clause-before c = (c.change_comment.ensures.sound c.self.invariant.0).order.before

pub invariant_of-self : goal.invariant_of-self
invariant_of-self c = (c.change_comment.ensures.sound c.self.invariant.0, c.change_comment.ensures.owned c.self.inside.owners c.self.invariant.1)
