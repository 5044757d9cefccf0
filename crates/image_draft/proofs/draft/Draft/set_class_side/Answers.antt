use Rattle.image_draft.proofs.Drafts.{whole-after}
use Rattle.image_draft.proofs.draft.Draft.set_class_side.Goals as goal

pub returns-clause-whole : goal.returns-clause-whole
returns-clause-whole c = whole-after c.set_class_side.result c.args.self.now c.set_class_side.new.self c.requires.whole c.requires.outside c.set_class_side.ensures.differ c.set_class_side.ensures.before c.set_class_side.ensures.kept
