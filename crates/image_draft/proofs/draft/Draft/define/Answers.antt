use Rattle.image_draft.proofs.Drafts.{whole-after}
use Rattle.image_draft.proofs.draft.Draft.define.Goals as goal

pub returns-clause-whole : goal.returns-clause-whole
returns-clause-whole c = whole-after c.define.result c.args.self.now c.define.new.self c.requires.whole c.requires.outside c.define.ensures.differ c.define.ensures.before c.define.ensures.kept
