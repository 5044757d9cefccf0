use Rattle.image_draft.proofs.Drafts.{if_none-weaker, whole-classes}
use Rattle.image_draft.proofs.draft.Draft.comment.Goals as goal

pub returns-clause-whole : goal.returns-clause-whole
returns-clause-whole c =
    if_none-weaker c.comment.result (whole-classes c.args.self.now c.comment.new.self c.requires.whole c.requires.outside c.comment.ensures.differ c.comment.ensures.before) c.comment.ensures.kept
