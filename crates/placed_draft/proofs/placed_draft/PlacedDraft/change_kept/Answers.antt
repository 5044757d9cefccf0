use Rattle.image_draft.specs.Drafted.{change_of}
use Rattle.placed_draft.proofs.Answered.{whole_after, kept_answer, kept_order}
use Rattle.placed_draft.proofs.placed_draft.PlacedDraft.change_kept.Goals as goal

pub returns-clause-made : goal.returns-clause-made
returns-clause-made c =
    kept_answer c.change.result c.args.kernel c.args.self.now.draft c.change.new.self c.args.order c.requires.whole.draft c.requires.whole.order c.note.new.order (change_of c.args.change) c.requires.leaves c.note.ensures c.change.ensures.made

pub returns-clause-whole : goal.returns-clause-whole
returns-clause-whole c =
    whole_after c.change.result (record { draft = c.change.new.self; order = c.note.new.order; places = c.args.self.now.places }) c.change.ensures.whole
    (kept_order c.change.result c.args.kernel c.args.self.now.draft c.change.new.self c.args.order c.requires.whole.draft c.requires.whole.order c.note.new.order (change_of c.args.change) c.requires.leaves c.note.ensures c.change.ensures.made)
