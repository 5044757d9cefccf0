use Rattle.placed_draft.proofs.Answered.{whole_after, removed_answer, removed_order}
use Rattle.placed_draft.proofs.placed_draft.PlacedDraft.remove_ordered.Goals as goal

pub returns-clause-made : goal.returns-clause-made
returns-clause-made c =
    removed_answer c.change.result c.args.kernel c.args.self.now.draft c.change.new.self c.args.order c.requires.draft c.requires.order c.note.new.order c.args.class c.without_name.result c.note.ensures c.without_name.ensures c.change.ensures.made

pub returns-clause-whole : goal.returns-clause-whole
returns-clause-whole c =
    whole_after c.change.result (record { draft = c.change.new.self; order = c.note.new.order; places = c.args.self.now.places }) c.change.ensures.whole
    (removed_order c.change.result c.args.kernel c.args.self.now.draft c.change.new.self c.args.order c.requires.draft c.requires.order c.note.new.order c.args.class c.without_name.result c.note.ensures c.without_name.ensures c.change.ensures.made)
