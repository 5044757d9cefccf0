use Rattle.std.proofs.Common.{is_some, sym, ap, subst, ◌∙◌}
use Rattle.st_tree.specs.View.{method_of}
use Rattle.placed_draft.specs.declared.placed_draft.PlacedDraft.{PlacedDraft}
use Rattle.placed_draft.specs.Placed.{IsOrder}
use Rattle.placed_draft.proofs.Answered.{whole_after, method_order}
use Rattle.placed_draft.proofs.placed_draft.PlacedDraft.add_method.Goals as goal

pub returns-clause-whole : goal.returns-clause-whole
returns-clause-whole c =
    let p : PlacedDraft = c.count_method.new.self in
    whole_after c.add_method.result (record { draft = c.add_method.new.self; order = p.order; places = p.places }) c.add_method.ensures.whole
    (method_order c.add_method.result c.args.kernel p.draft c.add_method.new.self c.args.source (method_of c.args.tree) p.order (subst (λ (q : PlacedDraft). IsOrder q.order q.draft.classes) (sym c.count_method.ensures.rest) c.requires.order)
    (ap (λ (q : PlacedDraft). is_some q.draft.run) c.count_method.ensures.rest ∙ c.in_ok-count_method.ensures.inside) c.add_method.ensures.made)
