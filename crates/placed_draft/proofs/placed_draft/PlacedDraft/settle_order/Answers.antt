use Rattle.std.proofs.Common.{◌≡◌, nat_eq, sym, ap, subst, ◌∙◌}
use Rattle.file_model.specs.Hierarchy.{settled}
use Rattle.image_draft.specs.declared.draft.Draft.{Draft}
use Rattle.image_draft.specs.Arranged.{in_order}
use Rattle.image_draft.specs.Once.{AreSound}
use Rattle.placed_draft.proofs.Answered.{on_ok_weaker, whole_unordered}
use Rattle.placed_draft.proofs.Moved.{settled_sound, settled_whole}
use Rattle.placed_draft.proofs.placed_draft.PlacedDraft.settle_order.Goals as goal

pub put_classes-requires : goal.put_classes-requires
put_classes-requires c =
    let d : Draft = c.args.self.now.draft in
    let is : c.in_ok-settled.settled.items ≡ settled nat_eq (in_order c.args.order d.classes) =
    c.in_ok-settled.ensures ∙ ap (settled nat_eq) (c.in_ok-ordered.ensures ∙ (λ i. in_order (c.as_slice.ensures i) (c.in_ok-taken.ensures.taken i))) in
    subst AreSound (sym is) (settled_sound d c.requires.whole.draft c.args.order c.requires.whole.order c.in_ok-taken.ensures.sound)

pub returns-clause-whole : goal.returns-clause-whole
returns-clause-whole c =
    let d : Draft = c.args.self.now.draft in
    let is : c.in_ok-settled.settled.items ≡ settled nat_eq (in_order c.args.order d.classes) =
    c.in_ok-settled.ensures ∙ ap (settled nat_eq) (c.in_ok-ordered.ensures ∙ (λ i. in_order (c.as_slice.ensures i) (c.in_ok-taken.ensures.taken i))) in
    on_ok_weaker c.put_classes.result (λ made.
    let put : c.put_classes.new.self ≡ record d { classes = settled nat_eq (in_order c.args.order d.classes) } = made ∙ (λ i. record (c.in_ok-taken.ensures.rest i) { classes = is i }) in
    whole_unordered (record { draft = c.put_classes.new.self; order = c.args.self.now.order; places = c.args.self.now.places }) (record d { classes = settled nat_eq (in_order c.args.order d.classes) }) put c.requires.taken
    (settled_whole d c.requires.whole.draft c.args.order c.requires.whole.order)) c.put_classes.ensures
