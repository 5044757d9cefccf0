use Rattle.std.proofs.Common.{◌≡◌, ℕ, List, nat_eq, sym, ap, subst, ◌∙◌}
use Rattle.image_model.specs.Image.{ClassOf}
use Rattle.file_model.specs.Hierarchy.{settled}
use Rattle.file_model.specs.Places.{class_place, put_again_behind}
use Rattle.image_draft.specs.Arranged.{in_order}
use Rattle.image_draft.specs.Drafted as drafted
use Rattle.image_draft.specs.Once.{AreSound}
use Rattle.placed_draft.specs.declared.placed_draft.PlacedDraft.{PlacedDraft}
use Rattle.placed_draft.specs.Placed.{NamesEach}
use Rattle.placed_draft.proofs.Answered.{on_ok_weaker, whole_unordered}
use Rattle.placed_draft.proofs.Moved.{placed_sound, placed_whole}
use Rattle.placed_draft.proofs.placed_draft.PlacedDraft.settle_all_classes.Goals as goal

pub put_classes-requires : goal.put_classes-requires
put_classes-requires c =
    let q : PlacedDraft = c.take_order.new.self in
    let names : List ℕ = c.in_ok-order.order in
    let is : c.in_ok-settled.settled.items ≡ settled nat_eq (put_again_behind (λ (x : ClassOf ℕ). x.kernel) (class_place nat_eq q.places.classes) (in_order names q.draft.classes)) =
    c.in_ok-settled.ensures
    ∙ ap (settled nat_eq) (c.in_ok-again.ensures ∙ (λ i. put_again_behind (λ (x : ClassOf ℕ). x.kernel) (class_place nat_eq (c.of_classes.ensures i)) ((c.in_ok-ordered.ensures ∙ (λ j. in_order (c.as_slice.ensures j) (c.in_ok-taken.ensures.taken j))) i))) in
    subst AreSound (sym is)
    (placed_sound q.draft (subst (λ (x : PlacedDraft). drafted.IsWhole x.draft) (sym c.take_order.ensures.rest) c.requires.draft) names
    (subst (λ (x : PlacedDraft). NamesEach names x.draft.classes) (sym c.take_order.ensures.rest) c.in_ok-order.ensures.each) (class_place nat_eq q.places.classes) c.in_ok-taken.ensures.sound)

pub returns-clause-whole : goal.returns-clause-whole
returns-clause-whole c =
    let q : PlacedDraft = c.take_order.new.self in
    let names : List ℕ = c.in_ok-order.order in
    let settled_are : List (ClassOf ℕ) = settled nat_eq (put_again_behind (λ (x : ClassOf ℕ). x.kernel) (class_place nat_eq q.places.classes) (in_order names q.draft.classes)) in
    let is : c.in_ok-settled.settled.items ≡ settled_are =
    c.in_ok-settled.ensures
    ∙ ap (settled nat_eq) (c.in_ok-again.ensures ∙ (λ i. put_again_behind (λ (x : ClassOf ℕ). x.kernel) (class_place nat_eq (c.of_classes.ensures i)) ((c.in_ok-ordered.ensures ∙ (λ j. in_order (c.as_slice.ensures j) (c.in_ok-taken.ensures.taken j))) i))) in
    on_ok_weaker c.put_classes.result (λ made.
    let put : c.put_classes.new.self ≡ record q.draft { classes = settled_are } = made ∙ (λ i. record (c.in_ok-taken.ensures.rest i) { classes = is i }) in
    whole_unordered (record { draft = c.put_classes.new.self; order = q.order; places = q.places }) (record q.draft { classes = settled_are }) put (ap (λ (x : PlacedDraft). x.order) c.take_order.ensures.rest)
    (placed_whole q.draft (subst (λ (x : PlacedDraft). drafted.IsWhole x.draft) (sym c.take_order.ensures.rest) c.requires.draft) names
    (subst (λ (x : PlacedDraft). NamesEach names x.draft.classes) (sym c.take_order.ensures.rest) c.in_ok-order.ensures.each) (class_place nat_eq q.places.classes))) c.put_classes.ensures
