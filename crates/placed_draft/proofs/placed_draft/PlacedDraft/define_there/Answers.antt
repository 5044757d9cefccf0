use Rattle.std.proofs.Common.{◌≡◌, ℕ, List, IfOk, nat_eq, sym, ap, subst, ◌∙◌}
use Rattle.image_model.specs.Image.{ClassOf, ImageOf}
use Rattle.file_model.specs.Changes.{Define}
use Rattle.file_model.specs.Applied.{changed}
use Rattle.file_laws.specs.Orders.{with_classes}
use Rattle.image_draft.specs.Arranged.{in_order}
use Rattle.image_draft.specs.Drafted as drafted
use Rattle.image_draft.specs.Drafted.{Makes}
use Rattle.placed_draft.specs.declared.placed_draft.PlacedDraft.{PlacedDraft}
use Rattle.placed_draft.specs.Placed.{image_of, with_order}
use Rattle.placed_draft.proofs.Answered.{image_unordered}
use Rattle.placed_draft.proofs.Ordered.{in_order_itself}
use Rattle.placed_draft.proofs.Moved.{whole_once}
use Rattle.placed_draft.proofs.placed_draft.PlacedDraft.define_there.Goals as goal

pub returns-then-branch-clause-made : goal.returns-then-branch-clause-made
returns-then-branch-clause-made c =
    let p : PlacedDraft = c.args.self.now in
    let after : PlacedDraft = record p { draft = c.change.new.self } in
    let as_noted : image_of (with_order c.args.order p) ≡ drafted.image_of p.draft =
    ap (λ (ds : List (ClassOf ℕ)). with_classes ds (drafted.image_of p.draft)) (ap (λ ns. in_order ns p.draft.classes) (c.in_ok-stands_in.ensures c.if-branch.true) ∙ in_order_itself p.draft.classes (whole_once p.draft c.requires.whole.draft)) in
    subst (λ (i : ImageOf ℕ). IfOk c.change.result (λ cause. Makes cause (changed nat_eq c.args.kernel (Define c.args.definition) i) (image_of after))) (sym as_noted)
    (subst (λ (j : ImageOf ℕ). IfOk c.change.result (λ cause. Makes cause (changed nat_eq c.args.kernel (Define c.args.definition) (drafted.image_of p.draft)) j)) (sym (image_unordered after c.requires.taken)) c.change.ensures.made)
