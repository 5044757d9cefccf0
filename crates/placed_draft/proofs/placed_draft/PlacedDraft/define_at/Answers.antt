use Rattle.std.proofs.Common.{◌≡◌, ℕ, List, nat_eq, sym, ap, subst, ◌∙◌}
use Rattle.std.proofs.lemmas.Result.{IfOk-weaker}
use Rattle.image_model.specs.Image.{ClassOf, ImageOf}
use Rattle.file_model.specs.Changes.{DefineAt}
use Rattle.file_model.specs.Applied.{changed}
use Rattle.file_laws.specs.Orders.{with_classes}
use Rattle.image_draft.specs.Drafted as drafted
use Rattle.image_draft.specs.Drafted.{Makes}
use Rattle.placed_draft.specs.declared.placed_draft.PlacedDraft.{PlacedDraft}
use Rattle.placed_draft.specs.Placed.{image_of, with_order}
use Rattle.placed_draft.proofs.placed_draft.PlacedDraft.define_at.Goals as goal

pub returns-clause-made : goal.returns-clause-made
returns-clause-made c =
    let p : PlacedDraft = c.args.self.now in
    let names : List ℕ = c.in_ok-order.order in
    let new : ImageOf ℕ = image_of c.define_kept.new.self in
    let before : image_of (with_order names c.take_order.new.self) ≡ image_of p =
    ap (λ (x : PlacedDraft). image_of (with_order names x)) c.take_order.ensures.rest ∙ ap (λ (es : List (ClassOf ℕ)). with_classes es (drafted.image_of p.draft)) (sym c.in_ok-order.ensures.taken) in
    IfOk-weaker c.define_kept.result (λ cause. (place : ℕ) → Makes cause (changed nat_eq c.args.kernel (DefineAt c.args.definition place) (image_of (with_order names c.take_order.new.self))) new)
    (λ cause. Makes cause (changed nat_eq c.args.kernel (DefineAt c.args.definition c.args.place) (image_of p)) new)
    (λ cause m. subst (λ (i : ImageOf ℕ). Makes cause (changed nat_eq c.args.kernel (DefineAt c.args.definition c.args.place) i) new) before (m c.args.place)) c.define_kept.ensures.made
