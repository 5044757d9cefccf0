use Rattle.std.proofs.Common.{ℕ, nat_eq, ap, ◌∙◌}
use Rattle.image_model.specs.Image.{EntryOf, ImageOf}
use Rattle.file_model.specs.Places.{method_place, put_again_behind, placed}
use Rattle.image_draft.specs.declared.draft.Draft.{Draft}
use Rattle.placed_draft.specs.declared.placed_draft.PlacedDraft.{PlacedDraft}
use Rattle.placed_draft.specs.Placed.{image_of}
use Rattle.placed_draft.proofs.Doits.{whole_left}
use Rattle.placed_draft.proofs.placed_draft.PlacedDraft.settle.Goals as goal

pub settle_classes-requires : goal.settle_classes-requires
settle_classes-requires c = whole_left c.args.self.now c.leave_head.new.self c.requires c.leave_head.ensures

-- the image with its methods put in again
abbrev with_methods_again : PlacedDraft → ImageOf ℕ
with_methods_again x = record (image_of x) { methods = put_again_behind (λ (m : EntryOf ℕ). m.kernel) (method_place nat_eq x.places.methods) (image_of x).methods }

pub returns-clause-image : goal.returns-clause-image
returns-clause-image c =
    let p : PlacedDraft = c.args.self.now in
    let between : PlacedDraft = c.settle_classes.new.self in
    ap image_of c.in_ok-settle_methods.ensures.rest ∙ (λ i. record (image_of between) { methods = c.in_ok-settle_methods.ensures.methods i })
    ∙ ap with_methods_again c.in_ok-settle_classes.ensures.settled
    ∙ ap (λ (d : Draft). placed nat_eq p.places (image_of (record p { draft = d }))) c.leave_head.ensures
