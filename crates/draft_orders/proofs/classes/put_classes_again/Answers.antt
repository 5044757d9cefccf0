use Rattle.std.proofs.Common.{◌≡◌, ℕ, Option, reverse, nat_eq, ap, ◌∙◌}
use Rattle.std.specs.HashMap.{get}
use Rattle.image_model.specs.Image.{ClassOf}
use Rattle.file_model.specs.Places.{class_place, put_again_behind}
use Rattle.draft_orders.proofs.Split.{if_ok_more, joined_is}
use Rattle.draft_orders.proofs.classes.put_classes_again.Goals as goal

pub returns : goal.returns
returns c =
    let again : _ ≡ put_again_behind (λ (x : ClassOf ℕ). x.kernel) (class_place nat_eq (reverse c.args.places.now)) c.args.classes.items =
    joined_is (λ (x : ClassOf ℕ). x.kernel) (λ (x : ClassOf ℕ). get nat_eq c.in_ok-table.table x.name) c.args.classes.items c.in_ok-split.field-0 c.in_ok-split.ensures
    ∙ ap (λ (place : ClassOf ℕ → Option ℕ). put_again_behind (λ (x : ClassOf ℕ). x.kernel) place c.args.classes.items) (λ i x. c.in_ok-table.ensures x.name i) in
    if_ok_more c.join.result _ _ (λ all e. e ∙ again) c.join.ensures
