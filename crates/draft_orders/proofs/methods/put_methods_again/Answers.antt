use Rattle.std.proofs.Common.{◌≡◌, ℕ, Option, map, reverse, nat_eq, ap, ◌∙◌}
use Rattle.std.specs.HashMap.{get}
use Rattle.image_model.specs.Image.{EntryOf}
use Rattle.file_model.specs.Places.{method_place, put_again_behind}
use Rattle.image_draft.specs.declared.method_draft.MethodDraft.{MethodDraft}
use Rattle.image_draft.specs.Entries.{entry_of}
use Rattle.draft_orders.specs.Tables.{same_key, key_of}
use Rattle.draft_orders.proofs.Split.{if_ok_more, joined_is, put_again_seen}
use Rattle.draft_orders.proofs.Stated.{method_place_is}
use Rattle.draft_orders.proofs.methods.put_methods_again.Goals as goal

pub returns : goal.returns
returns c =
    let again : _ ≡ put_again_behind (λ (x : MethodDraft). x.kernel) (λ (x : MethodDraft). method_place nat_eq (reverse c.args.places.now) (entry_of x)) c.args.methods.items =
    joined_is (λ (x : MethodDraft). x.kernel) (λ (x : MethodDraft). get same_key c.in_ok-table.table (key_of x)) c.args.methods.items c.in_ok-split.field-0 c.in_ok-split.ensures
    ∙ ap (λ (place : MethodDraft → Option ℕ). put_again_behind (λ (x : MethodDraft). x.kernel) place c.args.methods.items) (λ i x. method_place_is c.args.places.now c.in_ok-table.table c.in_ok-table.ensures x i) in
    if_ok_more c.join.result _ _
    (λ all e. ap (map entry_of) (e ∙ again) ∙ put_again_seen entry_of (λ (x : EntryOf ℕ). x.kernel) (method_place nat_eq (reverse c.args.places.now)) c.args.methods.items) c.join.ensures
