use Rattle.std.proofs.Common.{◌≡◌, ℕ, List, map, nat_eq, sym, ap, subst, ◌∙◌}
use Rattle.image_model.specs.Image.{EntryOf}
use Rattle.file_model.specs.Places.{method_place, put_again_behind}
use Rattle.image_draft.specs.declared.method_draft.MethodDraft.{MethodDraft}
use Rattle.image_draft.specs.declared.draft.Draft.{Draft}
use Rattle.image_draft.specs.Entries.{entry_of}
use Rattle.placed_draft.specs.declared.placed_draft.PlacedDraft.{PlacedDraft}
use Rattle.placed_draft.specs.Placed.{IsWhole}
use Rattle.placed_draft.proofs.Answered.{on_ok_weaker}
use Rattle.placed_draft.proofs.Moved.{whole_methods}
use Rattle.placed_draft.proofs.placed_draft.PlacedDraft.settle_all_methods.Goals as goal

pub returns-clause-whole : goal.returns-clause-whole
returns-clause-whole c =
    let p : PlacedDraft = c.args.self.now in
    let d : Draft = p.draft in
    let ms : List MethodDraft = c.in_ok-methods-2.methods.items in
    let put : map entry_of ms ≡ put_again_behind (λ (m : EntryOf ℕ). m.kernel) (method_place nat_eq p.places.methods) (map entry_of d.methods) =
    c.in_ok-methods-2.ensures ∙ (λ i. put_again_behind (λ (m : EntryOf ℕ). m.kernel) (method_place nat_eq (c.of_methods.ensures i)) (map entry_of (c.in_ok-methods.ensures.taken i))) in
    on_ok_weaker c.put_methods.result (λ is.
    let new : c.put_methods.new.self ≡ record d { methods = ms } = is ∙ ap (λ (x : Draft). record x { methods = ms }) c.take_methods.ensures.rest in
    subst (λ (x : Draft). IsWhole (record p { draft = x })) (sym new) (record { draft = whole_methods d ms (λ (m : EntryOf ℕ). m.kernel) (method_place nat_eq p.places.methods) c.requires.draft put; order = c.requires.order })) c.put_methods.ensures
