use Rattle.std.proofs.Common.{◌≡◌, false, Ok, is_some, nat_eq, sym, ap, ◌∙◌}
use Rattle.file_model.specs.Changes.{Define}
use Rattle.file_model.specs.Hierarchy.{settled}
use Rattle.file_model.specs.Applied.{changed}
use Rattle.file_laws.specs.Orders.{with_classes}
use Rattle.image_draft.specs.declared.draft.Draft.{Draft}
use Rattle.image_draft.specs.Arranged.{in_order}
use Rattle.image_draft.specs.Drafted as drafted
use Rattle.placed_draft.specs.declared.placed_draft.PlacedDraft.{PlacedDraft}
use Rattle.placed_draft.specs.Placed.{image_of}
use Rattle.placed_draft.proofs.Answered.{where_none, makes_refused, makes_none, image_unordered}
use Rattle.placed_draft.proofs.Made.{arranged, again_made, again_each}
use Rattle.placed_draft.proofs.Moved.{whole_once}
use Rattle.placed_draft.proofs.placed_draft.PlacedDraft.define_again.Goals as goal

pub returns-then-is_some-clause-made : goal.returns-then-is_some-clause-made
returns-then-is_some-clause-made c =
    let d : Draft = c.args.self.now.draft in
    let e : Draft = c.change.new.self in
    makes_refused c.in_ok-refusal.refusal (changed nat_eq c.args.kernel (Define c.args.definition) (arranged c.args.order (drafted.image_of d))) (with_classes (settled nat_eq (in_order c.args.order e.classes)) (drafted.image_of e)) _
    (sym c.is_some.ensures ∙ c.if-is_some.true)
    (again_made c.args.kernel c.args.order (drafted.image_of d) (drafted.image_of e) (whole_once d c.requires.whole.draft) c.requires.whole.draft.superclasses_before c.requires.whole.order c.in_ok-refusal.refusal c.args.definition c.requires.there c.in_ok-refusal.ensures.made)

pub settle_order-requires-clause-whole : goal.settle_order-requires-clause-whole
settle_order-requires-clause-whole c =
    let d : Draft = c.args.self.now.draft in
    let e : Draft = c.change.new.self in
    let none : is_some c.in_ok-refusal.refusal ≡ false = sym c.is_some.ensures ∙ c.if-is_some.false in
    record {
      draft = where_none c.in_ok-refusal.refusal none c.in_ok-refusal.ensures.whole;
      order =
          where_none c.in_ok-refusal.refusal none
          (again_each c.args.kernel c.args.order (drafted.image_of d) (drafted.image_of e) (whole_once d c.requires.whole.draft) c.requires.whole.draft.superclasses_before c.requires.whole.order c.in_ok-refusal.refusal c.args.definition c.requires.there c.in_ok-refusal.ensures.made);
    }

pub returns-clause-made : goal.returns-clause-made
returns-clause-made c =
    let d : Draft = c.args.self.now.draft in
    let e : Draft = c.change.new.self in
    let none : is_some c.in_ok-refusal.refusal ≡ false = sym c.is_some.ensures ∙ c.if-is_some.false in
    let after : PlacedDraft = record { draft = record e { classes = settled nat_eq (in_order c.args.order e.classes) }; order = c.args.self.now.order; places = c.args.self.now.places } in
    makes_none c.in_ok-refusal.refusal (changed nat_eq c.args.kernel (Define c.args.definition) (arranged c.args.order (drafted.image_of d))) (with_classes (settled nat_eq (in_order c.args.order e.classes)) (drafted.image_of e)) none
    (again_made c.args.kernel c.args.order (drafted.image_of d) (drafted.image_of e) (whole_once d c.requires.whole.draft) c.requires.whole.draft.superclasses_before c.requires.whole.order c.in_ok-refusal.refusal c.args.definition c.requires.there c.in_ok-refusal.ensures.made)
    ∙ ap Ok (sym (image_unordered after c.requires.taken) ∙ ap image_of (sym c.in_ok-settle_order.ensures.settled))
