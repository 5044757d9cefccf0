use Rattle.std.proofs.Common.{◌≡◌, ℕ, false, nat_eq, sym, ap, subst, ◌∙◌}
use Rattle.std.proofs.lemmas.Result.{IfOk-weaker}
use Rattle.image_model.specs.Image.{ImageOf}
use Rattle.file_model.specs.Changes.{Define, DefineAt}
use Rattle.file_model.specs.Hierarchy.{has_class}
use Rattle.file_model.specs.Applied.{changed}
use Rattle.file_laws.proofs.OtherOrderLooks.{has_same}
use Rattle.image_draft.specs.declared.draft.Draft.{Draft}
use Rattle.image_draft.specs.Arranged.{in_order}
use Rattle.image_draft.specs.Drafted as drafted
use Rattle.image_draft.specs.Drafted.{Makes}
use Rattle.placed_draft.specs.Placed.{image_of}
use Rattle.placed_draft.proofs.Numbers.{nat_itself, nat_equal}
use Rattle.placed_draft.proofs.OrderKept.{ordered_same}
use Rattle.placed_draft.proofs.Answered.{stated_new}
use Rattle.placed_draft.proofs.Made.{arranged}
use Rattle.placed_draft.proofs.Moved.{whole_once}
use Rattle.placed_draft.proofs.placed_draft.PlacedDraft.define_ordered.Goals as goal

pub returns-else-has_class-clause-made : goal.returns-else-has_class-clause-made
returns-else-has_class-clause-made c =
    let d : Draft = c.args.self.now.draft in
    let old : ImageOf ℕ = arranged c.args.order (drafted.image_of d) in
    let fresh : has_class nat_eq (in_order c.args.order d.classes) c.args.definition.name ≡ false =
    has_same nat_eq nat_itself nat_equal (in_order c.args.order d.classes) d.classes (ordered_same c.args.order d.classes (whole_once d c.requires.whole.draft) c.requires.whole.order) c.args.definition.name
    ∙ ap (has_class nat_eq d.classes) (sym c.name_of.ensures) ∙ sym c.has_class.ensures ∙ c.if-has_class.false in
    IfOk-weaker c.define_kept.result (λ cause. (place : ℕ) → Makes cause (changed nat_eq c.args.kernel (DefineAt c.args.definition place) old) (image_of c.define_kept.new.self)) (λ cause. Makes cause (changed nat_eq c.args.kernel (Define c.args.definition) old) (image_of c.define_kept.new.self))
    (λ cause m. subst (λ r. Makes cause r (image_of c.define_kept.new.self)) (sym (stated_new c.args.kernel c.args.definition old 0 fresh)) (m 0)) c.define_kept.ensures.made
