use Rattle.std.proofs.Common.{◌≡◌, ℕ, List, Option, None, sym, ap, subst, ◌∙◌}
use Rattle.std.proofs.lemmas.Result.{IfOk-weaker}
use Rattle.image_model.specs.Image.{ClassOf}
use Rattle.image_model.specs.Valid.{class_names}
use Rattle.image_draft.specs.Arranged.{in_order}
use Rattle.placed_draft.specs.Placed.{ordered, NamesEach}
use Rattle.placed_draft.proofs.Ordered.{in_order_itself}
use Rattle.placed_draft.proofs.OrderKept.{each_itself}
use Rattle.placed_draft.proofs.Moved.{whole_once}
use Rattle.placed_draft.proofs.placed_draft.PlacedDraft.take_order.Goals as goal

pub returns-in-None-clause-taken : goal.returns-in-None-clause-taken
returns-in-None-clause-taken c =
    let ds : List (ClassOf ℕ) = c.args.self.now.draft.classes in
    let none : c.args.self.now.order ≡ None = sym c.take.ensures.value ∙ c.in-None.is in
    IfOk-weaker c.class_names.result (λ names. names ≡ class_names ds) (λ names. ordered c.args.self.now.order ds ≡ in_order names ds)
    (λ names e. ap (λ (o : Option (List ℕ)). ordered o ds) none ∙ sym (ap (λ ns. in_order ns ds) e ∙ in_order_itself ds (whole_once c.args.self.now.draft c.requires.draft))) c.class_names.ensures

pub returns-in-None-clause-each : goal.returns-in-None-clause-each
returns-in-None-clause-each c =
    let ds : List (ClassOf ℕ) = c.args.self.now.draft.classes in
    IfOk-weaker c.class_names.result (λ names. names ≡ class_names ds) (λ names. NamesEach names ds)
    (λ names e. subst (λ ns. NamesEach ns ds) (sym e) (each_itself ds (whole_once c.args.self.now.draft c.requires.draft))) c.class_names.ensures
