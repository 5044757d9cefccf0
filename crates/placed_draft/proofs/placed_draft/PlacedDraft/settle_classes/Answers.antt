use Rattle.std.proofs.Common.{◌≡◌, ℕ, List, Option, nat_eq, sym, ap, ◌∙◌}
use Rattle.image_model.specs.Image.{ClassOf}
use Rattle.file_model.specs.Hierarchy.{settled}
use Rattle.file_model.specs.Places.{class_place, put_again_behind}
use Rattle.placed_draft.specs.declared.placed_draft.PlacedDraft.{PlacedDraft}
use Rattle.placed_draft.specs.Placed.{ordered, KeepsClasses}
use Rattle.placed_draft.proofs.Stays.{classes_stay}
use Rattle.placed_draft.proofs.placed_draft.PlacedDraft.settle_classes.Goals as goal

pub returns-then-keeps_classes-clause-settled : goal.returns-then-keeps_classes-clause-settled
returns-then-keeps_classes-clause-settled c =
    let p : PlacedDraft = c.args.self.now in
    let keeps : KeepsClasses p = c.keeps_classes.ensures c.if-keeps_classes.true in
    let stay : settled nat_eq (put_again_behind (λ (x : ClassOf ℕ). x.kernel) (class_place nat_eq p.places.classes) (ordered p.order p.draft.classes)) ≡ p.draft.classes =
    ap (λ (o : Option (List ℕ)). settled nat_eq (put_again_behind (λ (x : ClassOf ℕ). x.kernel) (class_place nat_eq p.places.classes) (ordered o p.draft.classes))) keeps.order
    ∙ classes_stay p.draft.classes p.places.classes c.requires.draft.superclasses_before keeps.front keeps.places in
    (λ i. record p { draft = record p.draft { classes = sym stay i }; order = keeps.order i })
