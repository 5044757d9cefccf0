use Rattle.std.proofs.Common.{ℕ, filter, not, nat_eq, ap, ◌∙◌}
use Rattle.std.specs.Prelude.{reverse}
use Rattle.file_model.specs.Places.{ClassPlaceOf, MethodPlaceOf}
use Rattle.placed_draft.proofs.Reversed.{reversed_filter}
use Rattle.placed_draft.proofs.places.Places.forget_class.Goals as goal

pub returns : goal.returns
returns c =
    let other = λ (p : ClassPlaceOf ℕ). not (nat_eq c.args.name p.class) in
    let others = λ (p : MethodPlaceOf ℕ). not (nat_eq c.args.name p.class) in
    (λ i. record (c.self.view_is i) {
      classes = (ap reverse c.forget_class.ensures ∙ reversed_filter other c.self.inside.classes.items) i;
      methods = (ap reverse c.forget_methods.ensures ∙ reversed_filter others c.self.inside.methods.items) i;
    })
    ∙ (λ i. record c.args.self.now { classes = filter other (c.self.view_is i).classes; methods = filter others (c.self.view_is i).methods })
