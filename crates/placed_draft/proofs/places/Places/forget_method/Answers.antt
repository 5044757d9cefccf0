use Rattle.std.proofs.Common.{ℕ, filter, not, nat_eq, ap, ◌∙◌}
use Rattle.std.specs.Prelude.{reverse}
use Rattle.file_model.specs.Places.{MethodPlaceOf, is_place_of}
use Rattle.placed_draft.proofs.Reversed.{reversed_filter}
use Rattle.placed_draft.proofs.places.Places.forget_method.Goals as goal

pub returns : goal.returns
returns c =
    let other = λ (p : MethodPlaceOf ℕ). not (is_place_of nat_eq c.args.class c.args.meta c.args.selector p) in
    (λ i. record (c.self.view_is i) { methods = (ap reverse c.forget_method.ensures ∙ reversed_filter other c.self.inside.methods.items) i })
    ∙ (λ i. record c.args.self.now { methods = filter other (c.self.view_is i).methods })
