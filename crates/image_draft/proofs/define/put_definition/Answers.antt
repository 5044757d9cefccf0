use Rattle.std.proofs.Common.{◌≡◌, ℕ, Bool, List, OnOk, nat_eq, sym, subst, ◌∙◌}
use Rattle.image_model.specs.Image.{ClassOf}
use Rattle.image_draft.proofs.Places.{defined-again, defined-last}
use Rattle.image_draft.proofs.define.put_definition.Goals as goal

pub returns-in-None : goal.returns-in-None
returns-in-None c =
    let p : ClassOf ℕ → Bool = λ d. nat_eq c.name_of-name.result d.name in
    let classes : List (ClassOf ℕ) = c.args.classes.now in
    subst (λ (ys : List (ClassOf ℕ)). OnOk c.add_class.result (c.add_class.new.classes ≡ ys))
    (defined-last c.args.kernel c.args.definition c.name_of-name.result classes c.name_of-name.ensures (sym c.place.ensures ∙ c.in-None.is)) c.add_class.ensures

pub returns-in-Some : goal.returns-in-Some
returns-in-Some c =
    let p : ClassOf ℕ → Bool = λ d. nat_eq c.name_of-name.result d.name in
    let classes : List (ClassOf ℕ) = c.args.classes.now in
    defined-again c.args.kernel c.args.definition c.name_of-name.result classes c.redefine.new.self c.in-Some.place c.name_of-name.ensures c.requires
    (sym c.place.ensures ∙ c.in-Some.is) c.redefine.ensures
