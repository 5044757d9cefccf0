use Rattle.std.proofs.Common.{ℕ, List, Option, slice_get, sym, ap, ◌∙◌}
use Rattle.std.specs.Option.{option_and_then}
use Rattle.image_model.specs.Image.{ClassOf}
use Rattle.image_draft.proofs.ClassPlaces.{find_place}
use Rattle.image_draft.proofs.class_list.ClassList.find.Goals as goal

pub returns-in-None : goal.returns-in-None
returns-in-None c =
    let classes : List (ClassOf ℕ) = c.args.self.now in
    sym (find_place classes c.args.name ∙ ap (λ (o : Option ℕ). option_and_then (slice_get classes) o) (sym c.place.ensures ∙ c.in-None.is))

pub returns-in-Some : goal.returns-in-Some
returns-in-Some c =
    let classes : List (ClassOf ℕ) = c.args.self.now in
    c.class_at.ensures ∙ ap (λ (cs : List (ClassOf ℕ)). slice_get cs c.in-Some.place) (c.deref.ensures.value ∙ c.self.view_is)
    ∙ sym (find_place classes c.args.name ∙ ap (λ (o : Option ℕ). option_and_then (slice_get classes) o) (sym c.place.ensures ∙ c.in-Some.is))
