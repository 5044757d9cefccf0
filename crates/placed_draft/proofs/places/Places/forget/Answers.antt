use Rattle.std.proofs.Common.{nat_eq, sym, ap, ◌∙◌}
use Rattle.file_model.specs.Places.{places_after}
use Rattle.image_draft.specs.Drafted.{change_of}
use Rattle.placed_draft.proofs.places.Places.forget.Goals as goal

pub returns-in-RemoveMethod : goal.returns-in-RemoveMethod
returns-in-RemoveMethod c = c.forget_method.ensures ∙ ap (λ change. places_after nat_eq (change_of change) c.args.self.now) (sym c.in-RemoveMethod.is)
