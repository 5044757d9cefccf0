use Rattle.std.proofs.Common.{◌≡◌, ◌<◌, length, refl, sym, subst}
use Rattle.image_model.specs.ImageNames.{ImageNames}
use Rattle.class_table.specs.Slots.{Slots}
use Rattle.image_draft.specs.Drafted.{image_of}
use Rattle.image_building.proofs.Blank.{only_names}
use Rattle.image_building.proofs.build.image_from.Goals as goal

pub fill-requires-clause-blank : goal.fill-requires-clause-blank
fill-requires-clause-blank c = subst (λ (s : Slots). s ≡ only_names s.names) (sym c.image_with-image.ensures.image) refl

pub fill-requires-clause-known : goal.fill-requires-clause-known
fill-requires-clause-known c = subst (λ (s : Slots). ImageNames (λ n. n < length s.names) (image_of c.args.draft)) (sym c.image_with-image.ensures.image) c.requires.known
