use Rattle.std.proofs.Common.{sym, ap, subst, ◌∙◌}
use Rattle.rb_base.specs.Names.{name_at}
use Rattle.image_model.specs.Image.{map_image}
use Rattle.image_model.specs.ImageNames.{ImageNames}
use Rattle.placed_draft.specs.Placed.{image_of, places_of}
use Rattle.file_reading.specs.Filed.{IsNumberIn}
use Rattle.file_reading.proofs.Finishing.{run_known}
use Rattle.file_reading.proofs.reading.Progress.finish.Goals as goal

pub returns-clause-sound : goal.returns-clause-sound
returns-clause-sound c =
    let names = c.args.self.names in
    let draft = c.args.self.draft in
    let known = subst (ImageNames (IsNumberIn names)) (sym (rw c.into_inner.ensures at c.in_ok-draft.ensures.image))
    (c.places_by_numbers.ensures.known_settled names (places_of draft.value) (image_of draft.value) c.names_differ.ensures c.requires.image) in
    record { whole = c.in_ok-draft.ensures.whole; image = known; run = run_known names c.in_ok-draft.draft c.in_ok-draft.ensures.whole known }

pub returns-clause-image : goal.returns-clause-image
returns-clause-image c =
    let names = c.args.self.names in
    let draft = c.args.self.draft in
    ap (map_image (name_at names)) (rw c.into_inner.ensures at c.in_ok-draft.ensures.image)
    ∙ sym (c.places_by_numbers.ensures.settled names (places_of draft.value) (image_of draft.value) c.names_differ.ensures c.requires.places c.requires.image)
