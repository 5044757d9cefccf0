use Rattle.rb_base.specs.Names.{text_eq}
use Rattle.file_model.specs.Places.{placed}
use Rattle.placed_draft.specs.Placed.{image_of, places_of}
use Rattle.file_reading.specs.Filed.{image_so_far, places_so_far}
use Rattle.file_reading.proofs.Taking.{was_settled}
use Rattle.file_reading.proofs.take.settle.Goals as goal

pub returns : goal.returns
returns c =
    let names = c.args.reading.names in
    let old = c.args.reading.draft in
    was_settled names old c.requires (record c.args.reading.draft { value = c.settle.new.self }) (placed text_eq (places_so_far c.args.reading) (image_so_far c.args.reading))
    (c.places_by_numbers.ensures.settled names (places_of old.value) (image_of old.value) c.names_differ.ensures c.requires.places c.requires.image)
    (c.places_by_numbers.ensures.known_settled names (places_of old.value) (image_of old.value) c.names_differ.ensures c.requires.image)
    (rw c.deref_mut.ensures.value at c.in_ok-settle.ensures.image) c.in_ok-settle.ensures.run c.in_ok-settle.ensures.head c.in_ok-settle.ensures.places c.in_ok-settle.ensures.whole
