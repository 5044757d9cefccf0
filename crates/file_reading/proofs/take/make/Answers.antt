use Rattle.std.proofs.Common.{◌≡◌}
use Rattle.rb_base.specs.Names.{name_at}
use Rattle.file_model.specs.Changes.{map_change}
use Rattle.image_draft.specs.Drafted.{change_of}
use Rattle.placed_draft.specs.Placed.{image_of, places_of}
use Rattle.file_reading.specs.Filed.{filed}
use Rattle.file_reading.specs.Answers.{change_taken}
use Rattle.file_reading.proofs.Taking.{with_draft, told, was_changed, was_not_changed}
use Rattle.file_reading.proofs.take.make.Goals as goal

pub returns : goal.returns
returns c =
    let names = c.args.reading.names in
    let old = c.args.reading.draft in
    let later = record c.args.reading.draft { value = c.change.new.self } in
    let change = change_of c.args.change in
    let differ = c.names_differ.ensures in
    let same = c.changes_by_numbers.ensures.same names c.args.kernel change (image_of old.value) differ c.requires.sound.image c.requires.known in
    told (λ r. r ≡ change_taken c.args.kernel (filed c.args.reading) (map_change (name_at names) change)) (with_draft names later) c.in_ok-refused.refused c.told.result
    (λ none. was_changed names old c.requires.sound c.args.kernel change c.in_ok-refused.refused later same
    (c.changes_by_numbers.ensures.known names c.args.kernel change (image_of old.value) differ c.requires.sound.image c.requires.known)
    (c.places_by_numbers.ensures.after names change (places_of old.value) differ c.requires.sound.places c.requires.known)
    (c.places_by_numbers.ensures.known_after names change (places_of old.value) differ c.requires.sound.places c.requires.known)
    none (rw c.deref_mut.ensures.value at c.in_ok-refused.ensures.made) c.in_ok-refused.ensures.run c.in_ok-refused.ensures.head (rw c.deref_mut.ensures.value at c.in_ok-refused.ensures.places) c.in_ok-refused.ensures.whole)
    (λ cause is. was_not_changed names old c.requires.sound c.args.kernel change c.in_ok-refused.refused cause later same is (rw c.deref_mut.ensures.value at c.in_ok-refused.ensures.made))
    c.told.ensures
