use Rattle.std.proofs.Common.{◌≡◌, false, map, Some, sym, ap, ◌∙◌}
use Rattle.std.specs.Prelude.{is_some}
use Rattle.rb_base.specs.Names.{text_eq, name_at}
use Rattle.image_model.specs.Image.{map_class}
use Rattle.file_model.specs.Causes.{unless}
use Rattle.file_model.specs.Changes.{map_run}
use Rattle.file_model.specs.Refusals.{run_refusals}
use Rattle.file_model.specs.Places.{opened_at}
use Rattle.file_model.specs.Filing.{goes_on}
use Rattle.image_draft.specs.Early as early
use Rattle.placed_draft.specs.Placed.{image_of, places_of, IsWhole}
use Rattle.file_reading.specs.Filed.{image_so_far, places_so_far, run_in, is_at_head}
use Rattle.file_reading.proofs.Taking.{with_draft, at_none, told, was_opened, was_not_opened}
use Rattle.file_reading.proofs.take.open.Goals as goal

pub returns : goal.returns
returns c =
    let names = c.args.reading.names in
    let old = c.args.reading.draft in
    let later = record c.args.reading.draft { value = c.open-refused.new.self } in
    let run = c.args.run in
    let refused = c.open-refused.result in
    let conditions = run_refusals text_eq (map (map_class (name_at names)) (image_of old.value).classes) (map_run (name_at names) run) in
    let last = goes_on (opened_at c.args.place (places_so_far c.args.reading)) (Some (map_run (name_at names) run)) (image_so_far c.args.reading) in
    let same = c.methods_by_numbers.ensures.run names run (image_of old.value) c.names_differ.ensures c.requires.sound.image c.requires.known in
    told (λ r. r ≡ unless conditions last) (with_draft names later) refused c.told.result
    (λ none. was_opened names old c.requires.sound run c.args.place later conditions c.requires.known same
    (sym (ap early.told none) ∙ (rw c.deref_mut.ensures.value at c.open-refused.ensures.cause))
    (at_none (image_of later.value ≡ image_of old.value) refused none (rw c.deref_mut.ensures.value at c.open-refused.ensures.image))
    (at_none (run_in later.value ≡ Some run) refused none c.open-refused.ensures.run)
    (at_none (is_at_head later.value ≡ false) refused none c.open-refused.ensures.head)
    (at_none (places_of later.value ≡ opened_at c.args.place (places_of old.value)) refused none (rw c.deref_mut.ensures.value at c.open-refused.ensures.places))
    (at_none (IsWhole later.value) refused none c.open-refused.ensures.whole))
    (λ cause is. was_not_opened names old c.requires.sound run conditions last cause same
    (sym (ap early.told is) ∙ (rw c.deref_mut.ensures.value at c.open-refused.ensures.cause)) (sym (ap is_some is) ∙ (rw c.deref_mut.ensures.value at c.open-refused.ensures.some)))
    c.told.ensures
