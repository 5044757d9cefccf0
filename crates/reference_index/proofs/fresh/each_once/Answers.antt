use Rattle.std.proofs.Common.{◌≡◌, ◌++◌, ◌∙◌, map, refl, arith}
use Rattle.std.specs.List.{filter_map}
use Rattle.std.proofs.lemmas.Grind.{common_steps}
use Rattle.class_table.specs.declared.record.Place.TheVariants as place
use Rattle.reference_index.specs.Fresh.{slot_in, number_in}
use Rattle.reference_index.proofs.PlacesOnce.{places-once}
use Rattle.reference_index.proofs.fresh.each_once.Goals as goal

pub returns : goal.returns
returns c =
    let slots : c.loop-slot.once.items ≡ map place.Method c.leave_once.new.numbers.items = grind (arith, common_steps) in
    let all : c.loop-number.once.items ≡ c.loop-slot.once.items ++ map place.DoIt c.leave_once-2.new.numbers.items = grind (arith, common_steps) in
    let ss : c.sort_out.new.slots.items ≡ filter_map slot_in c.args.places.now = c.in_ok-sort_out.ensures.slots ∙ rw c.new-slots.ensures.items refl in
    let ns : c.sort_out.new.numbers.items ≡ filter_map number_in c.args.places.now = c.in_ok-sort_out.ensures.numbers ∙ rw c.new-numbers.ensures.items refl in
    rw (all, slots)
    (places-once c.args.places.now c.leave_once.new.numbers.items c.leave_once-2.new.numbers.items
    (rw ss at c.leave_once.ensures.once)
    (rw ns at c.leave_once-2.ensures.once)
    (rw ss at c.leave_once.ensures.shorter)
    (rw ns at c.leave_once-2.ensures.shorter))
