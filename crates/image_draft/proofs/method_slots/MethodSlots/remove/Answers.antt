use Rattle.std.proofs.Common.{◌≡◌, ℕ, ◌-◌, List, Option, None, IfSome, slice_set, sym, ap, subst, ◌∙◌, arith}
use Rattle.image_draft.specs.declared.method_draft.MethodDraft.{MethodDraft}
use Rattle.image_draft.specs.declared.method_slots.MethodSlots.{MethodSlots}
use Rattle.image_draft.specs.MethodSlots.{those_there}
use Rattle.image_draft.proofs.SlotLists.{length-emptied, filter-none}
use Rattle.image_draft.proofs.SlotTables.{is_its, none-unlisted, keeps-emptied}
use Rattle.image_draft.proofs.SlotMethods.{emptied}
use Rattle.image_draft.proofs.method_slots.MethodSlots.remove.Goals as goal

-- the slots after a slot of other slots is written, which are those of the first
slots_of : (s u : MethodSlots) (slots : List (Option MethodDraft)) (k : ℕ) → u ≡ record s { places = u.places } → slots ≡ slice_set u.slots.items k None → slots ≡ slice_set s.slots.items k None
slots_of s u slots k rest e = e ∙ ap (λ (x : MethodSlots). slice_set x.slots.items k None) rest

count_of : (s u : MethodSlots) → u ≡ record s { places = u.places } → u.count ≡ s.count
count_of s u rest = ap (λ (x : MethodSlots). x.count) rest

pub overflow_sub-self : goal.overflow_sub-self
overflow_sub-self c =
    let f = c.requires.found c.args.key c.in-Some.place (sym c.unlist.ensures.place ∙ c.in-Some.is) in
    omega (arith, count_of c.args.self.now c.unlist.new.self c.unlist.ensures.rest, c.requires.counted, length-emptied c.args.self.now.slots.items c.in-Some.place f.0 f.1)

pub returns-in-Some-clause-removed : goal.returns-in-Some-clause-removed
returns-in-Some-clause-removed c =
    let place = sym c.unlist.ensures.place ∙ c.in-Some.is in
    let f = c.requires.found c.args.key c.in-Some.place place in
    ap those_there (slots_of c.args.self.now c.unlist.new.self c.set_slot.new.slots.items c.in-Some.place c.unlist.ensures.rest c.set_slot.ensures)
    ∙ emptied c.args.self.now c.requires c.args.key c.in-Some.place f.0 place f.1 f.2

pub returns-in-Some-clause-emptied : goal.returns-in-Some-clause-emptied
returns-in-Some-clause-emptied c =
    subst (λ (o : Option ℕ). IfSome o (λ k. c.set_slot.new.slots.items ≡ slice_set c.args.self.now.slots.items k None)) (sym (sym c.unlist.ensures.place ∙ c.in-Some.is))
    (slots_of c.args.self.now c.unlist.new.self c.set_slot.new.slots.items c.in-Some.place c.unlist.ensures.rest c.set_slot.ensures)

pub returns-in-Some-clause-keeps : goal.returns-in-Some-clause-keeps
returns-in-Some-clause-keeps c =
    let place = sym c.unlist.ensures.place ∙ c.in-Some.is in
    let f = c.requires.found c.args.key c.in-Some.place place in
    let u : MethodSlots = c.unlist.new.self in
    keeps-emptied c.args.self.now (record u { slots = c.set_slot.new.slots; count = u.count - 1 }) c.args.key c.in-Some.place c.requires place
    (slots_of c.args.self.now u c.set_slot.new.slots.items c.in-Some.place c.unlist.ensures.rest c.set_slot.ensures)
    c.unlist.ensures.unlisted
    (omega (arith, count_of c.args.self.now u c.unlist.ensures.rest, c.requires.counted, length-emptied c.args.self.now.slots.items c.in-Some.place f.0 f.1))

pub returns-in_default-clause-removed : goal.returns-in_default-clause-removed
returns-in_default-clause-removed c =
    ap (λ (x : MethodSlots). those_there x.slots.items) c.unlist.ensures.rest
    ∙ sym (filter-none (is_its c.args.key) c.args.self.now.slots.items (none-unlisted c.args.self.now c.requires c.args.key (sym c.unlist.ensures.place ∙ c.in_default.is)))
