use Rattle.std.proofs.Common.{◌≡◌, ◌+◌, false, cond, length, Some, Result, Ok, Err, OnOk, is_err, sym, ap, ◌∙◌, arith, true≢false}
use Rattle.std.specs.HashMap.{get}
use Rattle.image_draft.specs.declared.method_slots.MethodSlots.{MethodSlots}
use Rattle.image_draft.specs.MethodSlots.{same_key, those_there}
use Rattle.image_draft.proofs.SlotLists.{there-last}
use Rattle.image_draft.proofs.SlotTables.{keeps-last}
use Rattle.image_draft.proofs.method_slots.MethodSlots.add.Goals as goal

-- what is said of an answer that is no error
on_ok : {X E P : Type 0} (answer : Result X E) → is_err answer ≡ false → OnOk answer P → P
on_ok (Ok x) e p = p
on_ok (Err x) e p = absurd (true≢false e)

pub returns-clause-added : goal.returns-clause-added
returns-clause-added c =
    ap (λ (x : MethodSlots). those_there x.slots.items) c.list.ensures.rest ∙ ap those_there c.in_ok-push_slot.ensures.pushed ∙ there-last c.args.self.now.slots.items c.args.method

pub returns-clause-keeps : goal.returns-clause-keeps
returns-clause-keeps c =
    let s : MethodSlots = c.args.self.now in
    let t : MethodSlots = c.list.new.self in
    let place : c.len-place.result ≡ length s.slots.items = omega (arith, c.len-place.ensures, s.slots.ok.0) in
    let listed = on_ok c.list.result (sym c.is_err.ensures.value ∙ c.if-is_err.false) c.list.ensures.listed in
    keeps-last s (record t { count = t.count + 1 }) c.args.key c.args.method c.requires.keeps c.requires.is_new c.requires.its
    (ap (λ (x : MethodSlots). x.slots.items) c.list.ensures.rest ∙ c.in_ok-push_slot.ensures.pushed)
    (λ q. listed q ∙ (λ i. cond (same_key c.args.key q) (Some (place i)) (ap (λ (x : MethodSlots). get same_key x.places q) c.push_slot.ensures.rest i)))
    (ap (λ (x : MethodSlots). x.count + 1) c.list.ensures.rest ∙ ap (λ (x : MethodSlots). x.count + 1) c.push_slot.ensures.rest)
