use Rattle.std.proofs.Common.{◌≡◌, Option, IfSome, slice_get, subst}
use Rattle.image_draft.specs.declared.method_slots.MethodKey.{MethodKey}
use Rattle.image_draft.proofs.SlotMethods.{key_if_its, cleared-some, cleared-none}
use Rattle.image_draft.proofs.method_slots.MethodSlots.clear_at.Goals as goal

pub returns-in-Some-clause-cleared : goal.returns-in-Some-clause-cleared
returns-in-Some-clause-cleared c =
    cleared-some c.args.self.now c.requires.keeps c.args.place c.args.class c.in-Some.key c.remove.new.self.slots.items
    (subst (λ (o : Option MethodKey). IfSome (slice_get c.args.self.now.slots.items c.args.place) (λ slot. o ≡ key_if_its c.args.class slot)) c.in-Some.is c.key_at.ensures) c.remove.ensures.emptied

pub returns-in_default-clause-cleared : goal.returns-in_default-clause-cleared
returns-in_default-clause-cleared c =
    cleared-none c.args.self.now.slots.items c.args.place c.args.class
    (subst (λ (o : Option MethodKey). IfSome (slice_get c.args.self.now.slots.items c.args.place) (λ slot. o ≡ key_if_its c.args.class slot)) c.in_default.is c.key_at.ensures)
