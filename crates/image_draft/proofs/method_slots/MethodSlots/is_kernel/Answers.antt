use Rattle.std.proofs.Common.{◌≡◌, sym, ◌∙◌}
use Rattle.image_draft.specs.declared.method_draft.MethodDraft.{MethodDraft}
use Rattle.image_draft.proofs.SlotMethods.{kernel-unlisted, kernel-listed, at_slot}
use Rattle.image_draft.proofs.method_slots.MethodSlots.is_kernel.Goals as goal

pub returns-in-None : goal.returns-in-None
returns-in-None c = sym (kernel-unlisted c.args.self.now c.requires c.args.key (sym c.place_of.ensures ∙ c.in-None.is))

pub returns-in-Some : goal.returns-in-Some
returns-in-Some c =
    let f = c.requires.found c.args.key c.in-Some.place (sym c.place_of.ensures ∙ c.in-Some.is) in
    at_slot c.args.self.now.slots.items c.in-Some.place f.0 (λ (m : MethodDraft). c.is_kernel_at.result ≡ m.kernel) f.1 c.is_kernel_at.ensures
    ∙ sym (kernel-listed c.args.self.now c.requires c.args.key c.in-Some.place f.0 (sym c.place_of.ensures ∙ c.in-Some.is) f.1 f.2)
