use Rattle.std.proofs.Common.{Bool, cond, List, map, Option, Some, None, is_some, refl, sym, ap, ◌∙◌, arith}
use Rattle.std.proofs.lemmas.Option.{slice_get_within}
use Rattle.file_model.specs.Causes.{KernelReplaced}
use Rattle.image_draft.specs.declared.method_draft.MethodDraft.{MethodDraft}
use Rattle.image_draft.specs.declared.method_slots.MethodSlots.{MethodSlots}
use Rattle.image_draft.specs.Entries.{entry_of}
use Rattle.image_draft.specs.MethodSlots.{key_of, those_there}
use Rattle.image_draft.proofs.SlotTables.{keeps-replaced}
use Rattle.image_draft.proofs.SlotMethods.{entries_in, refusals-at, has-listed, replaced, with-again}
use Rattle.image_draft.proofs.method_slots.MethodSlots.put_at.Goals as goal

pub returns-then-is_kernel_at-clause-cause : goal.returns-then-is_kernel_at-clause-cause
returns-then-is_kernel_at-clause-cause c =
    sym (refusals-at c.args.self.now c.requires.keeps c.args.method c.args.place c.requires.there c.is_kernel_at.result c.is_kernel_at.ensures ∙ ap (λ (b : Bool). cond b (Some KernelReplaced) None) c.if-is_kernel_at.true)

pub returns-then-is_kernel_at-clause-some : goal.returns-then-is_kernel_at-clause-some
returns-then-is_kernel_at-clause-some c =
    sym (ap is_some (refusals-at c.args.self.now c.requires.keeps c.args.method c.args.place c.requires.there c.is_kernel_at.result c.is_kernel_at.ensures ∙ ap (λ (b : Bool). cond b (Some KernelReplaced) None) c.if-is_kernel_at.true))

pub set_slot-requires : goal.set_slot-requires
set_slot-requires c =
    let f = c.requires.keeps.found (key_of c.args.method) c.args.place c.requires.there in
    omega (arith, slice_get_within c.args.self.now.slots.items c.args.place (Some f.0) f.1, c.args.self.now.slots.ok.0)

pub returns-clause-cause : goal.returns-clause-cause
returns-clause-cause c =
    sym (refusals-at c.args.self.now c.requires.keeps c.args.method c.args.place c.requires.there c.is_kernel_at.result c.is_kernel_at.ensures ∙ ap (λ (b : Bool). cond b (Some KernelReplaced) None) c.if-is_kernel_at.false)

pub returns-clause-some : goal.returns-clause-some
returns-clause-some c =
    sym (ap is_some (refusals-at c.args.self.now c.requires.keeps c.args.method c.args.place c.requires.there c.is_kernel_at.result c.is_kernel_at.ensures ∙ ap (λ (b : Bool). cond b (Some KernelReplaced) None) c.if-is_kernel_at.false))

pub returns-clause-changed : goal.returns-clause-changed
returns-clause-changed c =
    let s : MethodSlots = c.args.self.now in
    let f = c.requires.keeps.found (key_of c.args.method) c.args.place c.requires.there in
    with-again c.args.method (entries_in s) (map entry_of (those_there c.set_slot.new.slots.items)) (has-listed s c.requires.keeps (key_of c.args.method) c.args.place f.0 c.requires.there f.1 f.2)
    (ap (λ (slots : List (Option MethodDraft)). map entry_of (those_there slots)) c.set_slot.ensures ∙ replaced s c.requires.keeps (key_of c.args.method) c.args.place f.0 c.requires.there f.1 f.2 c.args.method)

pub returns-clause-keeps : goal.returns-clause-keeps
returns-clause-keeps c =
    let f = c.requires.keeps.found (key_of c.args.method) c.args.place c.requires.there in
    let s : MethodSlots = c.args.self.now in
    keeps-replaced s (record s { slots = c.set_slot.new.slots }) c.args.place f.0 c.args.method c.requires.keeps f.1 (sym f.2) c.set_slot.ensures refl refl
