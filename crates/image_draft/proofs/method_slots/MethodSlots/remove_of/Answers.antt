use Rattle.std.proofs.Common.{◌≡◌, ℕ, ◌+◌, ◌<◌, ◌≤◌, suc, length, ap, subst, ◌∙◌, arith}
use Rattle.image_draft.specs.MethodSlots.{those_there, without_its}
use Rattle.image_draft.proofs.SlotLists.{changed_before, changed-step, changed-all}
use Rattle.image_draft.proofs.SlotMethods.{those-without}
use Rattle.image_draft.proofs.method_slots.MethodSlots.remove_of.Goals as goal

next_place : (k : ℕ) → suc k ≡ k + 1
next_place k = omega arith

pub loop-place-preserved : goal.loop-place-preserved
loop-place-preserved c =
    let within : c.loop-place.place < length c.args.self.now.slots.items = omega (arith, c.loop-place-test.true, c.len-place-end.ensures, c.args.self.now.slots.ok.0) in (
      c.clear_at.ensures.keeps,
      subst (λ (n : ℕ). c.clear_at.new.self.slots.items ≡ changed_before (without_its c.args.class) c.args.self.now.slots.items n) (next_place c.loop-place.place)
          (changed-step (without_its c.args.class) c.args.self.now.slots.items c.loop-place.self.slots.items c.clear_at.new.self.slots.items c.loop-place.place within c.loop-place.invariant.1 c.clear_at.ensures.cleared),
    )

pub returns-clause-removed : goal.returns-clause-removed
returns-clause-removed c =
    let past : length c.args.self.now.slots.items ≤ c.loop-place.place = omega (arith, c.loop-place-test.false, c.len-place-end.ensures, c.args.self.now.slots.ok.0) in
    ap those_there (c.loop-place.invariant.1 ∙ changed-all (without_its c.args.class) c.args.self.now.slots.items c.loop-place.place past)
    ∙ those-without c.args.class c.args.self.now.slots.items
