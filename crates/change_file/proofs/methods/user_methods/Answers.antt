use Rattle.std.proofs.Common.{ℕ, List, ◌+◌, ◌++◌, ◌∙◌, drop, map, ap, subst}
use Rattle.class_table.specs.Valid.{IsLive}
use Rattle.change_file.specs.declared.methods.SignedMethod.{SignedMethod}
use Rattle.change_file.specs.Shown.{shown_method}
use Rattle.change_file.proofs.ClassLists.{item_at, IsLive-at}
use Rattle.change_file.proofs.MethodLists.{shown_users, method_taken, method_left, methods_end}
use Rattle.change_file.proofs.methods.user_methods.Goals as goal
use Rattle.change_file.proofs.methods.user_methods.Goals.{in-Some+in_ok-push, in_default}

pub signed_method-requires-clause-live : goal.signed_method-requires-clause-live
signed_method-requires-clause-live c =
    subst (λ (order : List ℕ). IsLive order c.slot-item.result) c.methods-slot-items.ensures.value
    (IsLive-at c.methods-slot-items.result.now c.loop-slot.slot-index c.slot-item.result (item_at c.methods-slot-items.result.now c.loop-slot.slot-index c.slot-item.result c.loop-slot-test.true c.slot-item.is))

pub loop-slot-preserved : goal.loop-slot-preserved
loop-slot-preserved c =
    let s = c.args.image.now in
    let items = c.methods-slot-items.result.now in
    let i = c.loop-slot.slot-index in
    let k = c.slot-item.result in
    let at = item_at items i k c.loop-slot-test.true c.slot-item.is in
    let rest = shown_users s (drop (i + 1) items) in
    elim c.match-signed_method.branch [
      | in-Some+in_ok-push w ↦
          ap (λ (ms : List SignedMethod). map shown_method ms ++ rest) (ap (λ v. v.items) w.items-is ∙ w.in_ok-push.ensures.items)
          ∙ method_taken s items i k at c.loop-slot.items.items w.in-Some.item _ w.in-Some.ensures c.loop-slot.invariant
      | in_default w ↦
          ap (λ v. map shown_method v.items ++ rest) w.items-is ∙ method_left s items i k at c.loop-slot.items.items _ w.in_default.ensures c.loop-slot.invariant
    ]

pub returns : goal.returns
returns c =
    methods_end c.args.image.now c.methods-slot-items.result.now c.loop-slot.slot-index c.loop-slot.items.items _ c.loop-slot-test.false c.loop-slot.invariant
    ∙ ap (shown_users c.args.image.now) c.methods-slot-items.ensures.value
