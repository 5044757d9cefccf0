use Rattle.std.proofs.Common.{◌≡◌, ℕ, List, true, is_some, None, Some, sym, ap, subst, ◌∙◌, arith, nat_eq}
use Rattle.std.specs.List.{list_any}
use Rattle.std.specs.HashMap.{get}
use Rattle.class_table.specs.Finding.{same_key}
use Rattle.class_table.proofs.Walks.{none-from_is_some}
use Rattle.class_table.proofs.Held.{take-whole, Some-one}
use Rattle.class_table.proofs.Known.{method_passed, method_filled}
use Rattle.class_table.proofs.tables.method_slots.Goals as goal
use Rattle.class_table.proofs.tables.method_slots.Goals.{in-Some+in_ok-insert+else-is_some, in_default}

pub loop-slot-preserved : goal.loop-slot-preserved
loop-slot-preserved c =
    elim c.match-key_of.branch [
      | in-Some+in_ok-insert+else-is_some w ↦ λ k q l x e.
          let none : get same_key c.loop-slot.slots w.in-Some.key ≡ None = none-from_is_some (get same_key c.loop-slot.slots w.in-Some.key) (ap is_some (sym w.in_ok-insert.ensures.old) ∙ sym w.is_some.ensures ∙ w.if-is_some.false) in
          ap (λ t. get same_key t q) w.slots-is
          ∙ method_filled c.args.methods.now c.args.order.now c.loop-slot.slot-index c.slot-item.result c.loop-slot-test.true c.slot-item.is (get same_key c.loop-slot.slots) c.loop-slot.invariant w.in-Some.key (sym c.key_of.ensures ∙ w.in-Some.is) none _ w.in_ok-insert.ensures.updates.0 k q l x e
      | in_default w ↦ λ k q l x e.
          ap (λ t. get same_key t q) w.slots-is
          ∙ method_passed c.args.methods.now c.args.order.now c.loop-slot.slot-index c.slot-item.result c.loop-slot-test.true c.slot-item.is (get same_key c.loop-slot.slots) c.loop-slot.invariant (sym c.key_of.ensures ∙ w.in_default.is) k q l x e
    ]

pub returns : goal.returns
returns c = λ x e k q l n m.
    subst (λ t. get same_key t q ≡ Some k) (Some-one _ _ e)
    (c.loop-slot.invariant k q (subst (λ (z : List ℕ). list_any (nat_eq k) z ≡ true) (sym (take-whole _ _ (omega (arith, c.loop-slot-test.false)))) l) n m)
