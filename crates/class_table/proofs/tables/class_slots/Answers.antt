use Rattle.std.proofs.Common.{◌≡◌, ℕ, List, true, is_some, None, Some, sym, ap, subst, ◌∙◌, arith, nat_eq}
use Rattle.std.specs.List.{list_any}
use Rattle.std.specs.HashMap.{get}
use Rattle.class_table.proofs.Walks.{none-from_is_some}
use Rattle.class_table.proofs.Held.{take-whole, Some-one}
use Rattle.class_table.proofs.Known.{class_passed, class_filled}
use Rattle.class_table.proofs.tables.class_slots.Goals as goal
use Rattle.class_table.proofs.tables.class_slots.Goals.{in-Some+in_ok-insert+else-is_some, in_default}

pub loop-id-preserved : goal.loop-id-preserved
loop-id-preserved c =
    elim c.match-name_of.branch [
      | in-Some+in_ok-insert+else-is_some w ↦ λ k q l x e.
          let none : get nat_eq c.loop-id.slots w.name.inside.0 ≡ None = none-from_is_some (get nat_eq c.loop-id.slots w.name.inside.0) (ap is_some (sym w.in_ok-insert.ensures.old) ∙ sym w.is_some.ensures ∙ w.if-is_some.false) in
          ap (λ t. get nat_eq t q) w.slots-is
          ∙ class_filled c.args.classes.now c.args.order.now c.loop-id.id-index c.id-item.result c.loop-id-test.true c.id-item.is (get nat_eq c.loop-id.slots) c.loop-id.invariant w.name.inside.0 (sym c.name_of.ensures ∙ w.in-Some.is ∙ ap Some (sym w.name.view_is)) none _ w.in_ok-insert.ensures.updates.0 k q l x e
      | in_default w ↦ λ k q l x e.
          ap (λ t. get nat_eq t q) w.slots-is
          ∙ class_passed c.args.classes.now c.args.order.now c.loop-id.id-index c.id-item.result c.loop-id-test.true c.id-item.is (get nat_eq c.loop-id.slots) c.loop-id.invariant (sym c.name_of.ensures ∙ w.in_default.is) k q l x e
    ]

pub returns : goal.returns
returns c = λ x e k q l n m.
    subst (λ t. get nat_eq t q ≡ Some k) (Some-one _ _ e)
    (c.loop-id.invariant k q (subst (λ (z : List ℕ). list_any (nat_eq k) z ≡ true) (sym (take-whole _ _ (omega (arith, c.loop-id-test.false)))) l) n m)
