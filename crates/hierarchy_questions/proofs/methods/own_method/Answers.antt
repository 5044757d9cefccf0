use Rattle.std.proofs.Common.{◌≡◌, true, false, cond, ◌&&◌, Some, None, sym, ◌∙◌}
use Rattle.std.specs.Prelude.{nat_eq}
use Rattle.std.specs.Bool.{beq}
use Rattle.class_table.specs.Finding.{named_in}
use Rattle.hierarchy_questions.proofs.OwnMethods.{none-told, own-told}
use Rattle.hierarchy_questions.proofs.methods.own_method.Goals as goal
use Rattle.hierarchy_questions.proofs.methods.own_method.Goals.{in_default-via-in-Some+then-eq+else-method-method_info, in_default-via-in-Some+else-eq, in_default-via-in_default}

pub returns-in_err-slot : goal.returns-in_err-slot
returns-in_err-slot c =
    let s = c.args.image.now in
    let m = c.args.method in
    c.from_residual-in_err-slot.ensures ∙ sym (none-told s m.class c.in_ok-class.class m.meta m.selector (sym c.class_named.ensures ∙ c.in_ok-class.was) (sym c.in_err-slot.ensures))

pub returns-in-Some : goal.returns-in-Some
returns-in-Some c =
    let s = c.args.image.now in
    let m = c.args.method in
    let i = c.in-Some.info in
    let same : nat_eq c.in_ok-class.class i.class ≡ true = sym c.eq.ensures ∙ c.if-eq.true in
    let meta = c.if-method-method_info.true in
    let is : cond (nat_eq c.in_ok-class.class i.class && beq m.meta i.meta) (Some c.in_ok-slot.slot) None ≡ Some c.in_ok-slot.slot = λ j. cond (same j && meta j) (Some c.in_ok-slot.slot) None in
    sym is ∙ own-told s m.class c.in_ok-class.class m.meta m.selector (sym c.class_named.ensures ∙ c.in_ok-class.was) c.in_ok-slot.slot (Some i) (sym c.in_ok-slot.ensures) c.in-Some.ensures

pub returns-in_default : goal.returns-in_default
returns-in_default c =
    let s = c.args.image.now in
    let m = c.args.method in
    let k = c.in_ok-class.class in
    let slot = c.in_ok-slot.slot in
    let named : named_in s.classes s.class_order m.class ≡ Some k = sym c.class_named.ensures ∙ c.in_ok-class.was in
    elim c.in_default.branch [
      | in_default-via-in-Some+then-eq+else-method-method_info w ↦
          (let i = w.in-Some.info in
          let same : nat_eq k i.class ≡ true = sym w.eq.ensures ∙ w.if-eq.true in
          let is : cond (nat_eq k i.class && beq m.meta i.meta) (Some slot) None ≡ None = λ j. cond (same j && w.if-method-method_info.false j) (Some slot) None in
          sym is ∙ own-told s m.class k m.meta m.selector named slot (Some i) (sym c.in_ok-slot.ensures) w.in-Some.ensures)
      | in_default-via-in-Some+else-eq w ↦
          (let i = w.in-Some.info in
          let other : nat_eq k i.class ≡ false = sym w.eq.ensures ∙ w.if-eq.false in
          let is : cond (nat_eq k i.class && beq m.meta i.meta) (Some slot) None ≡ None = λ j. cond (other j && beq m.meta i.meta) (Some slot) None in
          sym is ∙ own-told s m.class k m.meta m.selector named slot (Some i) (sym c.in_ok-slot.ensures) w.in-Some.ensures)
      | in_default-via-in_default w ↦ own-told s m.class k m.meta m.selector named slot None (sym c.in_ok-slot.ensures) w.in_default.ensures
    ]
