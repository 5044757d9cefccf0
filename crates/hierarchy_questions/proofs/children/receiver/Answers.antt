use Rattle.std.proofs.Common.{rules, ◌≡◌, ◌&&◌, true, false, is_none, Some, option_copied, ap, sym, ◌∙◌}
use Rattle.std.specs.Prelude.{nat_eq}
use Rattle.image_model.specs.Lookup.{own_method}
use Rattle.class_table.specs.View.{class_of, live_at, number_image}
use Rattle.command_model.specs.Hierarchy.{is_child}
use Rattle.hierarchy_questions.specs.Children.{is_receiver}
use Rattle.hierarchy_questions.specs.OwnMethods.{own_slot}
use Rattle.hierarchy_questions.proofs.OwnMethods.{none-same}
use Rattle.hierarchy_questions.proofs.NamesThat.{name-told, test-told}
use Rattle.hierarchy_questions.proofs.children.receiver.Goals as goal
use Rattle.hierarchy_questions.proofs.children.receiver.Goals.{else-is_child-via-then-is_child+else-is_none, else-is_child-via-else-is_child}

pub returns-then-is_none : goal.returns-then-is_none
returns-then-is_none c =
    let s = c.args.image.now in
    let m = c.args.method in
    let rec = c.in_ok-rec.rec.now in
    let told : live_at s.classes s.class_order c.args.id ≡ Some rec = sym c.class_rec.ensures ∙ ap option_copied c.in_ok-rec.was in
    let child : is_child nat_eq m.class (class_of s.classes rec) ≡ true = sym (test-told (is_child nat_eq m.class) s c.args.id rec told) ∙ sym c.is_child.ensures ∙ c.if-is_child.true in
    let none : c.is_none.result ≡ is_none (own_slot s rec.name m.meta m.selector) = search rules in
    let lacks : is_none (own_method nat_eq (number_image s).methods rec.name m.meta m.selector) ≡ true = none-same s c.requires rec.name m.meta m.selector ∙ sym none ∙ c.if-is_none.true in
    name-told (is_receiver (number_image s) m) s c.args.id rec true told (λ i. child i && lacks i)

pub returns-else-is_child : goal.returns-else-is_child
returns-else-is_child c =
    let s = c.args.image.now in
    let m = c.args.method in
    let rec = c.in_ok-rec.rec.now in
    let told : live_at s.classes s.class_order c.args.id ≡ Some rec = sym c.class_rec.ensures ∙ ap option_copied c.in_ok-rec.was in
    let asked = sym (test-told (is_child nat_eq m.class) s c.args.id rec told) ∙ sym c.is_child.ensures in
    elim c.else-is_child.branch [
      | else-is_child-via-then-is_child+else-is_none w ↦
          (let child : is_child nat_eq m.class (class_of s.classes rec) ≡ true = asked ∙ w.if-is_child.true in
          let none : w.is_none.result ≡ is_none (own_slot s rec.name m.meta m.selector) = search rules in
          let lacks : is_none (own_method nat_eq (number_image s).methods rec.name m.meta m.selector) ≡ false = none-same s c.requires rec.name m.meta m.selector ∙ sym none ∙ w.if-is_none.false in
          name-told (is_receiver (number_image s) m) s c.args.id rec false told (λ i. child i && lacks i))
      | else-is_child-via-else-is_child w ↦
          (let child : is_child nat_eq m.class (class_of s.classes rec) ≡ false = asked ∙ w.if-is_child.false in
          name-told (is_receiver (number_image s) m) s c.args.id rec false told (λ i. child i && is_none (own_method nat_eq (number_image s).methods rec.name m.meta m.selector)))
    ]
