use Rattle.std.proofs.Common.{◌≡◌, ◌&&◌, true, false, Some, option_copied, ap, sym, ◌∙◌}
use Rattle.std.specs.Prelude.{nat_eq}
use Rattle.std.specs.List.{list_any}
use Rattle.class_table.specs.View.{class_of, live_at}
use Rattle.command_model.specs.Hierarchy.{is_child}
use Rattle.hierarchy_questions.specs.Children.{is_loser}
use Rattle.hierarchy_questions.proofs.NamesThat.{name-told, test-told}
use Rattle.hierarchy_questions.proofs.children.loser.Goals as goal
use Rattle.hierarchy_questions.proofs.children.loser.Goals.{else-is_child-via-then-is_child+else-defines, else-is_child-via-else-is_child}

pub returns-then-defines : goal.returns-then-defines
returns-then-defines c =
    let s = c.args.image.now in
    let rec = c.in_ok-rec.rec.now in
    let told : live_at s.classes s.class_order c.args.id ≡ Some rec = sym c.class_rec.ensures ∙ ap option_copied c.in_ok-rec.was in
    let child : is_child nat_eq c.args.class (class_of s.classes rec) ≡ true = sym (test-told (is_child nat_eq c.args.class) s c.args.id rec told) ∙ sym c.is_child.ensures ∙ c.if-is_child.true in
    let has : list_any (nat_eq c.args.variable) rec.instance ≡ true = sym (c.defines.ensures s.classes) ∙ c.if-defines.true in
    name-told (is_loser c.args.class c.args.variable) s c.args.id rec true told (λ i. child i && has i)

pub returns-else-is_child : goal.returns-else-is_child
returns-else-is_child c =
    let s = c.args.image.now in
    let rec = c.in_ok-rec.rec.now in
    let told : live_at s.classes s.class_order c.args.id ≡ Some rec = sym c.class_rec.ensures ∙ ap option_copied c.in_ok-rec.was in
    let asked = sym (test-told (is_child nat_eq c.args.class) s c.args.id rec told) ∙ sym c.is_child.ensures in
    elim c.else-is_child.branch [
      | else-is_child-via-then-is_child+else-defines w ↦
          (let child : is_child nat_eq c.args.class (class_of s.classes rec) ≡ true = asked ∙ w.if-is_child.true in
          let has : list_any (nat_eq c.args.variable) rec.instance ≡ false = sym (w.defines.ensures s.classes) ∙ w.if-defines.false in
          name-told (is_loser c.args.class c.args.variable) s c.args.id rec false told (λ i. child i && has i))
      | else-is_child-via-else-is_child w ↦
          (let child : is_child nat_eq c.args.class (class_of s.classes rec) ≡ false = asked ∙ w.if-is_child.false in
          name-told (is_loser c.args.class c.args.variable) s c.args.id rec false told (λ i. child i && list_any (nat_eq c.args.variable) rec.instance))
    ]
