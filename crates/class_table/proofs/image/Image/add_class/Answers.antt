use Rattle.std.proofs.Common.{◌≡◌, ℕ, ◌+◌, List, [], ◌∷◌, ◌++◌, length, sym, ap, subst, ◌∙◌}
use Rattle.class_table.specs.declared.record.ClassRec.{ClassRec}
use Rattle.class_table.specs.Order.{OrderOf}
use Rattle.class_table.specs.Tables.{KnowsClasses, KnowsClassesWith}
use Rattle.class_table.proofs.OrderLemmas.{length-push}
use Rattle.class_table.proofs.Known.{added_classes}
use Rattle.class_table.proofs.image.Image.add_class.Goals as goal

pub invariant_of-self-in-Ok : goal.invariant_of-self-in-Ok
invariant_of-self-in-Ok c =
    let mine : c.push_in_room.new.items.items ≡ c.self.inside.classes.items ++ c.args.rec ∷ [] = c.push_in_room.ensures.items ∙ ap (λ (rs : List ClassRec). rs ++ c.args.rec ∷ []) c.reserve.ensures.items in
    let listed : c.deref.result.now ≡ c.self.inside.classes.items = c.deref.ensures.value ∙ c.reserve.ensures.items in
    let last : c.in-Ok.id ≡ length c.self.inside.classes.items = c.in-Ok.ensures.slot ∙ c.self.invariant.class_slots in
    let entered : KnowsClassesWith c.enter.new.self c.self.inside.classes.items c.add.new.self.items c.in-Ok.id c.args.rec.name =
    (subst (λ (rs : List ClassRec). KnowsClassesWith c.enter.new.self rs c.add.new.self.items c.in-Ok.id c.args.rec.name) listed c.enter.ensures) in
    record {
      class_slots = ap (λ (o : OrderOf). o.slots) c.in-Ok.ensures.ok ∙ ap (λ (n : ℕ). n + 1) c.self.invariant.class_slots ∙ sym (ap length mine ∙ length-push c.self.inside.classes.items c.args.rec);
      method_slots = c.self.invariant.method_slots;
      names = subst (λ (rs : List ClassRec). KnowsClasses c.enter.new.self rs c.add.new.self.items) (sym mine) (added_classes c.enter.new.self c.self.inside.classes.items c.add.new.self.items c.in-Ok.id c.args.rec last entered);
      keys = c.self.invariant.keys;
    }
