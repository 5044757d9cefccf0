use Rattle.std.proofs.Common.{ℕ, List, None, nat_eq, sym, ap, subst, ◌∙◌}
use Rattle.std.specs.HashMap.{get}
use Rattle.class_table.specs.declared.record.ClassRec.{ClassRec}
use Rattle.class_table.specs.declared.record.MethodRec.{MethodRec}
use Rattle.class_table.specs.Order.{OrderOf}
use Rattle.class_table.specs.View.{class_name}
use Rattle.class_table.specs.Finding.{same_key, key_in}
use Rattle.class_table.specs.Tables.{HoldsSlots, IsPlaced}
use Rattle.class_table.proofs.Held.{None-Some}
use Rattle.class_table.proofs.Known.{placed_at}
use Rattle.class_table.proofs.image.Image.set_live.Goals as goal

pub invariant_of-self : goal.invariant_of-self
invariant_of-self c =
    record {
      class_slots = ap (λ (o : OrderOf). o.slots) c.set_live.ensures.order ∙ c.self.invariant.class_slots;
      method_slots = c.self.invariant.method_slots;
      names = λ r. subst (λ (rs : List ClassRec). HoldsSlots (get nat_eq c.place.new.self.slots) (class_name rs) c.set_live.new.self.items None) c.deref.ensures.value
          (c.place.ensures r c.set_live.new.self.items
          (subst (λ (o : List ℕ). IsPlaced o c.self.inside.class_order.items c.in-Class.id c.args.place) (sym (ap (λ (o : OrderOf). o.items) c.set_live.ensures.order)) (placed_at c.in-Class.id c.args.place c.self.inside.class_order.items)));
      keys = c.self.invariant.keys;
    }

pub invariant_of-self-in-Method : goal.invariant_of-self-in-Method
invariant_of-self-in-Method c =
    record {
      class_slots = c.self.invariant.class_slots;
      method_slots = ap (λ (o : OrderOf). o.slots) c.set_live-in-Method.ensures.order ∙ c.self.invariant.method_slots;
      names = c.self.invariant.names;
      keys = λ r k q l x. subst (λ (rs : List MethodRec). HoldsSlots (get same_key c.place-in-Method.new.self.slots) (key_in rs) c.set_live-in-Method.new.self.items None) c.deref-in-Method.ensures.value
          (c.place-in-Method.ensures r c.set_live-in-Method.new.self.items
          (subst (λ (o : List ℕ). IsPlaced o c.self.inside.method_order.items c.in-Method.slot c.args.place) (sym (ap (λ (o : OrderOf). o.items) c.set_live-in-Method.ensures.order)) (placed_at c.in-Method.slot c.args.place c.self.inside.method_order.items))) k q l (λ e. None-Some k e);
    }
