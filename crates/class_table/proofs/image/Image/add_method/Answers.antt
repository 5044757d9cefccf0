use Rattle.std.proofs.Common.{◌≡◌, ℕ, ◌+◌, List, [], ◌∷◌, ◌++◌, length, sym, ap, subst, ◌∙◌}
use Rattle.class_table.specs.declared.record.MethodRec.{MethodRec}
use Rattle.class_table.specs.declared.tables.MethodKey.{MethodKey}
use Rattle.class_table.specs.Order.{OrderOf}
use Rattle.class_table.specs.Tables.{key_of, KnowsMethods, KnowsMethodsWith}
use Rattle.class_table.proofs.OrderLemmas.{length-push}
use Rattle.class_table.proofs.Known.{added_methods}
use Rattle.class_table.proofs.image.Image.add_method.Goals as goal

pub invariant_of-self-in-Ok : goal.invariant_of-self-in-Ok
invariant_of-self-in-Ok c =
    let mine : c.push_in_room.new.items.items ≡ c.self.inside.methods.items ++ c.args.rec ∷ [] = c.push_in_room.ensures.items ∙ ap (λ (rs : List MethodRec). rs ++ c.args.rec ∷ []) c.reserve.ensures.items in
    let listed : c.deref.result.now ≡ c.self.inside.methods.items = c.deref.ensures.value ∙ c.reserve.ensures.items in
    let last : c.in-Ok.slot ≡ length c.self.inside.methods.items = c.in-Ok.ensures.slot ∙ c.self.invariant.method_slots in
    let entered : KnowsMethodsWith c.add-in-Ok.new.self c.self.inside.methods.items c.add.new.self.items c.in-Ok.slot (key_of c.args.rec) =
    (subst (λ (q : MethodKey). KnowsMethodsWith c.add-in-Ok.new.self c.self.inside.methods.items c.add.new.self.items c.in-Ok.slot q) c.of.ensures (subst (λ (rs : List MethodRec). KnowsMethodsWith c.add-in-Ok.new.self rs c.add.new.self.items c.in-Ok.slot c.of.result) listed c.add-in-Ok.ensures)) in
    record {
      method_slots = ap (λ (o : OrderOf). o.slots) c.in-Ok.ensures.ok ∙ ap (λ (n : ℕ). n + 1) c.self.invariant.method_slots ∙ sym (ap length mine ∙ length-push c.self.inside.methods.items c.args.rec);
      class_slots = c.self.invariant.class_slots;
      keys = subst (λ (rs : List MethodRec). KnowsMethods c.add-in-Ok.new.self rs c.add.new.self.items) (sym mine) (added_methods c.add-in-Ok.new.self c.self.inside.methods.items c.add.new.self.items c.in-Ok.slot c.args.rec last entered);
      names = c.self.invariant.names;
    }
