-- A change and the change back.
use Rattle.std.proofs.Common.{◌≡◌, ℕ, ◌<◌, true, List, Option, Some, option_map, is_some, slice_get, unwrap_or, sym, ap, subst, ◌∙◌, arith}
use Rattle.std.specs.Option.{option_and_then}
use Rattle.std.proofs.lemmas.Option.{slice_get_within}
use Rattle.tree_model.specs.Tree.{TreeOf}
use Rattle.class_table.specs.declared.record.ClassRec.{ClassRec}
use Rattle.class_table.specs.declared.record.MethodRec.{MethodRec}
use Rattle.class_table.specs.declared.record.DoIt.{DoIt}
use Rattle.class_table.specs.declared.record.Slot.{Slot}
use Rattle.class_table.specs.declared.record.Slot.TheVariants as slot
use Rattle.class_table.specs.declared.record.Place.{Place}
use Rattle.class_table.specs.declared.record.Place.TheVariants as place
use Rattle.class_table.specs.Order.{IsOrderOf}
use Rattle.class_table.specs.Slots.{Slots}
use Rattle.class_table.specs.View.{live_at}
use Rattle.class_table.specs.Valid.{IsLive}
use Rattle.class_table.specs.Changing.{HasSlot, HasRoomAt, changed_at, former_place, with_live, source_in}
use Rattle.class_table.proofs.OrderLemmas.{get-set_same, length-set}
use Rattle.class_table.proofs.Live.{there}
use Rattle.image_laws.specs.Orders.{HasOrders}
use Rattle.image_laws.proofs.Lists.{set-back}
use Rattle.image_laws.proofs.Orders.{live-back, live-room, live-place, live-orders}
use Rattle.change_set.specs.declared.change.Change.{Change}
use Rattle.change_set.specs.declared.change.Change.TheVariants as change
use Rattle.change_set.specs.Code.{node_of, node_in, method_with, doit_with}
use Rattle.change_set.specs.Change.{applied, inverse, CanApply, LeadsBack}
use Rattle.change_set.proofs.Lists.{get-twice, twice-back, length-changed_at, live_at-some, live_at-holds}
use Rattle.change_set.proofs.Nodes.{node-there, node-back, HasNode, has_node}

module _ (s : Slots) where
  -- a class that is swapped, and swapped back; the same of a method and a do-it
  class-back : (k : ℕ) (former rec : ClassRec) → slice_get s.classes k ≡ Some former → LeadsBack s (change.Class k rec) (change.Class k former)
  class-back k former rec e =
      let within = slice_get_within s.classes k former e in
      record {
        can = omega (arith, within, length-set s.classes k rec);
        image = ap (λ (xs : List ClassRec). record s { classes = xs }) (set-back s.classes k former rec e);
        again = ap (λ (o : Option ClassRec). change.Class k (unwrap_or o former)) (get-set_same s.classes k rec within);
      }

  method-back : (k : ℕ) (former rec : MethodRec) → slice_get s.methods k ≡ Some former → LeadsBack s (change.Method k rec) (change.Method k former)
  method-back k former rec e =
      let within = slice_get_within s.methods k former e in
      record {
        can = omega (arith, within, length-set s.methods k rec);
        image = ap (λ (xs : List MethodRec). record s { methods = xs }) (set-back s.methods k former rec e);
        again = ap (λ (o : Option MethodRec). change.Method k (unwrap_or o former)) (get-set_same s.methods k rec within);
      }

  doit-back : (n : ℕ) (former rec : DoIt) → slice_get s.doits n ≡ Some former → LeadsBack s (change.DoIt n rec) (change.DoIt n former)
  doit-back n former rec e =
      let within = slice_get_within s.doits n former e in
      record {
        can = omega (arith, within, length-set s.doits n rec);
        image = ap (λ (xs : List DoIt). record s { doits = xs }) (set-back s.doits n former rec e);
        again = ap (λ (o : Option DoIt). change.DoIt n (unwrap_or o former)) (get-set_same s.doits n rec within);
      }

  -- a slot that is moved, and moved back
  slot-there : (what : Slot) (at : Option ℕ) → HasSlot s what → HasSlot (with_live s what at) what
  slot-there (slot.Class id) at h = h
  slot-there (slot.Method k) at h = h

  live-leads_back : (what : Slot) (at : Option ℕ) → HasOrders s → HasSlot s what → HasRoomAt s what at → LeadsBack s (change.Live what at) (change.Live what (former_place s what))
  live-leads_back what at orders h room = record {
    can = (slot-there what at h, live-room s orders what at);
    image = live-back s orders what at;
    again = ap (λ (o : Option ℕ). change.Live what o) (live-place s orders what at room);
  }

  module _ (path : List ℕ) (old t : TreeOf ℕ) (text : List ℕ) where
    -- a node and the source of a method that are swapped, and swapped back
    method_part-back : (k : ℕ) (m : MethodRec) → IsLive s.method_order k → slice_get s.methods k ≡ Some m → node_of path m.tree.body ≡ Some old
        → LeadsBack s (change.Part (place.Method k) path t text) (change.Part (place.Method k) path old m.source)
    method_part-back k m live e found =
        let f = method_with path t in
        let g : MethodRec → MethodRec = λ x. record x { source = text } in
        let h = method_with path old in
        let j : MethodRec → MethodRec = λ x. record x { source = m.source } in
        let now = get-twice f g s.methods k m e in
        let there_now = live_at-some (changed_at g (changed_at f s.methods k) k) s.method_order k (g (f m)) live now in
        let node : node_in (applied s (change.Part (place.Method k) path t text)) (place.Method k) path ≡ Some t =
        ap (λ (o : Option MethodRec). option_and_then (node_of path) (option_map (λ (x : MethodRec). x.tree.body) o)) there_now ∙ node-there path m.tree.body old t found in
        let source : source_in (applied s (change.Part (place.Method k) path t text)) (place.Method k) ≡ Some text = ap (option_map (λ (x : MethodRec). x.source)) now in
        record {
          can = ap is_some node;
          image = ap (λ (xs : List MethodRec). record s { methods = xs }) (twice-back f g s.methods k m e h j (λ i. record m { tree = record m.tree { body = node-back path m.tree.body old t found i } }));
          again = λ i. change.Part (place.Method k) path (unwrap_or (node i) old) (unwrap_or (source i) m.source);
        }

    -- the same of a do-it
    doit_part-back : (n : ℕ) (d : DoIt) → slice_get s.doits n ≡ Some d → node_of path d.body ≡ Some old
        → LeadsBack s (change.Part (place.DoIt n) path t text) (change.Part (place.DoIt n) path old d.source)
    doit_part-back n d e found =
        let f = doit_with path t in
        let g : DoIt → DoIt = λ x. record x { source = text } in
        let h = doit_with path old in
        let j : DoIt → DoIt = λ x. record x { source = d.source } in
        let now = get-twice f g s.doits n d e in
        let node : node_in (applied s (change.Part (place.DoIt n) path t text)) (place.DoIt n) path ≡ Some t =
        ap (λ (o : Option DoIt). option_and_then (node_of path) (option_map (λ (x : DoIt). x.body) o)) now ∙ node-there path d.body old t found in
        let source : source_in (applied s (change.Part (place.DoIt n) path t text)) (place.DoIt n) ≡ Some text = ap (option_map (λ (x : DoIt). x.source)) now in
        record {
          can = ap is_some node;
          image = ap (λ (xs : List DoIt). record s { doits = xs }) (twice-back f g s.doits n d e h j (λ i. record d { body = node-back path d.body old t found i }));
          again = λ i. change.Part (place.DoIt n) path (unwrap_or (node i) old) (unwrap_or (source i) d.source);
        }

  part-back : (at : Place) (path : List ℕ) (t : TreeOf ℕ) (text : List ℕ) → is_some (node_in s at path) ≡ true → LeadsBack s (change.Part at path t text) (inverse s (change.Part at path t text))
  part-back (place.Method k) path t text h =
      let found : HasNode (λ (m : MethodRec). m.tree.body) path (live_at s.methods s.method_order k) = has_node (λ (m : MethodRec). m.tree.body) path (live_at s.methods s.method_order k) h in
      let holds = live_at-holds s.methods s.method_order k found.item found.is in
      let node : node_in s (place.Method k) path ≡ Some found.node =
      ap (λ (o : Option MethodRec). option_and_then (node_of path) (option_map (λ (m : MethodRec). m.tree.body) o)) found.is ∙ found.there in
      let source : source_in s (place.Method k) ≡ Some found.item.source = ap (option_map (λ (m : MethodRec). m.source)) holds.stands in
      let is : inverse s (change.Part (place.Method k) path t text) ≡ change.Part (place.Method k) path found.node found.item.source =
      λ i. change.Part (place.Method k) path (unwrap_or (node i) t) (unwrap_or (source i) text) in
      subst (λ (b : Change). LeadsBack s (change.Part (place.Method k) path t text) b) (sym is) (method_part-back path found.node t text k found.item holds.live holds.stands found.there)
  part-back (place.DoIt n) path t text h =
      let found : HasNode (λ (d : DoIt). d.body) path (slice_get s.doits n) = has_node (λ (d : DoIt). d.body) path (slice_get s.doits n) h in
      let node : node_in s (place.DoIt n) path ≡ Some found.node =
      ap (λ (o : Option DoIt). option_and_then (node_of path) (option_map (λ (d : DoIt). d.body) o)) found.is ∙ found.there in
      let source : source_in s (place.DoIt n) ≡ Some found.item.source = ap (option_map (λ (d : DoIt). d.source)) found.is in
      let is : inverse s (change.Part (place.DoIt n) path t text) ≡ change.Part (place.DoIt n) path found.node found.item.source =
      λ i. change.Part (place.DoIt n) path (unwrap_or (node i) t) (unwrap_or (source i) text) in
      subst (λ (b : Change). LeadsBack s (change.Part (place.DoIt n) path t text) b) (sym is) (doit_part-back path found.node t text n found.item found.is found.there)

  -- each change leads back
  pub leads_back : (c : Change) → HasOrders s → CanApply s c → LeadsBack s c (inverse s c)
  leads_back (change.Class id rec) orders can =
      let found = there s.classes id can in
      subst (λ (b : Change). LeadsBack s (change.Class id rec) b) (sym (ap (λ (o : Option ClassRec). change.Class id (unwrap_or o rec)) found.1)) (class-back id found.0 rec found.1)
  leads_back (change.Method k rec) orders can =
      let found = there s.methods k can in
      subst (λ (b : Change). LeadsBack s (change.Method k rec) b) (sym (ap (λ (o : Option MethodRec). change.Method k (unwrap_or o rec)) found.1)) (method-back k found.0 rec found.1)
  leads_back (change.DoIt n doit) orders can =
      let found = there s.doits n can in
      subst (λ (b : Change). LeadsBack s (change.DoIt n doit) b) (sym (ap (λ (o : Option DoIt). change.DoIt n (unwrap_or o doit)) found.1)) (doit-back n found.0 doit found.1)
  leads_back (change.Part at path part source) orders can = part-back at path part source can
  leads_back (change.Live what at) orders can = live-leads_back what at orders can.0 can.1

  -- the orders with other slots, as many
  same-slots : (items : List ℕ) (m n : ℕ) → m ≡ n → IsOrderOf (record { items = items; slots = n }) → IsOrderOf (record { items = items; slots = m })
  same-slots items m n e o = record { distinct = o.distinct; below = λ k l. (let less : k < n = o.below k l in omega (arith, less, e)) }

  -- the orders after a change
  pub orders-applied : (c : Change) → HasOrders s → CanApply s c → HasOrders (applied s c)
  orders-applied (change.Class id rec) orders can = record { classes = same-slots s.class_order _ _ (length-set s.classes id rec) orders.classes; methods = orders.methods }
  orders-applied (change.Method k rec) orders can = record { classes = orders.classes; methods = same-slots s.method_order _ _ (length-set s.methods k rec) orders.methods }
  orders-applied (change.DoIt n doit) orders can = record { classes = orders.classes; methods = orders.methods }
  orders-applied (change.Part (place.Method k) path part source) orders can = record {
    classes = orders.classes;
    methods = same-slots s.method_order _ _ (length-changed_at (λ (m : MethodRec). record m { source = source }) (changed_at (method_with path part) s.methods k) k ∙ length-changed_at (method_with path part) s.methods k) orders.methods;
  }
  orders-applied (change.Part (place.DoIt n) path part source) orders can = record { classes = orders.classes; methods = orders.methods }
  orders-applied (change.Live what at) orders can = live-orders s orders what at can.0
