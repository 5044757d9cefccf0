-- A change of slots with further ones at the ends.
use Rattle.std.proofs.Common.{◌≡◌, ℕ, true, List, Option, Some, option_map, is_some, slice_get, unwrap_or, refl, ap, ◌∙◌}
use Rattle.std.specs.Option.{option_and_then}
use Rattle.std.proofs.lemmas.List.{set-append_left}
use Rattle.tree_model.specs.Tree.{TreeOf}
use Rattle.class_table.specs.declared.record.ClassRec.{ClassRec}
use Rattle.class_table.specs.declared.record.MethodRec.{MethodRec}
use Rattle.class_table.specs.declared.record.Slot.{Slot}
use Rattle.class_table.specs.declared.record.Slot.TheVariants as slot
use Rattle.class_table.specs.declared.record.Place.TheVariants as place
use Rattle.class_table.specs.Slots.{Slots}
use Rattle.class_table.specs.View.{live_at}
use Rattle.class_table.specs.Changing.{HasSlot, HasRoomAt, source_in}
use Rattle.change_set.specs.declared.change.Change.{Change}
use Rattle.change_set.specs.declared.change.Change.TheVariants as change
use Rattle.change_set.specs.Code.{node_of, node_in, method_with}
use Rattle.change_set.specs.Change.{applied, inverse, CanApply}
use Rattle.change_set.proofs.Lists.{live_at-holds}
use Rattle.change_set.proofs.Nodes.{HasNode, has_node}
use Rattle.wider_slots.specs.Wider.{More, widened}
use Rattle.wider_slots.proofs.Append.{get-append, get-still, live_at-still, changed_twice-append, further}

module _ (more : More) (s : Slots) where
  module _ (k : ℕ) (path : List ℕ) (h : is_some (node_in s (place.Method k) path) ≡ true) where
    found : HasNode (λ (m : MethodRec). m.tree.body) path (live_at s.methods s.method_order k)
    found = has_node (λ (m : MethodRec). m.tree.body) path (live_at s.methods s.method_order k) h

    stands : slice_get s.methods k ≡ Some found.item
    stands = (live_at-holds s.methods s.method_order k found.item found.is).stands

    -- the node where a path into a method leads
    node-still : node_in (widened more s) (place.Method k) path ≡ node_in s (place.Method k) path
    node-still = ap (λ (o : Option MethodRec). option_and_then (node_of path) (option_map (λ (m : MethodRec). m.tree.body) o)) (live_at-still s.methods more.methods k found.item stands s.method_order)

    -- its source
    source-still : source_in (widened more s) (place.Method k) ≡ source_in s (place.Method k)
    source-still = ap (option_map (λ (m : MethodRec). m.source)) (get-still s.methods more.methods k found.item stands)

    -- another node there, and another source
    part-still : (part : TreeOf ℕ) (source : List ℕ) → applied (widened more s) (change.Part (place.Method k) path part source) ≡ widened more (applied s (change.Part (place.Method k) path part source))
    part-still part source =
        ap (λ (xs : List MethodRec). record (widened more s) { methods = xs }) (changed_twice-append s.methods more.methods k found.item stands (method_with path part) (λ (m : MethodRec). record m { source = source }))

  -- a slot that is there still is
  slot-still : (what : Slot) → HasSlot s what → HasSlot (widened more s) what
  slot-still (slot.Class id) h = further s.classes more.classes id h
  slot-still (slot.Method k) h = further s.methods more.methods k h

  room-still : (what : Slot) (at : Option ℕ) → HasRoomAt s what at → HasRoomAt (widened more s) what at
  room-still (slot.Class id) at h = h
  room-still (slot.Method k) at h = h

  -- what can be applied still can
  pub can-still : (c : Change) → CanApply s c → CanApply (widened more s) c
  can-still (change.Class id rec) h = further s.classes more.classes id h
  can-still (change.Method k rec) h = further s.methods more.methods k h
  can-still (change.DoIt n doit) h = h
  can-still (change.Part (place.Method k) path part source) h = ap is_some (node-still k path h) ∙ h
  can-still (change.Part (place.DoIt n) path part source) h = h
  can-still (change.Live what at) h = (slot-still what h.0, room-still what at h.1)

  -- with the same result, but for the further slots
  pub applied-still : (c : Change) → CanApply s c → applied (widened more s) c ≡ widened more (applied s c)
  applied-still (change.Class id rec) h = ap (λ (xs : List ClassRec). record (widened more s) { classes = xs }) (set-append_left s.classes more.classes id rec h)
  applied-still (change.Method k rec) h = ap (λ (xs : List MethodRec). record (widened more s) { methods = xs }) (set-append_left s.methods more.methods k rec h)
  applied-still (change.DoIt n doit) h = refl
  applied-still (change.Part (place.Method k) path part source) h = part-still k path h part source
  applied-still (change.Part (place.DoIt n) path part source) h = refl
  applied-still (change.Live (slot.Class id) at) h = refl
  applied-still (change.Live (slot.Method k) at) h = refl

  -- and leaves the same change back
  pub inverse-still : (c : Change) → CanApply s c → inverse (widened more s) c ≡ inverse s c
  inverse-still (change.Class id rec) h = ap (λ (o : Option ClassRec). change.Class id (unwrap_or o rec)) (get-append s.classes more.classes id h)
  inverse-still (change.Method k rec) h = ap (λ (o : Option MethodRec). change.Method k (unwrap_or o rec)) (get-append s.methods more.methods k h)
  inverse-still (change.DoIt n doit) h = refl
  inverse-still (change.Part (place.Method k) path part source) h = λ i. change.Part (place.Method k) path (unwrap_or (node-still k path h i) part) (unwrap_or (source-still k path h i) source)
  inverse-still (change.Part (place.DoIt n) path part source) h = refl
  inverse-still (change.Live (slot.Class id) at) h = refl
  inverse-still (change.Live (slot.Method k) at) h = refl
