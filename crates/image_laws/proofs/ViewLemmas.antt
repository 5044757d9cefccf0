-- The image that slots stand for, where a slot is put into an order or taken out.
use Rattle.std.proofs.Common.{◌≡◌, ℕ, zero, suc, ◌<◌, List, [], ◌∷◌, length, map, position, Option, None, Some, option_map, slice_get, refl, sym, ap, ◌∙◌}
use Rattle.std.specs.Prelude.{insert}
use Rattle.std.specs.List.{remove, cons_option}
use Rattle.std.proofs.Math.Dec.{eqb}
use Rattle.rb_base.specs.Names.{name_at}
use Rattle.image_model.specs.Image.{ClassOf, EntryOf, map_class, map_entry}
use Rattle.class_table.specs.declared.record.ClassRec.{ClassRec}
use Rattle.class_table.specs.declared.record.MethodRec.{MethodRec}
use Rattle.class_table.specs.declared.record.Slot.TheVariants as slot
use Rattle.class_table.specs.Order.{without}
use Rattle.class_table.specs.Slots.{Slots}
use Rattle.class_table.specs.View.{live, class_of, class_at, entry_of, entry_at, number_image, image_of}
use Rattle.class_table.specs.Valid.{IsLive}
use Rattle.class_table.specs.Changing.{with_live}
use Rattle.class_table.proofs.OrderLemmas.{position-some}
use Rattle.class_table.proofs.Live.{IsLive-first, IsLive-rest, there}
use Rattle.image_laws.specs.Placed.{without_class, with_class_at, without_method, with_method_at}
use Rattle.image_laws.specs.Orders.{HasOrders}
use Rattle.image_laws.proofs.Lists.{map-insert, map-remove}
use Rattle.image_laws.proofs.Orders.{position-get, still}

module _ {X : Type 0} (xs : List X) where
  -- what the slots hold with one more put in
  live-insert : (order : List ℕ) (p k : ℕ) (x : X) → ((j : ℕ) → IsLive order j → j < length xs) → slice_get xs k ≡ Some x → live xs (insert order p k) ≡ insert (live xs order) p x
  live-insert [] zero k x below e = ap (λ (o : Option X). cons_option o []) e
  live-insert [] (suc p) k x below e = ap (λ (o : Option X). cons_option o []) e
  live-insert (j ∷ js) zero k x below e = ap (λ (o : Option X). cons_option o (live xs (j ∷ js))) e
  live-insert (j ∷ js) (suc p) k x below e =
      let at = there xs j (below j (IsLive-first j js)) in
      ap (λ (o : Option X). cons_option o (live xs (insert js p k))) at.1
      ∙ ap (λ (ys : List X). at.0 ∷ ys) (live-insert js p k x (λ i l. below i (IsLive-rest i j js l)) e)
      ∙ sym (ap (λ (o : Option X). insert (cons_option o (live xs js)) (suc p) x) at.1)

  -- what the slots hold without one of them
  live-remove : (order : List ℕ) (p : ℕ) → ((j : ℕ) → IsLive order j → j < length xs) → live xs (remove order p) ≡ remove (live xs order) p
  live-remove [] zero below = refl
  live-remove [] (suc p) below = refl
  live-remove (j ∷ js) zero below =
      let at = there xs j (below j (IsLive-first j js)) in
      sym (ap (λ (o : Option X). remove (cons_option o (live xs js)) 0) at.1)
  live-remove (j ∷ js) (suc p) below =
      let at = there xs j (below j (IsLive-first j js)) in
      ap (λ (o : Option X). cons_option o (live xs (remove js p))) at.1
      ∙ ap (λ (ys : List X). at.0 ∷ ys) (live-remove js p (λ i l. below i (IsLive-rest i j js l)))
      ∙ sym (ap (λ (o : Option X). remove (cons_option o (live xs js)) (suc p)) at.1)

  -- what stands at a place is what its slot holds
  live-get : (order : List ℕ) (p k : ℕ) → ((j : ℕ) → IsLive order j → j < length xs) → slice_get order p ≡ Some k → slice_get (live xs order) p ≡ slice_get xs k
  live-get [] p k below e = absurd (cc)
  live-get (j ∷ js) zero k below e =
      let at = there xs j (below j (IsLive-first j js)) in
      let same : j ≡ k = cc in
      ap (λ (o : Option X). slice_get (cons_option o (live xs js)) 0) at.1 ∙ sym at.1 ∙ ap (slice_get xs) same
  live-get (j ∷ js) (suc p) k below e =
      let at = there xs j (below j (IsLive-first j js)) in
      ap (λ (o : Option X). slice_get (cons_option o (live xs js)) (suc p)) at.1 ∙ live-get js p k (λ i l. below i (IsLive-rest i j js l)) e

  -- what the slots hold at a place stands in a slot of that place
  pub live-place : (order : List ℕ) (p : ℕ) (x : X) → ((j : ℕ) → IsLive order j → j < length xs) → slice_get (live xs order) p ≡ Some x → (k : ℕ) × (slice_get order p ≡ Some k) × (slice_get xs k ≡ Some x)
  live-place [] p x below e = absurd (cc)
  live-place (j ∷ js) zero x below e =
      let at = there xs j (below j (IsLive-first j js)) in
      (j, refl, at.1 ∙ sym (ap (λ (o : Option X). slice_get (cons_option o (live xs js)) 0) at.1) ∙ e)
  live-place (j ∷ js) (suc p) x below e =
      let at = there xs j (below j (IsLive-first j js)) in
      live-place js p x (λ i l. below i (IsLive-rest i j js l)) (sym (ap (λ (o : Option X). slice_get (cons_option o (live xs js)) (suc p)) at.1) ∙ e)

get-map : {X Y : Type 0} (f : X → Y) (xs : List X) (p : ℕ) → slice_get (map f xs) p ≡ option_map f (slice_get xs p)
get-map f [] p = refl
get-map f (x ∷ xs) zero = refl
get-map f (x ∷ xs) (suc p) = get-map f xs p

module _ (s : Slots) (orders : HasOrders s) (k : ℕ) where
  -- the class that stands at a place
  pub class-stands : (p : ℕ) → slice_get s.class_order p ≡ Some k → slice_get (image_of s).classes p ≡ option_map (map_class (name_at s.names)) (class_at s k)
  class-stands p e =
      get-map (map_class (name_at s.names)) (number_image s).classes p
      ∙ ap (option_map (map_class (name_at s.names))) (get-map (class_of s.classes) (live s.classes s.class_order) p ∙ ap (option_map (class_of s.classes)) (live-get s.classes s.class_order p k orders.classes.below e))

  module _ (p : ℕ) (e : position (eqb k) s.class_order ≡ Some p) where
    -- the class stands at its place
    pub class-there : slice_get (image_of s).classes p ≡ option_map (map_class (name_at s.names)) (class_at s k)
    class-there = class-stands p (position-get k s.class_order p e)

    -- the image without the class
    pub class-taken_out : image_of (with_live s (slot.Class k) None) ≡ without_class (image_of s) p
    class-taken_out = ap (λ (cs : List (ClassOf (List ℕ))). record (image_of s) { classes = cs }) (
        ap (λ (ks : List ℕ). map (map_class (name_at s.names)) (map (class_of s.classes) (live s.classes ks))) (sym (position-some k s.class_order p (sym e)).1)
        ∙ ap (λ (cs : List ClassRec). map (map_class (name_at s.names)) (map (class_of s.classes) cs)) (live-remove s.classes s.class_order p orders.classes.below)
        ∙ ap (map (map_class (name_at s.names))) (map-remove (class_of s.classes) (live s.classes s.class_order) p)
        ∙ map-remove (map_class (name_at s.names)) (map (class_of s.classes) (live s.classes s.class_order)) p)

  -- the image with the class put in
  pub class-put_in : (p : ℕ) (c : ClassRec) → slice_get s.classes k ≡ Some c
      → image_of (with_live s (slot.Class k) (Some p)) ≡ with_class_at (image_of (with_live s (slot.Class k) None)) p (map_class (name_at s.names) (class_of s.classes c))
  class-put_in p c e = ap (λ (cs : List (ClassOf (List ℕ))). record (image_of s) { classes = cs }) (
      ap (λ (cs : List ClassRec). map (map_class (name_at s.names)) (map (class_of s.classes) cs)) (live-insert s.classes (without k s.class_order) p k c (λ j l. orders.classes.below j (still k j s.class_order orders.classes.distinct l)) e)
      ∙ ap (map (map_class (name_at s.names))) (map-insert (class_of s.classes) (live s.classes (without k s.class_order)) p c)
      ∙ map-insert (map_class (name_at s.names)) (map (class_of s.classes) (live s.classes (without k s.class_order))) p (class_of s.classes c))

  module _ (p : ℕ) (e : position (eqb k) s.method_order ≡ Some p) where
    -- the method stands at its place
    pub method-there : slice_get (image_of s).methods p ≡ option_map (map_entry (name_at s.names)) (entry_at s k)
    method-there =
        get-map (map_entry (name_at s.names)) (number_image s).methods p
        ∙ ap (option_map (map_entry (name_at s.names))) (get-map (entry_of s.classes) (live s.methods s.method_order) p ∙ ap (option_map (entry_of s.classes)) (live-get s.methods s.method_order p k orders.methods.below (position-get k s.method_order p e)))

    -- the image without the method
    pub method-taken_out : image_of (with_live s (slot.Method k) None) ≡ without_method (image_of s) p
    method-taken_out = ap (λ (ms : List (EntryOf (List ℕ))). record (image_of s) { methods = ms }) (
        ap (λ (ks : List ℕ). map (map_entry (name_at s.names)) (map (entry_of s.classes) (live s.methods ks))) (sym (position-some k s.method_order p (sym e)).1)
        ∙ ap (λ (ms : List MethodRec). map (map_entry (name_at s.names)) (map (entry_of s.classes) ms)) (live-remove s.methods s.method_order p orders.methods.below)
        ∙ ap (map (map_entry (name_at s.names))) (map-remove (entry_of s.classes) (live s.methods s.method_order) p)
        ∙ map-remove (map_entry (name_at s.names)) (map (entry_of s.classes) (live s.methods s.method_order)) p)

  -- the image with the method put in
  pub method-put_in : (p : ℕ) (m : MethodRec) → slice_get s.methods k ≡ Some m
      → image_of (with_live s (slot.Method k) (Some p)) ≡ with_method_at (image_of (with_live s (slot.Method k) None)) p (map_entry (name_at s.names) (entry_of s.classes m))
  method-put_in p m e = ap (λ (ms : List (EntryOf (List ℕ))). record (image_of s) { methods = ms }) (
      ap (λ (ms : List MethodRec). map (map_entry (name_at s.names)) (map (entry_of s.classes) ms)) (live-insert s.methods (without k s.method_order) p k m (λ j l. orders.methods.below j (still k j s.method_order orders.methods.distinct l)) e)
      ∙ ap (map (map_entry (name_at s.names))) (map-insert (entry_of s.classes) (live s.methods (without k s.method_order)) p m)
      ∙ map-insert (map_entry (name_at s.names)) (map (entry_of s.classes) (live s.methods (without k s.method_order))) p (entry_of s.classes m))
