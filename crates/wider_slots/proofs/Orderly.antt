-- Orderly slots are orderly with further ones at the ends.
use Rattle.std.proofs.Common.{◌≡◌, ℕ, ◌<◌, List, ◌++◌, length, Some, slice_get, sym, subst, ◌∙◌}
use Rattle.rb_base.specs.Names.{HasNoTwice}
use Rattle.image_model.specs.Image.{ImageOf}
use Rattle.image_model.specs.ImageNames.{ImageNames}
use Rattle.image_model.proofs.MapImage.{ImageNames-implies}
use Rattle.class_table.specs.declared.record.ClassRec.{ClassRec}
use Rattle.class_table.specs.declared.record.MethodRec.{MethodRec}
use Rattle.class_table.specs.Order.{IsOrderOf}
use Rattle.class_table.specs.Slots.{Slots}
use Rattle.class_table.specs.View.{class_name, number_image}
use Rattle.class_table.specs.Valid.{IsLive, IsOrderly}
use Rattle.wider_slots.specs.Closed.{IsClosed}
use Rattle.wider_slots.specs.Wider.{More, widened, Wider}
use Rattle.wider_slots.proofs.Append.{get-append, further}
use Rattle.wider_slots.proofs.Images.{names-known, name-still, numbers-still}

module _ (more : More) (s : Slots) (closed : IsClosed s) (names : HasNoTwice (s.names ++ more.names)) (o : IsOrderly s) where
  order-further : {X : Type 0} (items : List ℕ) (xs ys : List X) → IsOrderOf (record { items = items; slots = length xs }) → IsOrderOf (record { items = items; slots = length (xs ++ ys) })
  order-further items xs ys is = record { distinct = is.distinct; below = λ k l. further xs ys k (is.below k l) }

  -- what a live slot holds, and the name of its class
  class-there : (k : ℕ) (c : ClassRec) → IsLive s.class_order k → slice_get (s.classes ++ more.classes) k ≡ Some c → slice_get s.classes k ≡ Some c
  class-there k c l e = sym (get-append s.classes more.classes k (o.class_order.below k l)) ∙ e

  method-there : (k : ℕ) (m : MethodRec) → IsLive s.method_order k → slice_get (s.methods ++ more.methods) k ≡ Some m → slice_get s.methods k ≡ Some m
  method-there k m l e = sym (get-append s.methods more.methods k (o.method_order.below k l)) ∙ e

  name-there : (k n : ℕ) → IsLive s.class_order k → class_name (s.classes ++ more.classes) k ≡ Some n → class_name s.classes k ≡ Some n
  name-there k n l e = sym (name-still s closed more k (o.class_order.below k l)) ∙ e

  orderly-widened : IsOrderly (widened more s)
  orderly-widened = record {
    names_distinct = names;
    names_known =
        subst (λ (i : ImageOf ℕ). ImageNames (λ n. n < length (s.names ++ more.names)) i) (sym (numbers-still s closed more)) (
        ImageNames-implies (λ n. n < length s.names) (λ n. n < length (s.names ++ more.names)) (further s.names more.names) (number_image s) (names-known s closed));
    class_order = order-further s.class_order s.classes more.classes o.class_order;
    method_order = order-further s.method_order s.methods more.methods o.method_order;
    class_names_distinct = λ j k n a b e f. o.class_names_distinct j k n a b (name-there j n a e) (name-there k n b f);
    superclasses_live = λ j k c l e f. o.superclasses_live j k c l (class-there k c l e) f;
    method_classes_live = λ k m l e. o.method_classes_live k m l (method-there k m l e);
  }

pub orderly-wider : (s t : Slots) → Wider s t → IsOrderly s → IsOrderly t
orderly-wider s t w o =
    subst IsOrderly (sym w.state) (orderly-widened w.more s w.closed (subst (λ (z : Slots). HasNoTwice z.names) w.state w.still.names) o)
