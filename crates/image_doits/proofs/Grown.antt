-- An image with more names.
use Rattle.std.proofs.Common.{◌≡◌, ℕ, ◌<◌, List, ◌++◌, length, sym, ap, subst, ◌∙◌, arith}
use Rattle.std.proofs.lemmas.List.{length-append}
use Rattle.rb_base.specs.Names.{HasNoTwice}
use Rattle.image_model.proofs.MapImage.{ImageNames-implies}
use Rattle.event_trees.specs.Naming.{Grows}
use Rattle.class_table.specs.Slots.{Slots}
use Rattle.class_table.specs.View.{number_image, image_of}
use Rattle.class_table.specs.Valid.{IsOrderly}
use Rattle.class_table.proofs.Found.{image_of-grown}
use Rattle.live_slots.specs.Live.{AllLive}

-- an orderly image with more names is orderly, where no text has two numbers
orderly_grown : (s : Slots) (more : List (List ℕ)) → IsOrderly s → HasNoTwice (s.names ++ more) → IsOrderly (record s { names = s.names ++ more })
orderly_grown s more h once = record {
  names_distinct = once;
  names_known = ImageNames-implies (λ n. n < length s.names) (λ n. n < length (s.names ++ more)) (λ n l. omega (arith, l, length-append s.names more)) (number_image s) h.names_known;
  class_order = h.class_order;
  method_order = h.method_order;
  class_names_distinct = h.class_names_distinct;
  superclasses_live = h.superclasses_live;
  method_classes_live = h.method_classes_live;
}

-- slots that are others but for further names
same_slots : (s t : Slots) (names : List (List ℕ)) → t ≡ record s { names = t.names } → t.names ≡ names → t ≡ record s { names = names }
same_slots s t names rest is = rest ∙ ap (λ (ns : List (List ℕ)). let r : Slots = record s { names = ns } in r) is

-- the same image
pub same_image : (s t : Slots) → IsOrderly s → t ≡ record s { names = t.names } → Grows s.names t.names → image_of t ≡ image_of s
same_image s t h rest g = ap image_of (same_slots s t (s.names ++ g.more) rest g.grown) ∙ image_of-grown s g.more h.names_known

-- an orderly one
pub still_orderly : (s t : Slots) → IsOrderly s → t ≡ record s { names = t.names } → Grows s.names t.names → HasNoTwice t.names → IsOrderly t
still_orderly s t h rest g once =
    subst IsOrderly (sym (same_slots s t (s.names ++ g.more) rest g.grown)) (orderly_grown s g.more h (subst HasNoTwice g.grown once))

-- each slot stays live
pub still_live : (s t : Slots) → t ≡ record s { names = t.names } → AllLive s → AllLive t
still_live s t rest live = subst AllLive (sym rest) (record { classes = live.classes; methods = live.methods })
