-- An image with more names.
use Rattle.std.proofs.Common.{◌≡◌, ℕ, ◌<◌, List, ◌++◌, length, ap, ◌∙◌, arith}
use Rattle.std.proofs.lemmas.List.{length-append}
use Rattle.rb_base.specs.Names.{HasNoTwice}
use Rattle.query_model.specs.Lines.{Text}
use Rattle.image_model.proofs.MapImage.{ImageNames-implies}
use Rattle.event_trees.specs.Naming.{Grows}
use Rattle.class_table.specs.Slots.{Slots}
use Rattle.class_table.specs.View.{number_image, image_of}
use Rattle.class_table.specs.Valid.{IsOrderly}
use Rattle.class_table.proofs.Found.{image_of-grown}
use Rattle.image_rewriting.specs.Planned.{renamed}

-- more names are known
pub longer : (names later : List Text) → Grows names later → (n : ℕ) → n < length names → n < length later
longer names later g n l = let e : length later ≡ length (names ++ g.more) = ap (λ (ns : List Text). length ns) g.grown in omega (arith, l, e, length-append names g.more)

-- the same image
pub same-image : (s : Slots) (names : List Text) → IsOrderly s → Grows s.names names → image_of (renamed s names) ≡ image_of s
same-image s names o g = ap (λ (ns : List Text). image_of (renamed s ns)) g.grown ∙ image_of-grown s g.more o.names_known

-- an orderly one, where no text has two numbers
pub still-orderly : (s : Slots) (names : List Text) → IsOrderly s → Grows s.names names → HasNoTwice names → IsOrderly (renamed s names)
still-orderly s names o g once = record {
  names_distinct = once;
  names_known = ImageNames-implies (λ n. n < length s.names) (λ n. n < length names) (longer s.names names g) (number_image s) o.names_known;
  class_order = o.class_order;
  method_order = o.method_order;
  class_names_distinct = o.class_names_distinct;
  superclasses_live = o.superclasses_live;
  method_classes_live = o.method_classes_live;
}
