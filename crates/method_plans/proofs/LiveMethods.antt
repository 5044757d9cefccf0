-- The live methods of a class, a side and a selector, and the methods of the image.
use Rattle.std.proofs.Common.{◌≡◌, ℕ, false, List, ◌∷◌, ◌++◌, map, Option, None, Some, option_map, slice_get, refl, sym, ap, ◌∙◌}
use Rattle.std.specs.Prelude.{nat_eq}
use Rattle.std.specs.List.{cons_option}
use Rattle.std.specs.Option.{option_map_or, option_and_then}
use Rattle.std.proofs.lemmas.List.{map-append}
use Rattle.std.proofs.lemmas.List.Elements.{filter_map-append}
use Rattle.image_model.specs.Image.{ClassOf}
use Rattle.image_model.specs.Lookup.{is_method}
use Rattle.class_table.specs.declared.record.ClassRec.{ClassRec}
use Rattle.class_table.specs.declared.record.MethodRec.{MethodRec}
use Rattle.class_table.specs.Slots.{Slots}
use Rattle.class_table.specs.Valid.{IsLive}
use Rattle.class_table.specs.View.{live, live_at, class_name, class_of, entry_of, number_image}
use Rattle.class_table.specs.Finding.{named_in}
use Rattle.class_questions.proofs.AnyLive.{live_at-live}
use Rattle.class_questions.proofs.ChainLaws.{named-record}
use Rattle.command_model.specs.Hierarchy.{superclass_name}
use Rattle.commands.specs.declared.command.MethodName.{MethodName}
use Rattle.method_plans.specs.Named.{superclass_slot}
use Rattle.users_methods.specs.Users.{is_named}

module _ {X Y : Type 0} (g : X → Y) (xs : List X) where
  -- what the slots of two orders hold, and those of an order with a first one
  pub live-append : (a b : List ℕ) → map g (live xs (a ++ b)) ≡ map g (live xs a) ++ map g (live xs b)
  live-append a b = ap (map g) (filter_map-append (slice_get xs) a b) ∙ map-append g (live xs a) (live xs b)

  pub live-cons : (k : ℕ) (x : X) (ks : List ℕ) → slice_get xs k ≡ Some x → map g (live xs (k ∷ ks)) ≡ g x ∷ map g (live xs ks)
  live-cons k x ks e = ap (λ (o : Option X). map g (cons_option o (live xs ks))) e

-- whether a live slot holds such a method
pub named-live : (s : Slots) (method : MethodName) (k : ℕ) (r : MethodRec) → IsLive s.method_order k → slice_get s.methods k ≡ Some r
    → is_named s method k ≡ is_method nat_eq method.class method.meta method.selector (entry_of s.classes r)
named-live s method k r l e =
    ap (λ (o : Option MethodRec). option_map_or (λ (m : MethodRec). is_method nat_eq method.class method.meta method.selector (entry_of s.classes m)) o false)
    (live_at-live s.methods s.method_order k l ∙ e)

-- the name of the superclass is that of its slot
pub superclass-named : (s : Slots) (n : ℕ) → superclass_name nat_eq (number_image s) n ≡ option_and_then (class_name s.classes) (superclass_slot s n)
superclass-named s n = ap (option_and_then (λ (c : ClassOf ℕ). c.superclass)) (sym (named-record s n)) ∙ by (option_and_then (live_at s.classes s.class_order) (named_in s.classes s.class_order n))
  where
    by : (o : Option ClassRec) → option_and_then (λ (c : ClassOf ℕ). c.superclass) (option_map (class_of s.classes) o) ≡ option_and_then (class_name s.classes) (option_and_then (λ (c : ClassRec). c.superclass) o)
    by None = refl
    by (Some c) = refl
