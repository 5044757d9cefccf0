-- What the members of two images are.
use Rattle.std.specs.Prelude.{ℕ, Option, option_map}
use Rattle.image_model.specs.Image.{ClassOf, EntryOf}
use Rattle.class_table.specs.Slots.{Slots}
use Rattle.class_table.specs.View.{live_at}
use Rattle.file_model.specs.Filing.{Text}
use Rattle.image_file.specs.Writable.{text_class, text_entry}
use Rattle.change_file.specs.declared.differences.Member.{Member}
use Rattle.change_file.specs.declared.differences.Member.TheVariants.{Earlier, Later}

-- the class in a live slot
abbrev pub class_in : Slots → ℕ → Option (ClassOf Text)
class_in s k = option_map (text_class s) (live_at s.classes s.class_order k)

-- the method in a live slot
abbrev pub method_in : Slots → ℕ → Option (EntryOf Text)
method_in s k = option_map (text_entry s) (live_at s.methods s.method_order k)

-- the member in a slot of one of two images, of what is in the slots of each
abbrev pub member_in : {X : Type 0} → (ℕ → Option X) → (ℕ → Option X) → Member ℕ → Option X
member_in earlier later (Earlier k) = earlier k
member_in earlier later (Later k) = later k
