-- Which images can be written, and the texts of what their slots hold.
use Rattle.std.specs.Prelude.{◌≡◌, ℕ, ◌<◌, ◌++◌, List, [], length, Bool, if◌then◌else◌, Option, slice_get, Some}
use Rattle.std.specs.List.{AllByRecursion}
use Rattle.std.specs.Option.{ForSome, option_map_or}
use Rattle.rb_base.specs.Names.{name_at}
use Rattle.image_model.specs.Image.{ClassOf, map_class, EntryOf, map_entry}
use Rattle.image_model.specs.ImageNames.{ClassNames}
use Rattle.class_table.specs.declared.record.ClassRec.{ClassRec}
use Rattle.class_table.specs.declared.record.MethodRec.{MethodRec}
use Rattle.class_table.specs.declared.record.DoIt.{DoIt}
use Rattle.class_table.specs.Slots.{Slots}
use Rattle.class_table.specs.View.{class_of, entry_of, number_image}
use Rattle.class_table.specs.Valid.{IsLive}
use Rattle.file_model.specs.Written.{paragraph, class_text}

-- Each name of a class has a text, and the superclass of a live class and the class of a live method are live. A valid image is of this kind, whatever the sources and the trees of its methods and do-its are.
pub record IsWritable (s : Slots) : Type 0 where
  pub names : AllByRecursion (ClassNames (λ n. n < length s.names)) (number_image s).classes
  pub superclasses : (j k : ℕ) (c : ClassRec) → IsLive s.class_order k → slice_get s.classes k ≡ Some c → c.superclass ≡ Some j → IsLive s.class_order j
  pub method_classes : (k : ℕ) (m : MethodRec) → IsLive s.method_order k → slice_get s.methods k ≡ Some m → IsLive s.class_order m.class

-- a class of an image can be written: its names have texts, and its superclass is live
pub record IsWritableClass (s : Slots) (c : ClassRec) : Type 0 where
  pub names : ClassNames (λ n. n < length s.names) (class_of s.classes c)
  pub above : ForSome c.superclass (IsLive s.class_order)

-- the class that a record stands for, over texts
abbrev pub text_class : Slots → ClassRec → ClassOf (List ℕ)
text_class s c = map_class (name_at s.names) (class_of s.classes c)

-- the method that a record stands for, over texts
abbrev pub text_entry : Slots → MethodRec → EntryOf (List ℕ)
text_entry s m = map_entry (name_at s.names) (entry_of s.classes m)

-- the text of the class in a slot, if it is one of the user
abbrev pub class_text_at : Slots → ℕ → List ℕ
class_text_at s k = option_map_or (λ (c : ClassRec). if c.kernel then [] else class_text (text_class s c)) (slice_get s.classes k) []

-- the text of a do-it
abbrev pub doit_text_of : DoIt → List ℕ
doit_text_of d = paragraph d.source
