-- Which images are read again from their texts, and as what.
use Rattle.std.specs.Prelude.{◌≡◌, ◌≤◌, [], ◌++◌, length, Bool, true, ◌&&◌, ◌==◌, if◌then◌else◌, codes}
use Rattle.rb_base.specs.Names.{text_eq}
use Rattle.image_model.specs.Image.{ImageOf}
use Rattle.file_model.specs.Hierarchy.{has_class}
use Rattle.file_model.specs.Refusals.{class_limit, method_limit}
use Rattle.file_model.specs.Filing.{Text}
use Rattle.file_model.specs.Written.{user_classes, user_methods}

-- an image that a file-out may make: no more classes and methods than there may be
pub record IsWithinLimits (i : ImageOf Text) : Type 0 where
  pub classes : length i.classes ≤ class_limit
  pub methods : length i.methods ≤ method_limit

-- a kernel that is the beginning of images: it has `Object`, which alone has no superclass, and no do-its
pub record IsBeginning (kernel : ImageOf Text) : Type 0 where
  pub root : has_class text_eq kernel.classes (codes "Object") ≡ true
  pub no_doits : kernel.doits ≡ []

-- the classes and the methods of the kernel stand before those of the user
pub record KernelFirst (kernel i : ImageOf Text) : Type 0 where
  pub classes : i.classes ≡ kernel.classes ++ user_classes i
  pub methods : i.methods ≡ kernel.methods ++ user_methods i

-- whether the image is one of do-its alone, beside the kernel
abbrev pub is_only_doits : ImageOf Text → Bool
is_only_doits i = length (user_classes i) == 0 && length (user_methods i) == 0

-- the same image; where nothing else stands in its text, all its do-its are before all else
abbrev pub with_heads : ImageOf Text → ImageOf Text
with_heads i = record i { heads = if is_only_doits i then length i.doits else i.heads }
