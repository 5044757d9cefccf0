-- When no two methods of an image have one class, side and selector.
use Rattle.std.specs.Prelude.{map}
use Rattle.image_model.specs.Valid.{HasNoRepeat, signature}
use Rattle.class_table.specs.Slots.{Slots}
use Rattle.class_table.specs.View.{image_of}

-- each class, side and selector has at most one method, as in each valid image
abbrev pub HasMethodsOnce : Slots → Type 0
HasMethodsOnce s = HasNoRepeat (map signature (image_of s).methods)
