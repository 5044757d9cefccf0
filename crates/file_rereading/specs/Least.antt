-- The least kernel: `Object` alone.
use Rattle.std.specs.Prelude.{[], ◌∷◌, true, codes, None}
use Rattle.image_model.specs.Image.{ClassOf, ImageOf}
use Rattle.file_model.specs.Filing.{Text}
use Rattle.file_model.specs.Written.{definition_text, paragraph}

-- the class `Object`, without variables
abbrev pub object : ClassOf Text
object = record {
  name = codes "Object";
  superclass = None;
  instance = [];
  shared = [];
  class_side = [];
  category = codes "Kernel";
  comment = [];
  kernel = true;
}

-- the image of it alone
abbrev pub object_alone : ImageOf Text
object_alone = record { classes = object ∷ []; methods = []; doits = []; heads = 0 }

-- the text of a kernel that defines it
abbrev pub least_prelude : Text
least_prelude = paragraph (definition_text object)
