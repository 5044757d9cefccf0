-- The image that slots stand for. Slots that are not live, and the numbers of slots and names, are not in it.
use Rattle.std.specs.Prelude.{ℕ, List, map, Option, None, slice_get, if◌then◌else◌, nat_eq}
use Rattle.std.specs.List.{filter_map, list_any}
use Rattle.std.specs.Option.{option_map, option_and_then}
use Rattle.rb_base.specs.Names.{name_at}
use Rattle.st_tree.specs.View.{method_of, sequence_of}
use Rattle.image_model.specs.Image.{ClassOf, EntryOf, DoItOf, ImageOf, map_image}
use Rattle.class_table.specs.declared.record.ClassRec.{ClassRec}
use Rattle.class_table.specs.declared.record.MethodRec.{MethodRec}
use Rattle.class_table.specs.declared.record.DoIt.{DoIt}
use Rattle.class_table.specs.Slots.{Slots}

-- what the slots of an order hold
abbrev pub live : {X : Type 0} → List X → List ℕ → List X
live xs order = filter_map (slice_get xs) order

-- what a slot holds, if the slot is live
abbrev pub live_at : {X : Type 0} → List X → List ℕ → ℕ → Option X
live_at xs order k = if list_any (nat_eq k) order then slice_get xs k else None

-- the name of the class in a slot
abbrev pub class_name : List ClassRec → ℕ → Option ℕ
class_name classes id = option_map (λ (c : ClassRec). c.name) (slice_get classes id)

-- the class that a record stands for
abbrev pub class_of : List ClassRec → ClassRec → ClassOf ℕ
class_of classes c = record {
  name = c.name;
  superclass = option_and_then (class_name classes) c.superclass;
  instance = c.instance;
  shared = c.shared;
  class_side = c.class_side;
  category = c.category;
  comment = c.comment;
  kernel = c.kernel;
}

-- the method that a record stands for
abbrev pub entry_of : List ClassRec → MethodRec → EntryOf ℕ
entry_of classes m = record {
  class = class_name classes m.class;
  meta = m.meta;
  protocol = m.protocol;
  source = m.source;
  tree = method_of m.tree;
  kernel = m.kernel;
}

-- the class in a slot, live or not, as the image has it
abbrev pub class_at : Slots → ℕ → Option (ClassOf ℕ)
class_at s k = option_map (class_of s.classes) (slice_get s.classes k)

-- the method in a slot, live or not, as the image has it
abbrev pub entry_at : Slots → ℕ → Option (EntryOf ℕ)
entry_at s k = option_map (entry_of s.classes) (slice_get s.methods k)

-- the do-it that a record stands for
abbrev pub doit_of : DoIt → DoItOf ℕ
doit_of d = record { source = d.source; body = sequence_of d.body }

-- the image over numbers of names
abbrev pub number_image : Slots → ImageOf ℕ
number_image s = record {
  classes = map (class_of s.classes) (live s.classes s.class_order);
  methods = map (entry_of s.classes) (live s.methods s.method_order);
  doits = map doit_of s.doits;
  heads = s.heads;
}

-- the image over texts
abbrev pub image_of : Slots → ImageOf (List ℕ)
image_of s = map_image (name_at s.names) (number_image s)
