-- Images as data, over any type of names: numbers in the program, texts where an image is read or written.
use Rattle.std.specs.Prelude.{ℕ, List, [], ◌∷◌, ◌++◌, map, Bool, Option}
use Rattle.std.specs.Option.{option_map}
use Rattle.tree_model.specs.Tree.{SequenceOf, MethodOf, map_sequence, map_method}

-- a class: its name, its superclass, its instance variables, class variables and class-instance variables, and whether it is one of the kernel
pub record ClassOf (N : Type 0) : Type 0 where
  pub name : N
  pub superclass : Option N
  pub instance : List N
  pub shared : List N
  pub class_side : List N
  pub category : List ℕ
  pub comment : List ℕ
  pub kernel : Bool

-- a method: the name of its class, whether it is one of the class side, and whether it is one of the kernel; the class is missing only between the changes of a command
pub record EntryOf (N : Type 0) : Type 0 where
  pub class : Option N
  pub meta : Bool
  pub protocol : List ℕ
  pub source : List ℕ
  pub tree : MethodOf N
  pub kernel : Bool

-- a do-it: statements that are run by themselves
pub record DoItOf (N : Type 0) : Type 0 where
  pub source : List ℕ
  pub body : SequenceOf N

-- classes, methods and do-its in order, and how many of the do-its stand before all else
pub record ImageOf (N : Type 0) : Type 0 where
  pub classes : List (ClassOf N)
  pub methods : List (EntryOf N)
  pub doits : List (DoItOf N)
  pub heads : ℕ

-- the same class with each name changed
abbrev pub map_class : {M N : Type 0} → (M → N) → ClassOf M → ClassOf N
map_class f c = record {
  name = f c.name;
  superclass = option_map f c.superclass;
  instance = map f c.instance;
  shared = map f c.shared;
  class_side = map f c.class_side;
  category = c.category;
  comment = c.comment;
  kernel = c.kernel;
}

-- the same method with each name changed
abbrev pub map_entry : {M N : Type 0} → (M → N) → EntryOf M → EntryOf N
map_entry f m = record {
  class = option_map f m.class;
  meta = m.meta;
  protocol = m.protocol;
  source = m.source;
  tree = map_method f m.tree;
  kernel = m.kernel;
}

-- the same do-it with each name changed
abbrev pub map_doit : {M N : Type 0} → (M → N) → DoItOf M → DoItOf N
map_doit f d = record { source = d.source; body = map_sequence f d.body }

-- the same image with each name changed
abbrev pub map_image : {M N : Type 0} → (M → N) → ImageOf M → ImageOf N
map_image f i = record {
  classes = map (map_class f) i.classes;
  methods = map (map_entry f) i.methods;
  doits = map (map_doit f) i.doits;
  heads = i.heads;
}

-- the image with one more do-it at the end, which is none of those before all else
abbrev pub plus : {N : Type 0} → ImageOf N → DoItOf N → ImageOf N
plus i d = record i { doits = i.doits ++ d ∷ [] }
