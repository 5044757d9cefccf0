-- What `renameClass` makes of an image (Roberts 1999).
use Rattle.std.specs.Prelude.{ℕ, List, map, Bool, false, if◌then◌else◌, option_map}
use Rattle.std.specs.List.{list_any}
use Rattle.std.specs.Option.{option_map_or}
use Rattle.tree_model.specs.Tree.{SequenceOf, MethodOf}
use Rattle.tree_model.specs.Nodes.{nodes}
use Rattle.text_model.specs.Whole.{canonical_method, canonical_doit}
use Rattle.image_model.specs.Image.{ClassOf, EntryOf, DoItOf, ImageOf}
use Rattle.image_model.specs.Words.{WordsOf}
use Rattle.image_model.specs.Means.{MeaningOf, means, means_in_doit}
use Rattle.image_model.specs.Uses.{name_used, is_that_class}
use Rattle.rename_model.specs.Renamed.{renamed_sequence, renamed_method}

-- how methods and do-its are written
pub record WritingOf (N : Type 0) : Type 0 where
  pub method_text : MethodOf N → List ℕ
  pub doit_text : SequenceOf N → List ℕ

-- as canonical text
abbrev pub canonical : WritingOf (List ℕ)
canonical = record { method_text = canonical_method; doit_text = canonical_doit }

module _ {N : Type 0} (w : WordsOf N) (writing : WritingOf N) (i : ImageOf N) (c d : N) where
  -- the new name of a class
  abbrev pub class_renamed_to : N → N
  class_renamed_to n = if w.tests.same c n then d else n

  -- what a name that means the class becomes
  abbrev pub named_anew : MeaningOf N → N → N
  named_anew meaning n = if is_that_class w.tests.same c meaning then d else n

  -- whether a node of a sequence means the class, by what names mean there
  abbrev pub means_the_class : (List ℕ → N → MeaningOf N) → SequenceOf N → Bool
  means_the_class at b = list_any (λ e. option_map_or (λ n. is_that_class w.tests.same c (at e.0 n)) (name_used e.1) false) (nodes b)

  -- a class, with its new name and that of its superclass
  abbrev pub class_after : ClassOf N → ClassOf N
  class_after e = record e { name = class_renamed_to e.name; superclass = option_map class_renamed_to e.superclass }

  -- a method: where a node of it means the class, that node has the new name, and the source is the text of the new tree
  abbrev pub method_after : EntryOf N → EntryOf N
  method_after m =
      let tree : MethodOf N = renamed_method (λ path n. named_anew (means w i m path n) n) m.tree in
      record m {
        class = option_map class_renamed_to m.class;
        tree = tree;
        source = if means_the_class (means w i m) m.tree.body then writing.method_text tree else m.source;
      }

  -- a do-it so
  abbrev pub doit_after : DoItOf N → DoItOf N
  doit_after e =
      let body : SequenceOf N = renamed_sequence (λ path n. named_anew (means_in_doit w i e path n) n) e.body in
      record { body = body; source = if means_the_class (means_in_doit w i e) e.body then writing.doit_text body else e.source }

  -- the image: the class has its new name wherever it is meant, and nothing else is another
  abbrev pub class_renamed : ImageOf N
  class_renamed = record i { classes = map class_after i.classes; methods = map method_after i.methods; doits = map doit_after i.doits }
