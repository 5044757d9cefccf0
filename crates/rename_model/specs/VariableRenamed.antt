-- What `renameInstVar`, `renameClassVar` and `renameClassSideVar` make of an image (Roberts 1999).
use Rattle.std.specs.Prelude.{ℕ, List, map, Bool, false, ◌&&◌, if◌then◌else◌}
use Rattle.std.specs.List.{list_any}
use Rattle.std.specs.Option.{option_map_or}
use Rattle.tree_model.specs.Tree.{SequenceOf, MethodOf}
use Rattle.tree_model.specs.Nodes.{nodes}
use Rattle.image_model.specs.Image.{ClassOf, EntryOf, DoItOf, ImageOf}
use Rattle.image_model.specs.Words.{WordsOf}
use Rattle.image_model.specs.Means.{VariableKind, of_instance, of_class_side, of_class, variables, MeaningOf, means, means_in_doit}
use Rattle.image_model.specs.Uses.{name_used, is_variable}
use Rattle.rename_model.specs.Renamed.{renamed_sequence, renamed_method}
use Rattle.rename_model.specs.ClassRenamed.{WritingOf}

-- the class with other variables of a kind
abbrev pub with_variables : {N : Type 0} → VariableKind → List N → ClassOf N → ClassOf N
with_variables of_instance xs c = record c { instance = xs }
with_variables of_class_side xs c = record c { class_side = xs }
with_variables of_class xs c = record c { shared = xs }

module _ {N : Type 0} (w : WordsOf N) (writing : WritingOf N) (i : ImageOf N) (kind : VariableKind) (c x y : N) where
  -- the new name of a variable
  abbrev pub variable_renamed_to : N → N
  variable_renamed_to n = if w.tests.same x n then y else n

  -- whether a name that has a meaning is that of the variable
  abbrev pub is_it : MeaningOf N → N → Bool
  is_it meaning n = w.tests.same x n && is_variable w.tests.same kind c meaning

  -- what a name that means the variable becomes
  abbrev pub variable_anew : MeaningOf N → N → N
  variable_anew meaning n = if is_it meaning n then y else n

  -- whether a node of a sequence means the variable, by what names mean there
  abbrev pub means_the_variable : (List ℕ → N → MeaningOf N) → SequenceOf N → Bool
  means_the_variable at b = list_any (λ e. option_map_or (λ n. is_it (at e.0 n) n) (name_used e.1) false) (nodes b)

  -- the class that defines the variable calls it by the new name, at its place; other classes stay
  abbrev pub class_after : ClassOf N → ClassOf N
  class_after e = if w.tests.same c e.name then with_variables kind (map variable_renamed_to (variables kind e)) e else e

  -- a method: where a node of it means the variable, that node has the new name, and the source is the text of the new tree
  abbrev pub method_after : EntryOf N → EntryOf N
  method_after m =
      let tree : MethodOf N = renamed_method (λ path n. variable_anew (means w i m path n) n) m.tree in
      record m { tree = tree; source = if means_the_variable (means w i m) m.tree.body then writing.method_text tree else m.source }

  -- a do-it so
  abbrev pub doit_after : DoItOf N → DoItOf N
  doit_after e =
      let body : SequenceOf N = renamed_sequence (λ path n. variable_anew (means_in_doit w i e path n) n) e.body in
      record { body = body; source = if means_the_variable (means_in_doit w i e) e.body then writing.doit_text body else e.source }

  -- the image: the variable has its new name wherever it is meant, and nothing else is another
  abbrev pub variable_renamed : ImageOf N
  variable_renamed = record i { classes = map class_after i.classes; methods = map method_after i.methods; doits = map doit_after i.doits }
