-- What code of an image demands, as the program knows it.
use Rattle.std.specs.Prelude.{◌≡◌, ℕ, List, [], Bool, false}
use Rattle.std.specs.List.{list_all, flat_map}
use Rattle.tree_model.specs.Tree.{SequenceOf}
use Rattle.tree_model.specs.Nodes.{Placed, nodes}
use Rattle.st_tree.specs.View.{method_of}
use Rattle.st_tree.specs.declared.tree.Method.{Method}
use Rattle.st_tree.specs.declared.tree.Sequence.{Sequence}
use Rattle.image_model.specs.Image.{EntryOf}
use Rattle.image_model.specs.Words.{number_words}
use Rattle.strip_model.specs.Reach.{CodeOf, node_sends, code_means, doit_code, method_code}
use Rattle.class_table.specs.Slots.{Slots}
use Rattle.class_table.specs.View.{class_name, number_image}
use Rattle.image_strip.specs.Closed.{start_of}

-- a method of the class in a slot and a side, of which only the tree is known
abbrev pub method_with : Slots → ℕ → Bool → Method → EntryOf ℕ
method_with s class meta tree = record {
  class = class_name s.classes class;
  meta = meta;
  protocol = [];
  source = [];
  tree = method_of tree;
  kernel = false;
}

-- its code, and that of a do-it
abbrev pub method_at : Slots → ℕ → Bool → Method → CodeOf ℕ
method_at s class meta tree = method_code (number_words s.names) (number_image s) (method_with s class meta tree)

abbrev pub doit_at : Slots → Sequence → CodeOf ℕ
doit_at s body = doit_code (number_words s.names) (number_image s) (start_of body)

-- these are the classes that code means, in any order and any number of times
abbrev pub AreMeant : CodeOf ℕ → List ℕ → Type 0
AreMeant c classes = (p : ℕ → Bool) → list_all p classes ≡ list_all p (code_means c)

-- the selectors that a body sends
abbrev pub sent_in : SequenceOf ℕ → List ℕ
sent_in b = flat_map (λ (e : Placed ℕ). node_sends e.1) (nodes b)
