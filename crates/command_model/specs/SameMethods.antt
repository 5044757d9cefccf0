-- When two methods that are found are the same, and messages to `super`.
use Rattle.std.specs.Prelude.{Bool, true, false, not, ◌&&◌, ◌||◌, nat_eq, Option, Some, None}
use Rattle.std.specs.Bool.{beq}
use Rattle.std.specs.List.{list_any, list_all}
use Rattle.std.specs.Option.{option_map_or, option_eq}
use Rattle.tree_model.specs.Tree.{TreeOf, var, literal, send, cascade, assign, block, brace, return}
use Rattle.tree_model.specs.Nodes.{nodes}
use Rattle.image_model.specs.Image.{EntryOf, ImageOf}
use Rattle.image_model.specs.Words.{WordsOf}
use Rattle.image_model.specs.Means.{MeaningOf, pseudo, argument, temporary, variable, a_class, transcript, undeclared, means}
use Rattle.image_model.specs.Uses.{name_used, has_message, same_kind}
use Rattle.same_trees.specs.SameTrees.{same_code}

-- whether two meanings are one
abbrev pub same_meaning : {N : Type 0} → (N → N → Bool) → MeaningOf N → MeaningOf N → Bool
same_meaning same pseudo pseudo = true
same_meaning same (argument j) (argument k) = nat_eq j k
same_meaning same (temporary j) (temporary k) = nat_eq j k
same_meaning same (variable j c) (variable k d) = same_kind j k && same c d
same_meaning same (a_class c) (a_class d) = same c d
same_meaning same transcript transcript = true
same_meaning same undeclared undeclared = true
same_meaning same p q = false

-- whether each name that a method of an image reads or assigns means the same at its place in a method of another image
abbrev pub means_same_in : {N : Type 0} → WordsOf N → ImageOf N → EntryOf N → ImageOf N → EntryOf N → Bool
means_same_in w i m j n =
    list_all (λ e. option_map_or (λ x. same_meaning w.tests.same (means w i m e.0 x) (means w j n e.0 x)) (name_used e.1) true) (nodes m.tree.body)

module _ {N : Type 0} (is_super : N → Bool) where
  -- whether a node is `super`
  abbrev pub is_super_node : TreeOf N → Bool
  is_super_node (var n) = is_super n
  is_super_node (literal l) = false
  is_super_node (send r s args) = false
  is_super_node (cascade r ms) = false
  is_super_node (assign n t) = false
  is_super_node (block ps ts ss e) = false
  is_super_node (brace ts) = false
  is_super_node (return t) = false

  -- whether `super` stands in a method
  abbrev pub has_super : EntryOf N → Bool
  has_super m = list_any (λ e. is_super_node e.1) (nodes m.tree.body)

  -- whether a node sends a selector to `super`
  abbrev pub is_super_sender : (N → N → Bool) → N → TreeOf N → Bool
  is_super_sender same s (var n) = false
  is_super_sender same s (literal l) = false
  is_super_sender same s (send r t args) = is_super_node r && same s t
  is_super_sender same s (cascade r ms) = is_super_node r && has_message same s ms
  is_super_sender same s (assign n t) = false
  is_super_sender same s (block ps ts ss e) = false
  is_super_sender same s (brace ts) = false
  is_super_sender same s (return t) = false

-- whether two methods are of one class and side
abbrev pub are_of_one_side : {N : Type 0} → (N → N → Bool) → EntryOf N → EntryOf N → Bool
are_of_one_side same m n = option_eq same m.class n.class && beq m.meta n.meta

module _ {N : Type 0} (w : WordsOf N) (is_super : N → Bool) (i j : ImageOf N) where
  -- whether a method of one image is the same as a method of another: their trees but for comments, and their primitives, are equal; `super` stands in them only where they are of one class and side; and each name means the same in both
  abbrev pub is_same_method : EntryOf N → EntryOf N → Bool
  is_same_method m n =
      same_code w.tests.same m.tree n.tree
      && ((not (has_super is_super m || has_super is_super n) || are_of_one_side w.tests.same m n)
      && means_same_in w i m j n)

  -- whether what is found in both images is the same, or nothing is found in either
  abbrev pub is_same_found : Option (EntryOf N) → Option (EntryOf N) → Bool
  is_same_found None None = true
  is_same_found None (Some n) = false
  is_same_found (Some m) None = false
  is_same_found (Some m) (Some n) = is_same_method m n
