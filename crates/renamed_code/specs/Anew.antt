-- What is renamed, and code after that.
use Rattle.std.specs.Prelude.{Bool}
use Rattle.std.specs.List.{list_any}
use Rattle.tree_model.specs.Nodes.{nodes}
use Rattle.image_model.specs.Image.{EntryOf, DoItOf, ImageOf}
use Rattle.image_model.specs.Words.{WordsOf}
use Rattle.image_model.specs.Means.{VariableKind, means, means_in_doit}
use Rattle.image_model.specs.Uses.{is_sender}
use Rattle.rename_model.specs.Conditions.{speaks_of}
use Rattle.rename_model.specs.ClassRenamed.{WritingOf}
use Rattle.rename_model.specs.ClassRenamed as class
use Rattle.rename_model.specs.VariableRenamed as variable
use Rattle.rename_model.specs.SelectorRenamed as selector

-- what gets another name: a class, the variable of a kind that a class defines, or a selector
pub data RenamedOf (N : Type 0) : Type 0 where
  of_a_class : (c : N) → RenamedOf N
  of_a_variable : VariableKind → (c x : N) → RenamedOf N
  of_a_selector : (s : N) → RenamedOf N

-- the name that it has
abbrev pub name_before : {N : Type 0} → RenamedOf N → N
name_before (of_a_class c) = c
name_before (of_a_variable kind c x) = x
name_before (of_a_selector s) = s

module _ {N : Type 0} (w : WordsOf N) (writing : WritingOf N) (i : ImageOf N) (to : N) where
  -- a method after
  abbrev pub entry_after : RenamedOf N → EntryOf N → EntryOf N
  entry_after (of_a_class c) m = class.method_after w writing i c to m
  entry_after (of_a_variable kind c x) m = variable.method_after w writing i kind c x to m
  entry_after (of_a_selector s) m = selector.method_after w.tests.same writing i s to m

  -- whether the code of the method speaks of it, and so becomes other code
  abbrev pub is_entry_changed : RenamedOf N → EntryOf N → Bool
  is_entry_changed (of_a_class c) m = class.means_the_class w writing i c to (means w i m) m.tree.body
  is_entry_changed (of_a_variable kind c x) m = variable.means_the_variable w writing i kind c x to (means w i m) m.tree.body
  is_entry_changed (of_a_selector s) m = speaks_of w.tests.same s m

  -- a do-it after
  abbrev pub doit_after : RenamedOf N → DoItOf N → DoItOf N
  doit_after (of_a_class c) e = class.doit_after w writing i c to e
  doit_after (of_a_variable kind c x) e = variable.doit_after w writing i kind c x to e
  doit_after (of_a_selector s) e = selector.doit_after w.tests.same writing i s to e

  -- whether the do-it speaks of it
  abbrev pub is_doit_changed : RenamedOf N → DoItOf N → Bool
  is_doit_changed (of_a_class c) e = class.means_the_class w writing i c to (means_in_doit w i e) e.body
  is_doit_changed (of_a_variable kind c x) e = variable.means_the_variable w writing i kind c x to (means_in_doit w i e) e.body
  is_doit_changed (of_a_selector s) e = list_any (λ x. is_sender w.tests.same s x.1) (nodes e.body)
