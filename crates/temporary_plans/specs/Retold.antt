-- Methods with another tree.
use Rattle.std.specs.Prelude.{◌≡◌, ℕ, nat_eq, if◌then◌else◌, Option, None, Some}
use Rattle.std.specs.Option.{option_and_then}
use Rattle.tree_model.specs.Tree.{MethodOf}
use Rattle.tree_model.specs.Normal.{normal}
use Rattle.same_trees.specs.SameTrees.{same_code}
use Rattle.st_tree.specs.View.{method_of}
use Rattle.st_tree.specs.declared.tree.Method.{Method}
use Rattle.class_table.specs.declared.record.MethodRec.{MethodRec}
use Rattle.class_table.specs.Slots.{Slots}
use Rattle.class_table.specs.View.{live_at, number_image}
use Rattle.command_model.specs.Commands.{CommandOf}
use Rattle.command_model.specs.Effects.{effect}
use Rattle.command_model.specs.Numbers.{number_writing}
use Rattle.command_model.specs.Sequences.{with_tree}
use Rattle.commands.specs.Views.{asked_by}
use Rattle.commands.specs.declared.command.MethodName.{MethodName}

module _ (s : Slots) (tree : Method) where
  -- a method with another tree and its text, if that is another one
  abbrev pub retold_rec : MethodRec → Option MethodRec
  retold_rec m =
      if same_code nat_eq (method_of m.tree) (method_of tree) then None
      else Some (record m { tree = tree; source = (number_writing s.names).method_text (method_of tree) })

  -- the method in a slot so, if the slot is live
  abbrev pub retold_at : ℕ → Option MethodRec
  retold_at k = option_and_then retold_rec (live_at s.methods s.method_order k)

-- a command that gives the user's methods of a class, a side and a selector a tree, which the program has in normal form
pub record Retells (s : Slots) (method : MethodName) (tree : Method) (command : CommandOf ℕ) : Type 0 where
  pub anew : MethodOf ℕ
  pub is_normal : method_of tree ≡ normal anew
  pub effect : effect (asked_by s.names) (number_writing s.names) command (number_image s)
      ≡ with_tree nat_eq (number_writing s.names) method.class method.meta method.selector anew (number_image s)
