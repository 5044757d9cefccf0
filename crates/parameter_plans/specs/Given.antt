-- The command by which an argument comes or goes, and what it makes of code.
use Rattle.std.specs.Prelude.{ℕ, ◌-◌, List, [], ◌∷◌, ◌++◌, remove, nat_eq}
use Rattle.std.specs.List.{list_any}
use Rattle.tree_model.specs.Tree.{TreeOf, TreesOf, no_trees, more_trees, MessagesOf, MethodOf}
use Rattle.tree_model.specs.Path.{append}
use Rattle.tree_model.specs.Nodes.{nodes}
use Rattle.image_model.specs.Uses.{is_sender}
use Rattle.rename_model.specs.Conditions.{speaks_of}
use Rattle.command_model.specs.CodeHolds.{no_writing}
use Rattle.command_model.specs.Commands.{CommandOf, AddParameter, RemoveParameter}
use Rattle.command_model.specs.Parameters.{without_nth, messages_passed, node_passed, sequence_passed, tree_passed}
use Rattle.command_model.specs.Plain.{literal_node}
use Rattle.parameter_plans.specs.declared.given.ParameterChange.{ParameterChange}
use Rattle.parameter_plans.specs.declared.given.ParameterChange.TheVariants as given
use Rattle.remade_plans.specs.Remade.{Remaking}

-- the command
abbrev pub parameter_command : ParameterChange → CommandOf ℕ
parameter_command (given.Added n) = AddParameter n.now.selector n.now.to n.now.parameter n.now.passed
parameter_command (given.Removed s k t) = RemoveParameter s k t

-- the selector before and after
abbrev pub selector_before : ParameterChange → ℕ
selector_before (given.Added n) = n.now.selector
selector_before (given.Removed s k t) = s

abbrev pub selector_after : ParameterChange → ℕ
selector_after (given.Added n) = n.now.to
selector_after (given.Removed s k t) = t

-- what a message passes after
abbrev pub passed_after : ParameterChange → TreesOf ℕ → TreesOf ℕ
passed_after (given.Added n) args = append args (more_trees (literal_node n.now.passed) no_trees)
passed_after (given.Removed s k t) args = without_nth (k - 1) args

-- the arguments that a method takes after
abbrev pub taken_after : ParameterChange → List ℕ → List ℕ
taken_after (given.Added n) xs = xs ++ n.now.parameter ∷ []
taken_after (given.Removed s k t) xs = remove xs (k - 1)

module _ (c : ParameterChange) where
  -- messages after, and a node after those below it; how trees are written does not matter to them
  abbrev pub messages_after : MessagesOf ℕ → MessagesOf ℕ
  messages_after = messages_passed nat_eq no_writing (selector_before c) (selector_after c) (passed_after c) (taken_after c)

  abbrev pub node_after : TreeOf ℕ → TreeOf ℕ
  node_after = node_passed nat_eq no_writing (selector_before c) (selector_after c) (passed_after c) (taken_after c)

  -- the tree of a method after
  abbrev pub tree_after : MethodOf ℕ → MethodOf ℕ
  tree_after = tree_passed nat_eq no_writing (selector_before c) (selector_after c) (passed_after c) (taken_after c)

  -- which code is made anew, and what it is then
  abbrev pub remaking_of : Remaking
  remaking_of = record {
    is_method_remade = speaks_of nat_eq (selector_before c);
    method_after = λ m. tree_after m.tree;
    is_doit_remade = λ d. list_any (λ e. is_sender nat_eq (selector_before c) e.1) (nodes d.body);
    body_after = sequence_passed nat_eq no_writing (selector_before c) (selector_after c) (passed_after c) (taken_after c);
  }
