-- What is put in place of the arguments of a method.
use Rattle.std.specs.Prelude.{ℕ, List}
use Rattle.tree_model.specs.Tree.{TreeOf, trees_of}
use Rattle.st_tree.specs.View.{method_of}
use Rattle.command_model.specs.Inlined as model
use Rattle.commands.specs.Views.{asked_by}
use Rattle.inlined_code.specs.declared.passing.Filling.{Filling}

-- a node at the end of a path, after
abbrev pub filled : Filling → List ℕ → TreeOf ℕ → TreeOf ℕ
filled it path t = model.filled (asked_by it.names.now) (method_of it.method.now) (trees_of it.passed.now) path t
