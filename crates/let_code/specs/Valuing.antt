-- Code in which a temporary is what is assigned to it.
use Rattle.std.specs.Prelude.{ℕ, is_some, if◌then◌else◌}
use Rattle.tree_model.specs.Tree.{var}
use Rattle.st_tree.specs.View.{method_of}
use Rattle.command_model.specs.Walk.{Making}
use Rattle.let_code.specs.declared.inlining.Valuing.{Valuing}
use Rattle.let_code.specs.Uses.{read_scope}

-- a node after
abbrev pub valued : Valuing → Making ℕ
valued it path (var n) = if is_some (read_scope it.names.now (method_of it.method.now) it.variable (path, var n)) then it.value.now else var n
valued it path t = t
