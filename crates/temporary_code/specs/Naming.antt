-- Code in which an argument, a parameter or a temporary of a method has another name.
use Rattle.std.specs.Prelude.{ℕ, List, map, nat_eq, if◌then◌else◌}
use Rattle.tree_model.specs.Tree.{var, literal, send, cascade, assign, block, brace, return, MethodOf}
use Rattle.scope_model.specs.Scope.{local_in}
use Rattle.scope_model.specs.NameTests.{is_pseudo_in}
use Rattle.st_tree.specs.View.{method_of}
use Rattle.command_model.specs.Places.{is_local}
use Rattle.command_model.specs.Walk.{Making, rebuilt_method}
use Rattle.temporary_code.specs.declared.naming.Naming.{Naming}

-- a name, or y in place of x
abbrev pub new_name : (x y n : ℕ) → ℕ
new_name x y n = if nat_eq x n then y else n

module _ (it : Naming) where
  -- the name that a node at the end of a path reads or assigns, after
  abbrev pub use_name : List ℕ → ℕ → ℕ
  use_name path n = if is_local (local_in nat_eq (is_pseudo_in it.names.now) (method_of it.method.now) path n) then new_name it.variable it.to n else n

  -- a node after
  abbrev pub called : Making ℕ
  called path (var n) = var (use_name path n)
  called path (literal l) = literal l
  called path (send r s args) = send r s args
  called path (cascade r ms) = cascade r ms
  called path (assign n t) = assign (use_name path n) t
  called path (block ps ts ss e) = block (map (new_name it.variable it.to) ps) (map (new_name it.variable it.to) ts) ss e
  called path (brace ts) = brace ts
  called path (return t) = return t

  -- a method after
  abbrev pub method_called : MethodOf ℕ → MethodOf ℕ
  method_called m =
      let n : MethodOf ℕ = rebuilt_method called m in
      record n { arguments = map (new_name it.variable it.to) n.arguments; body = record n.body { temporaries = map (new_name it.variable it.to) n.body.temporaries } }
