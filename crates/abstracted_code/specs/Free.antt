-- Where a name of code is that of a variable, and no scope in the code declares it.
use Rattle.std.specs.Prelude.{ℕ, List, Bool, false, not, ◌&&◌, nat_eq, if◌then◌else◌}
use Rattle.std.specs.Option.{option_map_or}
use Rattle.tree_model.specs.Tree.{TreeOf, var, literal, send, cascade, assign, block, brace, return, no_trees, more_trees}
use Rattle.tree_model.specs.Nodes.{Placed}
use Rattle.scope_model.specs.declared.local.Local.{Local}
use Rattle.scope_model.specs.NameTests.{is_pseudo_in}
use Rattle.scope_model.specs.Scope.{local_in, local_in_doit}
use Rattle.st_tree.specs.View.{method_of, sequence_of}
use Rattle.image_model.specs.Uses.{name_used}
use Rattle.command_model.specs.Places.{is_local}
use Rattle.command_model.specs.Walk.{Making}
use Rattle.abstracted_code.specs.declared.abstraction.Abstraction.{Abstraction}
use Rattle.abstracted_code.specs.declared.abstracting.Code.{Code}
use Rattle.abstracted_code.specs.declared.abstracting.Code.TheVariants as code
use Rattle.abstracted_code.specs.declared.abstracting.Abstracting.{Abstracting}

-- what a name stands for in the code, at the place to which a path leads
abbrev pub local_of : List (List ℕ) → Code → List ℕ → ℕ → Local
local_of names (code.Method m) path n = local_in nat_eq (is_pseudo_in names) (method_of m.now) path n
local_of names (code.DoIt b) path n = local_in_doit nat_eq (is_pseudo_in names) (sequence_of b.now) path n

-- a node after: where it reads a name that passes a test, a message of the getter, and where it assigns it, one of the setter
abbrev pub made_by : Abstraction → (List ℕ → ℕ → Bool) → Making ℕ
made_by a test path (var n) = if test path n then send (var a.self_name) a.variable no_trees else var n
made_by a test path (literal l) = literal l
made_by a test path (send r s args) = send r s args
made_by a test path (cascade r ms) = cascade r ms
made_by a test path (assign n t) = if test path n then send (var a.self_name) a.setter (more_trees t no_trees) else assign n t
made_by a test path (block ps ts ss e) = block ps ts ss e
made_by a test path (brace ts) = brace ts
made_by a test path (return t) = return t

module _ (it : Abstracting) where
  -- whether a name at the end of a path is the variable's, and no scope declares it
  abbrev pub is_free : List ℕ → ℕ → Bool
  is_free path n = nat_eq it.abstraction.variable n && not (is_local (local_of it.names.now it.code path n))

  -- whether a node reads or assigns such a name
  abbrev pub is_use : Placed ℕ → Bool
  is_use e = option_map_or (is_free e.0) (name_used e.1) false

  -- a node after
  abbrev pub made_free : Making ℕ
  made_free = made_by it.abstraction is_free
