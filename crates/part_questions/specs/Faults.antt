-- What may be wrong with a node of a part that is taken out.
use Rattle.std.specs.Prelude.{ℕ, Bool, true, false, not, ◌&&◌, ◌||◌, nat_eq, nat_lt, List}
use Rattle.std.specs.List.{list_any}
use Rattle.tree_model.specs.Tree.{var, assign}
use Rattle.tree_model.specs.Nodes.{Placed}
use Rattle.scope_model.specs.declared.local.Local.{Local}
use Rattle.scope_model.specs.declared.local.Local.TheVariants.{Argument, Temporary, NotLocal}
use Rattle.scope_model.specs.NameTests.{is_pseudo_in, form_in}
use Rattle.scope_model.specs.Scope.{local_in}
use Rattle.st_tree.specs.View.{method_of}
use Rattle.command_model.specs.Asked.{no_parts}
use Rattle.command_model.specs.Numbers.{number_asked}
use Rattle.command_model.specs.Parts.{inside_from, is_within}
use Rattle.command_model.specs.Places.{part_nodes, is_return, stands_in_closure}
use Rattle.command_model.specs.PartConditions.{is_assigned_in_the_open}
use Rattle.part_questions.specs.Parts.{part_of}
use Rattle.part_questions.specs.declared.faults.Fault.{Fault}
use Rattle.part_questions.specs.declared.faults.Fault.TheVariants as fault
use Rattle.part_questions.specs.declared.faults.Asked.{Asked}

-- whether a name is declared in a scope to which fewer steps lead
abbrev pub is_declared_outside : ℕ → Local → Bool
is_declared_outside inside (Argument scope) = nat_lt scope inside
is_declared_outside inside (Temporary scope) = nat_lt scope inside
is_declared_outside inside NotLocal = false

module _ (it : Asked) where
  -- what a name at a place is in the method
  abbrev pub local : List ℕ → ℕ → Local
  local path n = local_in nat_eq (is_pseudo_in it.names.now) (method_of it.method.now) path n

  -- whether it is steady there, by what it is
  abbrev pub is_steady_by : List ℕ → ℕ → (is_read : Bool) → Local → Bool
  is_steady_by path n is_read (Temporary scope) =
      not (nat_lt scope (inside_from (part_of it.part.now)))
      || (is_assigned_in_the_open (number_asked it.names.now 0 no_parts) (method_of it.method.now) path scope n
      && not (is_read && stands_in_closure (form_in it.names.now) (method_of it.method.now) (inside_from (part_of it.part.now)) path))
  is_steady_by path n is_read l = true

  abbrev pub is_steady : List ℕ → ℕ → (is_read : Bool) → Bool
  is_steady path n is_read = is_steady_by path n is_read (local path n)

  -- whether a node assigns what is declared outside the part
  abbrev pub assigns_outer : Placed ℕ → Bool
  assigns_outer (path, assign n t) = is_declared_outside (inside_from (part_of it.part.now)) (local path n)
  assigns_outer (path, t) = false

  -- whether the temporary that it names, if it does, is steady
  abbrev pub is_node_steady : Placed ℕ → Bool
  is_node_steady (path, var n) = is_steady path n true
  is_node_steady (path, assign n t) = is_steady path n false
  is_node_steady (path, t) = true

  -- whether a node has a fault
  abbrev pub has_fault : Fault → Placed ℕ → Bool
  has_fault fault.Return e = is_return e.1
  has_fault fault.AssignsOuter e = assigns_outer e
  has_fault fault.Unsteady e = not (is_node_steady e)

  -- whether a node is one of the part and has it
  abbrev pub is_at_fault : Fault → Placed ℕ → Bool
  is_at_fault what e = is_within (part_of it.part.now) e.0 && has_fault what e

  -- whether a node of the part has
  abbrev pub is_faulty : Fault → Bool
  is_faulty what = list_any (has_fault what) (part_nodes (method_of it.method.now) (part_of it.part.now))
