-- The conditions of a part that is taken out of a method.
use Rattle.std.specs.Prelude.{ℕ, ◌+◌, Bool, true, false, not, ◌&&◌, ◌||◌, nat_lt, List, [], ◌∷◌, take, drop, zero, suc}
use Rattle.std.specs.List.{list_any, list_all}
use Rattle.std.specs.Option.{option_map_or}
use Rattle.tree_model.specs.Tree.{TreeOf, var, cascade, assign, TreesOf, no_trees, more_trees, more_messages, MethodOf}
use Rattle.tree_model.specs.Path.{count, child, children, statement_trees, part_in}
use Rattle.tree_model.specs.Nodes.{Placed}
use Rattle.scope_model.specs.declared.local.Local.{Local}
use Rattle.scope_model.specs.declared.local.Local.TheVariants.{Argument, Temporary, NotLocal}
use Rattle.scope_model.specs.Scope.{local_in}
use Rattle.scope_model.specs.FreeNames.{statements_at}
use Rattle.scope_model.specs.Uses.{assigned_in_closure}
use Rattle.image_model.specs.Image.{EntryOf, ImageOf}
use Rattle.command_model.specs.SameMethods.{is_super_node}
use Rattle.command_model.specs.Parts.{Part, Expression, Run, inside_from}
use Rattle.command_model.specs.Asked.{AskedOf}
use Rattle.command_model.specs.Places.{part_nodes, is_return, is_in_place, stands_in_closure, innermost}
use Rattle.command_model.specs.Plain.{is_plain}

-- whether a part is an expression that passes a test; a return is no expression
abbrev pub is_expression_that : {N : Type 0} → (List ℕ → TreeOf N → Bool) → MethodOf N → Part → Bool
is_expression_that test m (Expression path) = option_map_or (λ t. not (is_return t) && test path t) (part_in m.body path) false
is_expression_that test m (Run path first count) = false

-- no node of the part is a return
abbrev pub has_no_return : {N : Type 0} → MethodOf N → Part → Bool
has_no_return m part = not (list_any (λ e. is_return e.1) (part_nodes m part))

-- an expression; or a run of the method's own statements, or one that does not end a block
abbrev pub is_value_unused : {N : Type 0} → MethodOf N → Part → Bool
is_value_unused m (Expression path) = is_expression_that (λ p t. true) m (Expression path)
is_value_unused m (Run [] first n) = true
is_value_unused m (Run (k ∷ ks) first n) = nat_lt (first + n) (count (statement_trees (statements_at m.body (k ∷ ks))))

-- where a node steps into a cascade: whether that is its receiver or an argument of its first message, before which nothing is sent
abbrev pub is_before_sends : {N : Type 0} → TreeOf N → ℕ → Bool
is_before_sends (cascade r (more_messages s args ms)) k = nat_lt k (suc (count args))
is_before_sends t k = true

module _ {N : Type 0} (a : AskedOf N) where
  -- what a name at a place is in a method
  abbrev local : MethodOf N → List ℕ → N → Local
  local m path n = local_in a.words.tests.same a.words.tests.is_pseudo m path n

  -- an expression that is neither `super` nor a block of a control send, or a run
  abbrev pub is_part : MethodOf N → Part → Bool
  is_part m (Expression path) =
      is_expression_that (λ p t. not (is_super_node a.is_super t) && not (is_in_place a.words.tests.form m.body p)) m (Expression path)
  is_part m (Run path first n) = true

  -- whether a name is declared in a scope to which fewer steps lead
  abbrev pub is_declared_outside : ℕ → Local → Bool
  is_declared_outside inside (Argument scope) = nat_lt scope inside
  is_declared_outside inside (Temporary scope) = nat_lt scope inside
  is_declared_outside inside NotLocal = false

  -- whether a node assigns what is declared outside
  abbrev pub assigns_outer : MethodOf N → ℕ → Placed N → Bool
  assigns_outer m inside (path, assign n t) = is_declared_outside inside (local m path n)
  assigns_outer m inside (path, t) = false

  -- no node of the part does
  abbrev pub assigns_no_outer : MethodOf N → Part → Bool
  assigns_no_outer m part = not (list_any (assigns_outer m (inside_from part)) (part_nodes m part))

  -- no assignment to a temporary of the scope to which so many steps of a path lead stands in a closure inside that scope
  abbrev pub is_assigned_in_the_open : MethodOf N → List ℕ → ℕ → N → Bool
  is_assigned_in_the_open m path scope n =
      not (assigned_in_closure a.words.tests.same a.words.tests.is_pseudo a.words.tests.form m (take scope path) n)

  -- a temporary that is named at a place of the part is declared inside the part; or no closure assigns it, and if it is read there, that is in no closure of the part
  abbrev pub is_steady : MethodOf N → ℕ → List ℕ → N → (is_read : Bool) → Local → Bool
  is_steady m inside path n is_read (Temporary scope) =
      not (nat_lt scope inside)
      || (is_assigned_in_the_open m path scope n && not (is_read && stands_in_closure a.words.tests.form m inside path))
  is_steady m inside path n is_read l = true

  abbrev pub is_node_steady : MethodOf N → ℕ → Placed N → Bool
  is_node_steady m inside (path, var n) = is_steady m inside path n true (local m path n)
  is_node_steady m inside (path, assign n t) = is_steady m inside path n false (local m path n)
  is_node_steady m inside (path, t) = true

  -- so is each temporary in the part
  abbrev pub are_temporaries_steady : MethodOf N → Part → Bool
  are_temporaries_steady m part = list_all (is_node_steady m (inside_from part)) (part_nodes m part)

  -- whether the first so many of the trees are plain, by what names mean at a place
  abbrev pub are_first_plain : ImageOf N → EntryOf N → List ℕ → ℕ → TreesOf N → Bool
  are_first_plain i m path zero ts = true
  are_first_plain i m path (suc k) no_trees = true
  are_first_plain i m path (suc k) (more_trees t ts) = is_plain a i m path t && are_first_plain i m path k ts

  -- whether a node evaluates nothing but plain expressions before the part, to which steps lead on from it
  abbrev pub is_plain_before : ImageOf N → EntryOf N → List ℕ → TreeOf N → List ℕ → Bool
  is_plain_before i m path t [] = true
  is_plain_before i m path t (k ∷ ks) =
      is_before_sends t k && (are_first_plain i m path k (children t) && option_map_or (λ c. is_plain_before i m path c ks) (child t k) false)

  -- an expression before which its innermost statement evaluates nothing but plain expressions
  abbrev pub is_first_evaluated : ImageOf N → EntryOf N → Part → Bool
  is_first_evaluated i m part =
      is_expression_that (λ path t.
      option_map_or (λ s. is_plain_before i m path s (drop (suc (innermost m.tree path)) path))
      (part_in m.tree.body (take (suc (innermost m.tree path)) path)) false) m.tree part
