-- What is in the way of the conditions of a part that is taken out of a method.
use Rattle.std.specs.Prelude.{ℕ, zero, suc, Bool, true, false, not, ◌&&◌, ◌||◌, nat_lt, if◌then◌else◌, List, [], ◌∷◌, ◌++◌, map, filter, take, drop}
use Rattle.std.specs.Option.{option_map_or}
use Rattle.tree_model.specs.Tree.{TreeOf, var, cascade, assign, TreesOf, no_trees, more_trees, more_messages, MethodOf}
use Rattle.tree_model.specs.Path.{count, child, children, part_in}
use Rattle.tree_model.specs.Nodes.{Placed}
use Rattle.scope_model.specs.declared.local.Local.{Local}
use Rattle.scope_model.specs.declared.local.Local.TheVariants.{Argument, Temporary, NotLocal}
use Rattle.scope_model.specs.Scope.{local_in}
use Rattle.image_model.specs.Image.{EntryOf, ImageOf}
use Rattle.command_model.specs.Asked.{AskedOf}
use Rattle.command_model.specs.Parts.{Part, Expression, Run, inside_from}
use Rattle.command_model.specs.Places.{part_nodes, is_return, stands_in_closure, innermost}
use Rattle.command_model.specs.Plain.{is_plain}
use Rattle.command_model.specs.PartConditions.{is_part, is_value_unused, is_assigned_in_the_open}
use Rattle.refusal_witnesses.specs.Witnesses.{InMethod, WitnessOf, APart, a_node, where_true}

-- the nodes of a part that pass a test
abbrev pub part_nodes_that : {N : Type 0} → (Placed N → Bool) → EntryOf N → Part → List (WitnessOf N)
part_nodes_that test m part = map (λ e. a_node (InMethod m) e.0) (filter test (part_nodes m.tree part))

-- NoReturn: the returns in the part
abbrev pub returns_in : {N : Type 0} → EntryOf N → Part → List (WitnessOf N)
returns_in m part = part_nodes_that (λ e. is_return e.1) m part

-- ValueUnused: the part itself, if its value is asked for
abbrev pub used_value : {N : Type 0} → EntryOf N → Part → List (WitnessOf N)
used_value m part = where_true (not (is_value_unused m.tree part)) (APart (InMethod m) part)

-- of a step from a node: in a cascade, whether it leads to its receiver or an argument of its first message, before which nothing is sent
abbrev pub is_before_sends : {N : Type 0} → TreeOf N → ℕ → Bool
is_before_sends (cascade r (more_messages s args ms)) k = nat_lt k (suc (count args))
is_before_sends t k = true

module _ {N : Type 0} (a : AskedOf N) where
  -- PartIs: the part itself, if it is `super`, a return or a block of a control send
  abbrev pub no_part : EntryOf N → Part → List (WitnessOf N)
  no_part m part = where_true (not (is_part a m.tree part)) (APart (InMethod m) part)

  -- what a name at a place is in a method
  abbrev local : MethodOf N → List ℕ → N → Local
  local m path n = local_in a.words.tests.same a.words.tests.is_pseudo m path n

  -- whether a name is declared in a scope to which fewer steps lead
  abbrev pub is_declared_outside : ℕ → Local → Bool
  is_declared_outside inside (Argument scope) = nat_lt scope inside
  is_declared_outside inside (Temporary scope) = nat_lt scope inside
  is_declared_outside inside NotLocal = false

  -- whether a node assigns what is declared outside
  abbrev pub assigns_outer : MethodOf N → ℕ → Placed N → Bool
  assigns_outer m inside (path, assign n t) = is_declared_outside inside (local m path n)
  assigns_outer m inside (path, t) = false

  -- AssignsNoOuter: the assignments in the part to what is declared outside it
  abbrev pub outer_assignments : EntryOf N → Part → List (WitnessOf N)
  outer_assignments m part = part_nodes_that (assigns_outer m.tree (inside_from part)) m part

  -- whether a temporary that is named at a place of the part is declared inside the part; or no closure assigns it, and if it is read there, that is in no closure of the part
  abbrev pub is_steady : MethodOf N → ℕ → List ℕ → N → (is_read : Bool) → Local → Bool
  is_steady m inside path n is_read (Temporary scope) =
      not (nat_lt scope inside)
      || (is_assigned_in_the_open a m path scope n && not (is_read && stands_in_closure a.words.tests.form m inside path))
  is_steady m inside path n is_read l = true

  abbrev pub is_node_steady : MethodOf N → ℕ → Placed N → Bool
  is_node_steady m inside (path, var n) = is_steady m inside path n true (local m path n)
  is_node_steady m inside (path, assign n t) = is_steady m inside path n false (local m path n)
  is_node_steady m inside (path, t) = true

  -- TempsSteady: the nodes of the part that name a temporary which is not steady
  abbrev pub unsteady : EntryOf N → Part → List (WitnessOf N)
  unsteady m part = part_nodes_that (λ e. not (is_node_steady m.tree (inside_from part) e)) m part

  module _ (i : ImageOf N) (m : EntryOf N) (path : List ℕ) where
    -- the paths of those among the first so many of the trees that are not plain, by what names mean at the place of the part; the trees are children of the node at a path, from the j-th on
    abbrev pub not_plain : List ℕ → ℕ → ℕ → TreesOf N → List (List ℕ)
    not_plain at j zero ts = []
    not_plain at j (suc k) no_trees = []
    not_plain at j (suc k) (more_trees t ts) = (if is_plain a i m path t then [] else (at ++ j ∷ []) ∷ []) ++ not_plain at (suc j) k ts

    -- the paths of what a node at a path evaluates before the part, to which steps lead on from it, and what is not plain: the cascade, if its later messages are sent after others, and children that stand before the one into which it steps
    abbrev pub before_it : List ℕ → TreeOf N → List ℕ → List (List ℕ)
    before_it at t [] = []
    before_it at t (k ∷ ks) =
        (if is_before_sends t k then [] else at ∷ [])
        ++ (not_plain at 0 k (children t) ++ option_map_or (λ c. before_it (at ++ k ∷ []) c ks) (child t k) (at ∷ []))

    -- so of the innermost statement round the part; the part itself, if it is none that can be evaluated first
    abbrev pub before_expression : List (List ℕ)
    before_expression =
        option_map_or (λ t.
        if is_return t
        then path ∷ []
        else option_map_or (λ s. before_it (take (suc (innermost m.tree path)) path) s (drop (suc (innermost m.tree path)) path))
        (part_in m.tree.body (take (suc (innermost m.tree path)) path)) (path ∷ []))
        (part_in m.tree.body path) (path ∷ [])

  -- FirstEvaluated: what is evaluated before the part and is not plain; neighbouring statements are no expression
  abbrev pub evaluated_before : ImageOf N → EntryOf N → Part → List (WitnessOf N)
  evaluated_before i m (Expression path) = map (a_node (InMethod m)) (before_expression i m path)
  evaluated_before i m (Run path first count) = APart (InMethod m) (Run path first count) ∷ []
