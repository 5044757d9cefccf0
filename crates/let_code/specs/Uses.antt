-- Where a temporary is assigned and read.
use Rattle.std.specs.Prelude.{ℕ, suc, ◌==◌, Bool, nat_eq, if◌then◌else◌, List, [], ◌∷◌, map, filter, length, take, slice_get, Option, None, Some, is_some}
use Rattle.std.specs.Option.{option_map}
use Rattle.tree_model.specs.Tree.{var, assign, MethodOf}
use Rattle.tree_model.specs.Nodes.{Placed}
use Rattle.scope_model.specs.declared.local.Local.{Local}
use Rattle.scope_model.specs.NameTests.{is_pseudo_in}
use Rattle.scope_model.specs.Scope.{local_in}
use Rattle.placed_nodes.specs.declared.placed.PlacedNode.{PlacedNode}
use Rattle.command_model.specs.Places.{temporary_scope}
use Rattle.command_model.specs.Temporaries.{LetOf}

-- a node with its path, as a tree
abbrev pub as_placed : PlacedNode → Placed ℕ
as_placed e = (e.path, e.node.now)

-- the items that there may be one of
abbrev pub listed : {X : Type 0} → Option X → List X
listed None = []
listed (Some x) = x ∷ []

-- an assignment as a statement of the sequence to which so many steps lead
abbrev pub let_at : Placed ℕ → ℕ → Option (LetOf ℕ)
let_at (path, assign n t) scope =
    if length path == suc scope
    then option_map (λ k. record { sequence = take scope path; number = k; value = t }) (slice_get path scope)
    else None
let_at (path, t) scope = None

module _ (names : List (List ℕ)) (m : MethodOf ℕ) (x : ℕ) where
  -- what a name at a place is in the method
  abbrev pub local : List ℕ → ℕ → Local
  local path n = local_in nat_eq (is_pseudo_in names) m path n

  -- how many steps lead to the scope of the temporary x that a node assigns, or reads
  abbrev pub assigned_scope : Placed ℕ → Option ℕ
  assigned_scope (path, assign n t) = if nat_eq x n then temporary_scope (local path n) else None
  assigned_scope (path, t) = None

  abbrev pub read_scope : Placed ℕ → Option ℕ
  read_scope (path, var n) = if nat_eq x n then temporary_scope (local path n) else None
  read_scope (path, t) = None

  -- whether there is such a scope
  abbrev pub is_assigned : Placed ℕ → Bool
  is_assigned e = is_some (assigned_scope e)

  abbrev pub is_read : Placed ℕ → Bool
  is_read e = is_some (read_scope e)

  -- the paths of those nodes that read the temporary
  abbrev pub reads_among : List (Placed ℕ) → List (List ℕ)
  reads_among es = map (λ e. e.0) (filter is_read es)
