-- Scopes of names: methods, do-its and literal blocks, and what a name stands for at a place in them.
use Rattle.std.specs.Prelude.{ℕ, ◌+◌, Bool, not, ◌&&◌, ◌||◌, if◌then◌else◌, List, [], ◌∷◌, ◌++◌, Option, Some, None, option_and_then, option_map, unwrap_or}
use Rattle.std.specs.List.{list_any}
use Rattle.tree_model.specs.Tree.{TreeOf, var, literal, send, cascade, assign, block, brace, return, StatementsOf, SequenceOf, MethodOf}
use Rattle.tree_model.specs.Path.{child, nth, statement_trees, part_among}
use Rattle.scope_model.specs.declared.local.Local.{Local}
use Rattle.scope_model.specs.declared.local.Local.TheVariants.{Argument, Temporary, NotLocal}

-- what declares names and where they may be used: its arguments or parameters, its temporaries, its statements
pub record ScopeOf (N : Type 0) : Type 0 where
  pub arguments : List N
  pub temporaries : List N
  pub statements : StatementsOf N

-- a method as a scope
abbrev pub method_scope : {N : Type 0} → MethodOf N → ScopeOf N
method_scope m = record { arguments = m.arguments; temporaries = m.body.temporaries; statements = m.body.statements }

-- a do-it as a scope, which has no arguments
abbrev pub doit_scope : {N : Type 0} → SequenceOf N → ScopeOf N
doit_scope b = record { arguments = []; temporaries = b.temporaries; statements = b.statements }

-- the scope that a node is, where it is a literal block
abbrev pub block_scope : {N : Type 0} → TreeOf N → Option (ScopeOf N)
block_scope (var n) = None
block_scope (literal l) = None
block_scope (send r s args) = None
block_scope (cascade r ms) = None
block_scope (assign n t) = None
block_scope (block ps ts ss e) = Some (record { arguments = ps; temporaries = ts; statements = ss })
block_scope (brace ts) = None
block_scope (return t) = None

-- the scope at a path: the outermost one for the empty path, and else the block to which the path leads
abbrev pub scope_at : {N : Type 0} → ScopeOf N → List ℕ → Option (ScopeOf N)
scope_at s [] = Some s
scope_at s (k ∷ ks) = option_and_then block_scope (part_among (statement_trees s.statements) (k ∷ ks))

-- a scope, and how many steps of a path lead to it
abbrev pub PlacedScope : Type 0 → Type 0
PlacedScope N = ℕ × ScopeOf N

-- the block that a node is, if it is one
abbrev pub own_scope : {N : Type 0} → ℕ → TreeOf N → List (PlacedScope N)
own_scope depth t = unwrap_or (option_map (λ s. (depth, s) ∷ []) (block_scope t)) []

-- the blocks that a path enters on from a node to which `depth` steps have led, innermost first; it does not enter the node at its end
abbrev pub entered : {N : Type 0} → ℕ → TreeOf N → List ℕ → List (PlacedScope N)
entered depth t [] = []
entered depth t (k ∷ ks) = unwrap_or (option_map (λ c. entered (depth + 1) c ks) (child t k)) [] ++ own_scope depth t

-- the scopes round the place to which a path leads, innermost first
abbrev pub scopes_round : {N : Type 0} → ScopeOf N → List ℕ → List (PlacedScope N)
scopes_round s [] = (0, s) ∷ []
scopes_round s (k ∷ ks) = unwrap_or (option_map (λ c. entered 1 c ks) (nth (statement_trees s.statements) k)) [] ++ (0, s) ∷ []

-- whether the name is among these
abbrev pub is_among : {N : Type 0} → (N → N → Bool) → List N → N → Bool
is_among same ns n = list_any (same n) ns

-- what the innermost scope that declares the name says of it
abbrev pub local_by : {N : Type 0} → (N → N → Bool) → List (PlacedScope N) → N → Local
local_by same [] n = NotLocal
local_by same (p ∷ ps) n =
    if is_among same p.1.arguments n then Argument p.0
    else if is_among same p.1.temporaries n then Temporary p.0
    else local_by same ps n

-- what a name stands for at the place to which a path leads; a pseudo-variable is never a local
abbrev pub local_in_scope : {N : Type 0} → (N → N → Bool) → (N → Bool) → ScopeOf N → List ℕ → N → Local
local_in_scope same is_pseudo s path n = if is_pseudo n then NotLocal else local_by same (scopes_round s path) n

-- the same in a method
abbrev pub local_in : {N : Type 0} → (N → N → Bool) → (N → Bool) → MethodOf N → List ℕ → N → Local
local_in same is_pseudo m path n = local_in_scope same is_pseudo (method_scope m) path n

-- the same in a do-it
abbrev pub local_in_doit : {N : Type 0} → (N → N → Bool) → (N → Bool) → SequenceOf N → List ℕ → N → Local
local_in_doit same is_pseudo b path n = local_in_scope same is_pseudo (doit_scope b) path n

-- whether these arguments and temporaries declare what the name stands for
abbrev pub declares : {N : Type 0} → (N → N → Bool) → (N → Bool) → List N → List N → N → Bool
declares same is_pseudo ps ts n = not (is_pseudo n) && (is_among same ps n || is_among same ts n)
