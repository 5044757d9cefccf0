-- Uses of names: whether each is an assignment, and whether it stands in a closure.
use Rattle.std.specs.Prelude.{ℕ, Bool, true, false, not, ◌&&◌, List, [], ◌∷◌, ◌++◌, map, filter, unwrap_or, option_map}
use Rattle.std.specs.List.{list_any}
use Rattle.tree_model.specs.Tree.{TreeOf, var, literal, send, cascade, assign, block, brace, return, TreesOf, no_trees, more_trees, MessagesOf, no_messages, more_messages, StatementsOf, no_statements, more_statements, SequenceOf, MethodOf}
use Rattle.scope_model.specs.declared.local.ControlForm.{ControlForm}
use Rattle.scope_model.specs.Control.{is_loop, meets}
use Rattle.scope_model.specs.Scope.{ScopeOf, method_scope, doit_scope, scope_at, declares}

-- a place where a name is read or assigned, and whether that stands in a closure inside the part that is looked at
pub record UseOf (N : Type 0) : Type 0 where
  pub name : N
  pub is_assignment : Bool
  pub in_closure : Bool

-- the same use, inside a closure
abbrev pub enclosed : {N : Type 0} → UseOf N → UseOf N
enclosed u = record { name = u.name; is_assignment = u.is_assignment; in_closure = true }

-- the uses in a block: a block that is run in place is no closure, any other one is
abbrev pub uses_in_block : {N : Type 0} → Bool → List (UseOf N) → List (UseOf N)
uses_in_block true us = us
uses_in_block false us = map enclosed us

-- an assignment to the name that stands in a closure
abbrev pub is_captured : {N : Type 0} → (N → N → Bool) → N → UseOf N → Bool
is_captured same n u = same n u.name && (u.is_assignment && u.in_closure)

module _ {N : Type 0} (same : N → N → Bool) (is_pseudo : N → Bool) (form : N → ControlForm) where
  abbrev mutual
    -- the uses of the free names of a tree, in the order of the text; `in_place` says that the tree is run in place where it is a block
    pub uses : (in_place : Bool) → TreeOf N → List (UseOf N)
    uses in_place (var n) = record { name = n; is_assignment = false; in_closure = false } ∷ []
    uses in_place (literal l) = []
    uses in_place (send r s args) = uses (is_loop (form s) && meets (form s) r args) r ++ trees_uses (meets (form s) r args) args
    uses in_place (cascade r ms) = uses false r ++ messages_uses ms
    uses in_place (assign n t) = record { name = n; is_assignment = true; in_closure = false } ∷ uses false t
    uses in_place (block ps ts ss e) =
        uses_in_block in_place (filter (λ u. not (declares same is_pseudo ps ts u.name)) (statements_uses ss))
    uses in_place (brace ts) = trees_uses false ts
    uses in_place (return t) = uses false t

    pub trees_uses : (in_place : Bool) → TreesOf N → List (UseOf N)
    trees_uses in_place no_trees = []
    trees_uses in_place (more_trees t ts) = uses in_place t ++ trees_uses in_place ts

    pub messages_uses : MessagesOf N → List (UseOf N)
    messages_uses no_messages = []
    messages_uses (more_messages s args ms) = trees_uses false args ++ messages_uses ms

    pub statements_uses : StatementsOf N → List (UseOf N)
    statements_uses no_statements = []
    statements_uses (more_statements c t ss) = uses false t ++ statements_uses ss

  -- the scope declares the name, and an assignment that means this declaration stands in a closure inside the scope
  abbrev pub assigned_in_closure_of : ScopeOf N → N → Bool
  assigned_in_closure_of s n =
      declares same is_pseudo s.arguments s.temporaries n && list_any (is_captured same n) (statements_uses s.statements)

  -- the same of the scope at a path, where the outermost one is at the empty path
  abbrev pub assigned_in_closure_at : ScopeOf N → List ℕ → N → Bool
  assigned_in_closure_at s path n = unwrap_or (option_map (λ inner. assigned_in_closure_of inner n) (scope_at s path)) false

  -- the same in a method
  abbrev pub assigned_in_closure : MethodOf N → List ℕ → N → Bool
  assigned_in_closure m path n = assigned_in_closure_at (method_scope m) path n

  -- the same in a do-it
  abbrev pub assigned_in_closure_doit : SequenceOf N → List ℕ → N → Bool
  assigned_in_closure_doit b path n = assigned_in_closure_at (doit_scope b) path n
