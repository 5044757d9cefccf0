-- What is asked of places in a method.
use Rattle.std.specs.Prelude.{ℕ, suc, ◌==◌, Bool, true, false, not, ◌&&◌, if◌then◌else◌, nat_le, List, [], ◌∷◌, filter, length, take, slice_get, Option, Some, None, option_and_then}
use Rattle.std.specs.List.{list_any}
use Rattle.std.specs.Option.{option_map_or}
use Rattle.tree_model.specs.Tree.{TreeOf, send, return, TreesOf, SequenceOf, MethodOf}
use Rattle.tree_model.specs.Path.{nth, statement_trees, part_in}
use Rattle.tree_model.specs.Nodes.{Placed, nodes}
use Rattle.scope_model.specs.declared.local.ControlForm.{ControlForm}
use Rattle.scope_model.specs.declared.local.Local.{Local}
use Rattle.scope_model.specs.declared.local.Local.TheVariants.{Argument, Temporary, NotLocal}
use Rattle.scope_model.specs.Control.{is_block, is_closure_at}
use Rattle.scope_model.specs.Scope.{PlacedScope, method_scope, scopes_round}
use Rattle.image_model.specs.Image.{EntryOf, ImageOf}
use Rattle.image_model.specs.Lookup.{own_method}
use Rattle.command_model.specs.Parts.{Part, Expression, Run, is_within}

-- the method of the user for a class, a side and a selector
abbrev pub users_method : {N : Type 0} → (N → N → Bool) → ImageOf N → N → Bool → N → Option (EntryOf N)
users_method same i c meta s = option_and_then (λ (m : EntryOf _). if m.kernel then None else Some m) (own_method same i.methods c meta s)

-- the nodes of a part, with their paths in the method
abbrev pub part_nodes : {N : Type 0} → MethodOf N → Part → List (Placed N)
part_nodes m part = filter (λ e. is_within part e.0) (nodes m.body)

-- whether a node is a return
abbrev pub is_return : {N : Type 0} → TreeOf N → Bool
is_return (return t) = true
is_return t = false

-- whether a name is declared in the method
abbrev pub is_local : Local → Bool
is_local NotLocal = false
is_local l = true

-- the number of steps that lead to the scope where a temporary is declared
abbrev pub temporary_scope : Local → Option ℕ
temporary_scope (Temporary scope) = Some scope
temporary_scope l = None

-- whether a name is an argument of the method itself
abbrev pub is_formal : Local → Bool
is_formal (Argument scope) = scope == 0
is_formal l = false

-- whether a name is declared in a block
abbrev pub is_of_block : Local → Bool
is_of_block (Argument scope) = not (scope == 0)
is_of_block (Temporary scope) = not (scope == 0)
is_of_block NotLocal = false

-- how many steps lead to the innermost scope round a place
abbrev pub innermost : {N : Type 0} → MethodOf N → List ℕ → ℕ
innermost m path = option_map_or (λ (s : PlacedScope _). s.0) (slice_get (scopes_round (method_scope m) path) 0) 0

-- the path of the sequence of the innermost statement round a place, and the number of the statement there
abbrev pub sequence_round : {N : Type 0} → MethodOf N → List ℕ → List ℕ
sequence_round m path = take (innermost m path) path

abbrev pub statement_round : {N : Type 0} → MethodOf N → List ℕ → Option ℕ
statement_round m path = slice_get path (innermost m path)

-- the number of the statement to which a path leads, where it leads to a whole one
abbrev pub whole_statement : {N : Type 0} → MethodOf N → List ℕ → Option ℕ
whole_statement m path = if length path == suc (innermost m path) then statement_round m path else None

-- whether a path leads to a closure
abbrev pub is_closure_in : {N : Type 0} → (N → ControlForm) → SequenceOf N → List ℕ → Bool
is_closure_in form b [] = false
is_closure_in form b (k ∷ ks) = option_map_or (λ t. is_closure_at form false t ks) (nth (statement_trees b.statements) k) false

-- whether a path leads to a block of a control send
abbrev pub is_in_place : {N : Type 0} → (N → ControlForm) → SequenceOf N → List ℕ → Bool
is_in_place form b path = option_map_or is_block (part_in b path) false && not (is_closure_in form b path)

-- whether a place stands in a closure to which so many steps lead at least
abbrev pub stands_in_closure : {N : Type 0} → (N → ControlForm) → MethodOf N → ℕ → List ℕ → Bool
stands_in_closure form m from path =
    list_any (λ s. nat_le from s.0 && is_closure_in form m.body (take s.0 path)) (scopes_round (method_scope m) path)

-- a message that a node sends, and where the node stands
pub record SendOf (N : Type 0) : Type 0 where
  pub path : List ℕ
  pub receiver : TreeOf N
  pub selector : N
  pub arguments : TreesOf N

-- the message of a node that is no cascade
abbrev pub as_send : {N : Type 0} → List ℕ → TreeOf N → Option (SendOf N)
as_send path (send r s args) = Some (record { path = path; receiver = r; selector = s; arguments = args })
as_send path t = None

-- the message that a part of a method is
abbrev pub sent_by : {N : Type 0} → MethodOf N → Part → Option (SendOf N)
sent_by m (Expression path) = option_and_then (as_send path) (part_in m.body path)
sent_by m (Run path first count) = None
