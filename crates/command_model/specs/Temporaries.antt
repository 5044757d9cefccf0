-- What `extractTemp`, `inlineTemp` and `renameTemp` make of a method.
use Rattle.std.specs.Prelude.{ℕ, suc, ◌==◌, Bool, not, if◌then◌else◌, List, [], ◌∷◌, ◌++◌, map, filter, flat_map, length, take, slice_get, Option, Some, None, is_some, option_and_then, option_map}
use Rattle.tree_model.specs.Tree.{TreeOf, var, assign, block, no_statements, SequenceOf, MethodOf}
use Rattle.tree_model.specs.Path.{part_in, method_replaced}
use Rattle.tree_model.specs.Nodes.{Placed, nodes}
use Rattle.scope_model.specs.declared.local.Local.{Local}
use Rattle.scope_model.specs.Scope.{local_in}
use Rattle.rename_model.specs.NamesThere.{declared_by}
use Rattle.command_model.specs.Asked.{AskedOf}
use Rattle.command_model.specs.Places.{is_local, temporary_scope, sequence_round, statement_round}
use Rattle.command_model.specs.Walk.{rebuilt_method}
use Rattle.command_model.specs.Sequences.{single, put_in, put_for, sequence_changed}

-- what a method declares: its arguments, its temporaries, and the parameters and temporaries of its blocks
abbrev pub declared_in : {N : Type 0} → MethodOf N → List N
declared_in m = m.arguments ++ m.body.temporaries ++ flat_map (λ e. declared_by e.1) (nodes m.body)

-- an assignment to a temporary that is a whole statement: the path of the sequence, which declares the temporary, the number of the statement, and what is assigned
pub record LetOf (N : Type 0) : Type 0 where
  pub sequence : List ℕ
  pub number : ℕ
  pub value : TreeOf N

-- the item of a list that has no other one
abbrev pub only : {X : Type 0} → List X → Option X
only (x ∷ []) = Some x
only xs = None

module _ {N : Type 0} (a : AskedOf N) where
  -- whether two names are the same, and what a name at a place is in a method
  abbrev same : N → N → Bool
  same = a.words.tests.same

  abbrev local : MethodOf N → List ℕ → N → Local
  local m path n = local_in same a.words.tests.is_pseudo m path n

  -- whether exactly one place of the method declares the name
  abbrev pub is_declared_once : MethodOf N → N → Bool
  is_declared_once m x = length (filter (same x) (declared_in m)) == 1

  -- how many steps lead to the scope of a temporary x that a node assigns, or reads
  abbrev pub assigned_scope : MethodOf N → N → Placed N → Option ℕ
  assigned_scope m x (path, assign n t) = if same x n then temporary_scope (local m path n) else None
  assigned_scope m x (path, t) = None

  abbrev pub read_scope : MethodOf N → N → Placed N → Option ℕ
  read_scope m x (path, var n) = if same x n then temporary_scope (local m path n) else None
  read_scope m x (path, t) = None

  -- the paths of the nodes that read a temporary
  abbrev pub reads_of : MethodOf N → N → List (List ℕ)
  reads_of m x = map (λ e. e.0) (filter (λ e. is_some (read_scope m x e)) (nodes m.body))

  -- an assignment as a statement of the sequence to which so many steps lead
  abbrev pub let_at : Placed N → ℕ → Option (LetOf N)
  let_at (path, assign n t) scope =
      if length path == suc scope
      then option_map (λ k. record { sequence = take scope path; number = k; value = t }) (slice_get path scope)
      else None
  let_at (path, t) scope = None

  -- the one assignment to a temporary x that only one place declares, where it is a whole statement of the declaring sequence
  abbrev pub let_of : MethodOf N → N → Option (LetOf N)
  let_of m x =
      if is_declared_once m x
      then option_and_then (λ e. option_and_then (let_at e) (assigned_scope m x e)) (only (filter (λ e. is_some (assigned_scope m x e)) (nodes m.body)))
      else None

  -- the method in which a temporary x stands in place of an expression, which is assigned to it before the statement that has the expression; x is the last temporary of that sequence
  abbrev pub temporary_extracted : MethodOf N → List ℕ → N → Option (MethodOf N)
  temporary_extracted m path x =
      option_and_then (λ t. option_map (λ k. sequence_changed (declaring k t) (sequence_round m path) (method_replaced m path (var x))) (statement_round m path)) (part_in m.body path)
    where
      declaring : ℕ → TreeOf N → SequenceOf N → SequenceOf N
      declaring k t b = let c : SequenceOf N = put_in k 0 (single (assign x t)) b in record c { temporaries = c.temporaries ++ x ∷ [] }

  -- the method in which the reads of a temporary x are what is assigned to it; the assignment and the declaration go
  abbrev pub temporary_inlined : MethodOf N → N → LetOf N → MethodOf N
  temporary_inlined m x e = sequence_changed without (e.sequence) (rebuilt_method valued m)
    where
      without : SequenceOf N → SequenceOf N
      without b = let c : SequenceOf N = put_for e.number no_statements b in record c { temporaries = filter (λ n. not (same x n)) c.temporaries }

      valued : List ℕ → TreeOf N → TreeOf N
      valued path (var n) = if is_some (read_scope m x (path, var n)) then e.value else var n
      valued path t = t

  -- the method in which an argument, parameter or temporary x is called y where it is declared, read and assigned
  abbrev pub temporary_renamed : MethodOf N → N → N → MethodOf N
  temporary_renamed m x y =
      let n : MethodOf N = rebuilt_method called m in
      record n { arguments = map new_name n.arguments; body = record n.body { temporaries = map new_name n.body.temporaries } }
    where
      new_name : N → N
      new_name n = if same x n then y else n

      use_name : List ℕ → N → N
      use_name path n = if is_local (local m path n) then new_name n else n

      called : List ℕ → TreeOf N → TreeOf N
      called path (var n) = var (use_name path n)
      called path (assign n t) = assign (use_name path n) t
      called path (block ps ts ss e) = block (map new_name ps) (map new_name ts) ss e
      called path t = t
