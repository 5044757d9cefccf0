-- The innermost scope round a statement.
use Rattle.std.proofs.Common.{◌≡◌, ℕ, suc, ◌+◌, List, [], ◌∷◌, ◌++◌, length, take, slice_get, ◌==◌, Bool, true, Option, Some, None, option_and_then, option_map, refl, ap, ◌∙◌, arith}
use Rattle.std.proofs.lemmas.Bool.{eq-eqb}
use Rattle.std.specs.Prelude.{unwrap_or, if◌then◌else◌}
use Rattle.std.specs.Option.{option_map_or}
use Rattle.tree_model.specs.Tree.{Notes, TreeOf, block, StatementsOf, MethodOf}
use Rattle.tree_model.specs.Path.{nth, child, statement_trees, part_at, part_in}
use Rattle.scope_model.specs.Scope.{ScopeOf, PlacedScope, method_scope, own_scope, entered}
use Rattle.command_model.specs.Places.{innermost, sequence_round, whole_statement}

-- the first item is this one
abbrev BeginsWith : {X : Type 0} → List X → X → Type 0
BeginsWith xs x = slice_get xs 0 ≡ Some x

-- it is so with further items behind
begins-append : {X : Type 0} (xs ys : List X) (x : X) → BeginsWith xs x → BeginsWith (xs ++ ys) x
begins-append [] ys x e = cc
begins-append (y ∷ xs) ys x e = e

module _ {N : Type 0} (ps ts : List N) (ss : StatementsOf N) (tail : Notes) where
  -- the scope of the block
  abbrev own : ScopeOf N
  own = record { arguments = ps; temporaries = ts; statements = ss }

  -- the block to which a path leads is the innermost scope round each of its statements
  entered-block : (depth : ℕ) (t : TreeOf N) (path : List ℕ) (k : ℕ) → part_at t path ≡ Some (block ps ts ss tail) → BeginsWith (entered depth t (path ++ k ∷ [])) (depth + length path, own)
  entered-block depth t [] k e =
      ap (λ (u : TreeOf N). slice_get (entered depth u (k ∷ [])) 0) (let same : t ≡ block ps ts ss tail = cc in same)
      ∙ by (child (block ps ts ss tail) k)
    where
      by : (o : Option (TreeOf N)) → slice_get (unwrap_or (option_map (λ c. entered (depth + 1) c []) o) [] ++ own_scope depth (block ps ts ss tail)) 0 ≡ Some (depth + 0, own)
      by None = ap (λ n. Some (n, own)) (let same : depth ≡ depth + 0 = omega arith in same)
      by (Some c) = ap (λ n. Some (n, own)) (let same : depth ≡ depth + 0 = omega arith in same)
  entered-block depth t (j ∷ js) k e = by (child t j) e (λ c. entered-block (depth + 1) c js k)
    where
      by : (o : Option (TreeOf N)) → option_and_then (λ c. part_at c js) o ≡ Some (block ps ts ss tail)
          → ((c : TreeOf N) → part_at c js ≡ Some (block ps ts ss tail) → BeginsWith (entered (depth + 1) c (js ++ k ∷ [])) (depth + 1 + length js, own))
          → BeginsWith (unwrap_or (option_map (λ c. entered (depth + 1) c (js ++ k ∷ [])) o) [] ++ own_scope depth t) (depth + length (j ∷ js), own)
      by None found later = cc
      by (Some c) found later =
          begins-append (entered (depth + 1) c (js ++ k ∷ [])) (own_scope depth t) (depth + 1 + length js, own) (later c found)
          ∙ ap (λ n. Some (n, own)) (let same : depth + 1 + length js ≡ depth + length (j ∷ js) = omega arith in same)

-- the last step of a path with one more, and the steps before it
pub last-step : (path : List ℕ) (k : ℕ) → slice_get (path ++ k ∷ []) (length path) ≡ Some k
last-step [] k = refl
last-step (j ∷ js) k = last-step js k

pub steps-before : (path : List ℕ) (k : ℕ) → take (length path) (path ++ k ∷ []) ≡ path
steps-before [] k = refl
steps-before (j ∷ js) k = ap (λ (xs : List ℕ). j ∷ xs) (steps-before js k)

steps : (path : List ℕ) (k : ℕ) → length (path ++ k ∷ []) ≡ suc (length path)
steps [] k = refl
steps (j ∷ js) k = ap suc (steps js k)

one-more : (path : List ℕ) (k : ℕ) → (length (path ++ k ∷ []) == suc (length path)) ≡ true
one-more path k = eq-eqb (length (path ++ k ∷ [])) (suc (length path)) (steps path k)

-- a path leads to a sequence: to the method's own, or to that of a block
pub data LeadsTo {N : Type 0} (m : MethodOf N) : List ℕ → Type 0 where
  ToBody : LeadsTo m []
  ToBlock : {k : ℕ} {ks : List ℕ} (ps ts : List N) (ss : StatementsOf N) (tail : Notes) → part_in m.body (k ∷ ks) ≡ Some (block ps ts ss tail) → LeadsTo m (k ∷ ks)

module _ {N : Type 0} (m : MethodOf N) (k : ℕ) where
  -- the innermost scope round a statement is as deep as the path of its sequence is long
  innermost-statement : (path : List ℕ) → LeadsTo m path → innermost m (path ++ k ∷ []) ≡ length path
  innermost-statement [] ToBody = by (nth (statement_trees m.body.statements) k)
    where
      by : (o : Option (TreeOf N))
          → option_map_or (λ (s : PlacedScope N). s.0) (slice_get (unwrap_or (option_map (λ c. entered 1 c []) o) [] ++ (0, method_scope m) ∷ []) 0) 0 ≡ 0
      by None = refl
      by (Some c) = refl
  innermost-statement (j ∷ js) (ToBlock ps ts ss tail e) = by (nth (statement_trees m.body.statements) j) e
    where
      by : (o : Option (TreeOf N)) → option_and_then (λ c. part_at c js) o ≡ Some (block ps ts ss tail)
          → option_map_or (λ (s : PlacedScope N). s.0) (slice_get (unwrap_or (option_map (λ c. entered 1 c (js ++ k ∷ [])) o) [] ++ (0, method_scope m) ∷ []) 0) 0 ≡ length (j ∷ js)
      by None found = cc
      by (Some c) found =
          ap (λ (o : Option (PlacedScope N)). option_map_or (λ s. s.0) o 0)
          (begins-append (entered 1 c (js ++ k ∷ [])) ((0, method_scope m) ∷ []) (1 + length js, own ps ts ss tail) (entered-block ps ts ss tail 1 c js k found))
          ∙ (let same : 1 + length js ≡ length (j ∷ js) = omega arith in same)

  pub sequence_round-statement : (path : List ℕ) → LeadsTo m path → sequence_round m (path ++ k ∷ []) ≡ path
  sequence_round-statement path leads = ap (λ n. take n (path ++ k ∷ [])) (innermost-statement path leads) ∙ steps-before path k

  pub whole_statement-statement : (path : List ℕ) → LeadsTo m path → whole_statement m (path ++ k ∷ []) ≡ Some k
  whole_statement-statement path leads =
      ap (λ n. if length (path ++ k ∷ []) == suc n then slice_get (path ++ k ∷ []) n else None) (innermost-statement path leads)
      ∙ ap (λ (b : Bool). if b then slice_get (path ++ k ∷ []) (length path) else None) (one-more path k)
      ∙ last-step path k
