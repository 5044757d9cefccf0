-- The sequences of a method: its own statements, and those of its blocks.
use Rattle.std.proofs.Common.{◌≡◌, ℕ, zero, suc, ◌+◌, ◌<◌, List, [], ◌∷◌, ◌++◌, length, Option, Some, None, refl, sym, ap, ◌∙◌, arith}
use Rattle.std.specs.Prelude.{option_map, option_and_then, unwrap_or}
use Rattle.tree_model.specs.Tree.{TreeOf, var, literal, send, cascade, assign, block, brace, return, StatementsOf, no_statements, more_statements, MethodOf, Notes}
use Rattle.tree_model.specs.Path.{count, nth, statement_trees, child, part_at, part_in}
use Rattle.scope_model.specs.Scope.{PlacedScope, method_scope, own_scope, entered, scopes_round}
use Rattle.scope_model.specs.FreeNames.{take_statements, run_of, statements_at}
use Rattle.run_model.specs.Values.{Name}
use Rattle.resolved_model.proofs.ResolvingLemmas.{AreInScopes, below-node}
use Rattle.unfolded_calls.proofs.Running.{none-some}
use Rattle.code_command_laws.proofs.PutBackRun.{statements_of}
use Rattle.moved_code_laws.proofs.Saying.{alone, within, own_round, in-own}
use Rattle.moved_code_laws.proofs.ScopesOn.{part-in-on, scopes-on, on_from, in-part}

-- a path leads to a sequence of these statements: the method's own, or that of a block
pub data IsSequence (m : MethodOf Name) : List ℕ → StatementsOf Name → Type 0 where
  own_sequence : IsSequence m [] m.body.statements
  of_block : (k : ℕ) (ks : List ℕ) (ps ts : List Name) (ss : StatementsOf Name) (e : Notes) → part_in m.body (k ∷ ks) ≡ Some (block ps ts ss e) → IsSequence m (k ∷ ks) ss

-- where it is that of a block, it has more than so many statements
abbrev pub HasMore : {m : MethodOf Name} {path : List ℕ} {ss : StatementsOf Name} → IsSequence m path ss → ℕ → Type 0
HasMore own_sequence n = Unit {0}
HasMore (of_block k ks ps ts ss e at) n = n < count (statement_trees ss)

-- where a path leads to so many statements, it leads to a sequence
pub sequence-there : (m : MethodOf Name) (k : ℕ) (ks : List ℕ) (n : ℕ) → n < count (statement_trees (statements_at m.body (k ∷ ks))) → (q : IsSequence m (k ∷ ks) (statements_at m.body (k ∷ ks))) × HasMore q n
sequence-there m k ks n = by (part_in m.body (k ∷ ks)) refl
  where
    by : (o : Option (TreeOf Name)) → part_in m.body (k ∷ ks) ≡ o → n < count (statement_trees (statements_of o)) → (q : IsSequence m (k ∷ ks) (statements_of o)) × HasMore q n
    by None e l = absurd (omega (arith, l))
    by (Some (var x)) e l = absurd (omega (arith, l))
    by (Some (literal x)) e l = absurd (omega (arith, l))
    by (Some (send r s us)) e l = absurd (omega (arith, l))
    by (Some (cascade r ms)) e l = absurd (omega (arith, l))
    by (Some (assign x t)) e l = absurd (omega (arith, l))
    by (Some (block ps ts ss d)) e l = (of_block k ks ps ts ss d e, l)
    by (Some (brace us)) e l = absurd (omega (arith, l))
    by (Some (return t)) e l = absurd (omega (arith, l))

module _ (m : MethodOf Name) where
  -- the scopes round its statements
  abbrev pub round_of : {path : List ℕ} {ss : StatementsOf Name} → IsSequence m path ss → List (PlacedScope Name)
  round_of own_sequence = own_round m
  round_of (of_block k ks ps ts ss e at) = (length (k ∷ ks), record { arguments = ps; temporaries = ts; statements = ss }) ∷ scopes_round (method_scope m) (k ∷ ks)

  pub round-at : {path : List ℕ} {ss : StatementsOf Name} → (q : IsSequence m path ss) → (k : ℕ) → scopes_round (method_scope m) (path ++ k ∷ []) ≡ round_of q
  round-at own_sequence k = by (nth (statement_trees m.body.statements) k)
    where
      by : (o : Option (TreeOf Name)) → unwrap_or (option_map (λ c. entered 1 c []) o) [] ++ (0, method_scope m) ∷ [] ≡ (0, method_scope m) ∷ []
      by None = refl
      by (Some c) = refl
  round-at (of_block j js ps ts ss e at) k = scopes-on m (j ∷ js) (k ∷ []) (block ps ts ss e) at ∙ by (child (block ps ts ss e) k)
    where
      by : (o : Option (TreeOf Name)) → (unwrap_or (option_map (λ c. entered (length (j ∷ js) + 1) c []) o) [] ++ own_scope (length (j ∷ js)) (block ps ts ss e)) ++ scopes_round (method_scope m) (j ∷ js) ≡ round_of (of_block j js ps ts ss e at)
      by None = refl
      by (Some c) = refl

  -- what names stand for below them
  pub in-sequence : {path : List ℕ} {ss : StatementsOf Name} → (q : IsSequence m path ss) → AreInScopes alone (length path + 1) (statement_trees ss) 0 (round_of q) (on_from path (within m))
  in-sequence own_sequence = in-own m
  in-sequence (of_block k ks ps ts ss e at) = below-node alone (length (k ∷ ks)) (block ps ts ss e) (scopes_round (method_scope m) (k ∷ ks)) (on_from (k ∷ ks) (within m)) (in-part m (k ∷ ks) (block ps ts ss e) at)

  -- a node below one of them
  pub part-below : {path : List ℕ} {ss : StatementsOf Name} → IsSequence m path ss → (k : ℕ) (p : List ℕ) (c u : TreeOf Name) → nth (statement_trees ss) k ≡ Some c → part_at c p ≡ Some u → part_in m.body (path ++ k ∷ p) ≡ Some u
  part-below own_sequence k p c u e h = ap (option_and_then (λ c. part_at c p)) e ∙ h
  part-below (of_block j js ps ts ss d at) k p c u e h = part-in-on m (j ∷ js) (k ∷ p) (block ps ts ss d) u at (ap (option_and_then (λ c. part_at c p)) e ∙ h)

-- a statement of a run
pub nth-run : (ss : StatementsOf Name) (first n j : ℕ) (t : TreeOf Name) → nth (statement_trees (run_of ss first n)) j ≡ Some t → (nth (statement_trees ss) (first + j) ≡ Some t) × (j < n)
nth-run ss zero n j t e = let r = taken ss n j e in (ap (nth (statement_trees ss)) from-none ∙ r.0, r.1)
  where
    from-none : 0 + j ≡ j
    from-none = omega arith

    taken : (rs : StatementsOf Name) (n j : ℕ) → nth (statement_trees (take_statements n rs)) j ≡ Some t → (nth (statement_trees rs) j ≡ Some t) × (j < n)
    taken rs zero j e = none-some e
    taken no_statements (suc n) j e = none-some e
    taken (more_statements c u rs) (suc n) zero e = (e, omega arith)
    taken (more_statements c u rs) (suc n) (suc j) e = let r = taken rs n j e in (r.0, omega (arith, r.1))
nth-run no_statements (suc first) n j t e = none-some (sym (none n) ∙ e)
  where
    none : (n : ℕ) → nth (statement_trees (take_statements {N = Name} n no_statements)) j ≡ None
    none zero = refl
    none (suc n) = refl
nth-run (more_statements c u ss) (suc first) n j t e = let r = nth-run ss first n j t e in (ap (nth (statement_trees (more_statements c u ss))) further ∙ r.0, r.1)
  where
    further : suc first + j ≡ suc (first + j)
    further = omega arith
