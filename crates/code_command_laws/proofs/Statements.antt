-- Statements that are cut and joined.
use Rattle.std.proofs.Common.{◌≡◌, ℕ, zero, suc, [], Some, None, true, false, refl, ap, ◌∙◌}
use Rattle.tree_model.specs.Tree.{Notes, TreeOf, var, literal, send, cascade, assign, block, brace, return, StatementsOf, no_statements, more_statements, SequenceOf}
use Rattle.tree_model.specs.Path.{nth, statement_trees}
use Rattle.scope_model.specs.FreeNames.{take_statements, drop_statements, run_of}
use Rattle.command_model.specs.Sequences.{joined, single, noted, noted_tail, first_notes, put_in, put_for}
use Rattle.command_model.specs.Inlined.{answered, last_unanswered}
use Rattle.code_command_laws.specs.FoldedRun.{HaveNoReturn, IsRun, without_first_notes}

-- there is a statement
abbrev pub AreThere : {N : Type 0} → StatementsOf N → Type 0
AreThere no_statements = ⊥
AreThere (more_statements c t ss) = Unit {0}

module _ {N : Type 0} where
  -- what stands behind the first so many, where so many are there
  drop-joined : (k : ℕ) (ss rs : StatementsOf N) → AreThere (drop_statements k ss) → drop_statements k (joined (take_statements k ss) rs) ≡ rs
  drop-joined zero ss rs there = refl
  drop-joined (suc k) no_statements rs there = absurd there
  drop-joined (suc k) (more_statements d u ss) rs there = drop-joined k ss rs there

  -- the first so many
  take-joined : (k : ℕ) (ss rs : StatementsOf N) → AreThere (drop_statements k ss) → take_statements k (joined (take_statements k ss) rs) ≡ take_statements k ss
  take-joined zero ss rs there = refl
  take-joined (suc k) no_statements rs there = absurd there
  take-joined (suc k) (more_statements d u ss) rs there = ap (more_statements d u) (take-joined k ss rs there)

  -- the node of the first one behind them
  nth-joined : (k : ℕ) (ss : StatementsOf N) (c : Notes) (t : TreeOf N) (rs : StatementsOf N) → AreThere (drop_statements k ss)
      → nth (statement_trees (joined (take_statements k ss) (more_statements c t rs))) k ≡ Some t
  nth-joined zero ss c t rs there = refl
  nth-joined (suc k) no_statements c t rs there = absurd there
  nth-joined (suc k) (more_statements d u ss) c t rs there = nth-joined k ss c t rs there

  -- where the first so many are a run, there is a statement
  run-there : (ss : StatementsOf N) (count : ℕ) → IsRun (take_statements count ss) → AreThere ss
  run-there no_statements zero there = there
  run-there no_statements (suc count) there = there
  run-there (more_statements c t ss) count there = tt

  -- no comments are put before statements
  noted-none : (ss : StatementsOf N) → noted [] ss ≡ ss
  noted-none no_statements = refl
  noted-none (more_statements c t ss) = refl

  noted_tail-none : (ss : StatementsOf N) (tail : Notes) → noted_tail [] ss tail ≡ tail
  noted_tail-none no_statements tail = refl
  noted_tail-none (more_statements c t ss) tail = refl

  -- a run is not one `^e`
  pub answered-run : (ss : StatementsOf N) → IsRun ss → answered (without_first_notes ss) ≡ None
  answered-run no_statements run = absurd run
  answered-run (more_statements c t no_statements) run = absurd run
  answered-run (more_statements c (var n) (more_statements d u ss)) run = refl
  answered-run (more_statements c (literal l) (more_statements d u ss)) run = refl
  answered-run (more_statements c (send r s args) (more_statements d u ss)) run = refl
  answered-run (more_statements c (cascade r ms) (more_statements d u ss)) run = refl
  answered-run (more_statements c (assign n t) (more_statements d u ss)) run = refl
  answered-run (more_statements c (block ps ts rs e) (more_statements d u ss)) run = refl
  answered-run (more_statements c (brace ts) (more_statements d u ss)) run = refl
  answered-run (more_statements c (return t) (more_statements d u ss)) run = refl

  -- no last `^e` is made e where there is none
  last_unanswered-same : (ss : StatementsOf N) → HaveNoReturn ss → last_unanswered ss ≡ ss
  last_unanswered-same no_statements none = refl
  last_unanswered-same (more_statements c (var n) ss) none = ap (more_statements c (var n)) (last_unanswered-same ss none.1)
  last_unanswered-same (more_statements c (literal l) ss) none = ap (more_statements c (literal l)) (last_unanswered-same ss none.1)
  last_unanswered-same (more_statements c (send r s args) ss) none = ap (more_statements c (send r s args)) (last_unanswered-same ss none.1)
  last_unanswered-same (more_statements c (cascade r ms) ss) none = ap (more_statements c (cascade r ms)) (last_unanswered-same ss none.1)
  last_unanswered-same (more_statements c (assign n t) ss) none = ap (more_statements c (assign n t)) (last_unanswered-same ss none.1)
  last_unanswered-same (more_statements c (block ps ts rs e) ss) none = ap (more_statements c (block ps ts rs e)) (last_unanswered-same ss none.1)
  last_unanswered-same (more_statements c (brace ts) ss) none = ap (more_statements c (brace ts)) (last_unanswered-same ss none.1)
  last_unanswered-same (more_statements c (return t) ss) none = let wrong : true ≡ false = none.0 in cc

  -- nor in a run without its first comments
  pub last_unanswered-run : (ss : StatementsOf N) → IsRun ss → last_unanswered (without_first_notes ss) ≡ without_first_notes ss
  last_unanswered-run no_statements run = absurd run
  last_unanswered-run (more_statements c t no_statements) run = absurd run
  last_unanswered-run (more_statements c t (more_statements d u ss)) run = last_unanswered-same (more_statements [] t (more_statements d u ss)) run

module _ {N : Type 0} (first count : ℕ) (call : TreeOf N) (b : SequenceOf N) (run : IsRun (run_of b.statements first count)) where
  there : AreThere (drop_statements first b.statements)
  there = run-there (drop_statements first b.statements) count run

  -- what stands in place of the statements
  pub at_first : nth (statement_trees (put_in first count (single call) b).statements) first ≡ Some call
  at_first = nth-joined first b.statements [] call (drop_statements count (drop_statements first b.statements)) there

  -- statements in place of that one stand in place of the statements
  pub put_for-put_in : (new : StatementsOf N) → put_for first new (put_in first count (single call) b) ≡ put_in first count new b
  put_for-put_in new =
      (λ i. record b {
        statements =
            joined (take_statements first (joined (take_statements first b.statements) behind)) (noted (first_notes (cut i)) (joined new (drop_statements 1 (cut i))));
        tail = noted_tail (first_notes (cut i)) (joined new (drop_statements 1 (cut i))) b.tail;
      })
      ∙ (λ i. record b {
        statements = joined (take-joined first b.statements behind there i) (noted-none (joined new rest) i);
        tail = noted_tail-none (joined new rest) b.tail i;
      })
    where
      rest : StatementsOf N
      rest = drop_statements count (drop_statements first b.statements)

      behind : StatementsOf N
      behind = more_statements [] call rest

      cut : drop_statements first (joined (take_statements first b.statements) behind) ≡ behind
      cut = drop-joined first b.statements behind there
