-- A do-it with another part, put where a path leads.
use Rattle.std.specs.Option.{ghost_name_of}
use borrow.Follows.Closed.{read_of}
use Rattle.std.proofs.Common.{MutBor, ◌≡◌, ℕ, zero, suc, List, [], ◌∷◌, refl, sym, ◌∙◌, ap, Option, Some, None, option_map, option_and_then, unwrap_or}
use Rattle.tree_model.specs.Tree.{TreeOf, StatementsOf, no_statements, more_statements}
use Rattle.tree_model.specs.Path.{nth, statement_trees, part_at, part_in, with_statement, replaced, replaced_in}
use Rattle.st_tree.specs.View.{statements_of, sequence_of, sequence_from}
use Rattle.st_tree.specs.declared.tree.Statement.{Statement}
use Rattle.st_tree.specs.declared.tree.Sequence.{Sequence}
use Rattle.st_tree.proofs.Back.{sequence_from-sequence_of}
use Rattle.tree_lending.specs.Kinds.{statements_with, sequence_with}
use Rattle.tree_lending.proofs.Children.{statements_of-with}

-- the statement that is not there is not written
with_statement-nowhere : (ss : StatementsOf ℕ) (k : ℕ) (u : TreeOf ℕ) → nth (statement_trees ss) k ≡ None → with_statement ss k u ≡ ss
with_statement-nowhere no_statements k u e = refl
with_statement-nowhere (more_statements c t ss) zero u e = cc
with_statement-nowhere (more_statements c t ss) (suc k) u e = ap (more_statements c t) (with_statement-nowhere ss k u e)

-- nothing changes where the node of a statement is put back
statements_with-back : (ss : List Statement) (k : ℕ) (n : TreeOf ℕ) → nth (statement_trees (statements_of ss)) k ≡ Some n → statements_with ss k n ≡ ss
statements_with-back [] k n e = refl
statements_with-back (s ∷ ss) zero n e = let same : s.node ≡ n = cc in λ i. record s { node = sym same i } ∷ ss
statements_with-back (s ∷ ss) (suc k) n e = ap (λ (r : List Statement). s ∷ r) (statements_with-back ss k n e)

-- nothing changes where the node of a statement is put back into a sequence
pub sequence_with-back : (b : Sequence) (k : ℕ) (n : TreeOf ℕ) → nth (statement_trees (statements_of b.statements)) k ≡ Some n → sequence_with b k n ≡ b
sequence_with-back b k n e = ap (λ (ss : List Statement). record b { statements = ss }) (statements_with-back b.statements k n e)

-- a sequence with another node in a statement, by its abstract statements
sequence_with-from : (b : Sequence) (k : ℕ) (u : TreeOf ℕ) → sequence_with b k u ≡ sequence_from (record (sequence_of b) { statements = with_statement (statements_of b.statements) k u })
sequence_with-from b k u =
    sym (sequence_from-sequence_of (sequence_with b k u))
    ∙ ap (λ (ss : StatementsOf ℕ). sequence_from (record (sequence_of b) { statements = ss })) (statements_of-with b.statements k u)

-- a part in the node of a statement is put in
pub sequence_with-part : (b : Sequence) (k : ℕ) (rest : List ℕ) (n u w : TreeOf ℕ) → nth (statement_trees (statements_of b.statements)) k ≡ Some n → u ≡ replaced n rest w
    → sequence_with b k u ≡ sequence_from (replaced_in (sequence_of b) (k ∷ rest) w)
sequence_with-part b k rest n u w some e =
    sequence_with-from b k u
    ∙ ap (λ (t : TreeOf ℕ). sequence_from (record (sequence_of b) { statements = with_statement (statements_of b.statements) k t })) e
    ∙ ap (λ (o : Option (TreeOf ℕ)). sequence_from (record (sequence_of b) {
      statements = unwrap_or (option_map (λ c. with_statement (statements_of b.statements) k (replaced c rest w)) o) (statements_of b.statements);
    })) (sym some)

-- the node of a statement is put in
pub sequence_with-statement : (b : Sequence) (k : ℕ) (w : TreeOf ℕ) → sequence_with b k w ≡ sequence_from (replaced_in (sequence_of b) (k ∷ []) w)
sequence_with-statement b k w = by (nth (statement_trees (statements_of b.statements)) k) refl
  where
    by : (o : Option (TreeOf ℕ)) → nth (statement_trees (statements_of b.statements)) k ≡ o → sequence_with b k w ≡ sequence_from (replaced_in (sequence_of b) (k ∷ []) w)
    by (Some n) e = sequence_with-part b k [] n w w e refl
    by None e =
        sequence_with-from b k w
        ∙ ap (λ (ss : StatementsOf ℕ). sequence_from (record (sequence_of b) { statements = ss })) (with_statement-nowhere (statements_of b.statements) k w e)
        ∙ ap (λ (o : Option (TreeOf ℕ)). sequence_from (record (sequence_of b) {
          statements = unwrap_or (option_map (λ c. with_statement (statements_of b.statements) k w) o) (statements_of b.statements);
        })) (sym e)

-- no part where there is no statement
pub part_in-no_statement : (b : Sequence) (k : ℕ) (rest : List ℕ) → nth (statement_trees (statements_of b.statements)) k ≡ None → part_in (sequence_of b) (k ∷ rest) ≡ None
part_in-no_statement b k rest e = ap (option_and_then (λ c. part_at c rest)) e

-- a part below the node of a statement
pub part_in-statement : (b : Sequence) (k : ℕ) (rest : List ℕ) (n : TreeOf ℕ) → nth (statement_trees (statements_of b.statements)) k ≡ Some n → part_in (sequence_of b) (k ∷ rest) ≡ part_at n rest
part_in-statement b k rest n e = ap (option_and_then (λ c. part_at c rest)) e

-- the node of a statement is where a path of one step leads
pub part_in-one_step : (b : Sequence) (k : ℕ) → nth (statement_trees (statements_of b.statements)) k ≡ part_in (sequence_of b) (k ∷ [])
part_in-one_step b k = by (nth (statement_trees (statements_of b.statements)) k)
  where
    by : (o : Option (TreeOf ℕ)) → o ≡ option_and_then (λ c. part_at c []) o
    by None = refl
    by (Some t) = refl

-- two loans are the same where both are without a result, and, with one, at each last value
pub same_loan : {D E : Type 0} (r : Option (MutBor E)) (F G : E → D) (v w : D) → v ≡ w → ((x : MutBor E) → r ≡ Some x → (z : E) → F z ≡ G z)
    → read_of (ghost_name_of r) F v ≡ read_of (ghost_name_of r) G w
same_loan None F G v w e f = ap mathlib.Core.Logic.inr e
same_loan (Some x) F G v w e f = λ i. read_of (ghost_name_of (Some x)) (λ z. f x refl z i) (e i)
