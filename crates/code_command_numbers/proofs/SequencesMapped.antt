-- Statements that come into a sequence or go are the same once names are changed one to one.
use Rattle.std.proofs.Common.{◌≡◌, ℕ, zero, suc, List, [], ◌∷◌, map, Option, Some, None, unwrap_or, option_map, refl, ap, ◌∙◌}
use Rattle.tree_model.specs.Tree.{Notes, TreeOf, var, literal, send, cascade, assign, block, brace, return, StatementsOf, no_statements, more_statements, SequenceOf, MethodOf, map_names, map_statements, map_sequence, map_method}
use Rattle.tree_model.specs.Path.{part_in, method_replaced}
use Rattle.tree_model.proofs.Parts.{part_in-map_sequence, method_replaced-map_method}
use Rattle.scope_model.specs.FreeNames.{take_statements, drop_statements, run_of}
use Rattle.command_model.specs.Sequences.{joined, noted, noted_tail, first_notes, put_in, put_for, block_changed, sequence_changed}

module _ {M N : Type 0} (f : M → N) where
  -- statements of a run, and statements in a row
  pub take_statements-map : (k : ℕ) (ss : StatementsOf M) → take_statements k (map_statements f ss) ≡ map_statements f (take_statements k ss)
  take_statements-map zero ss = refl
  take_statements-map (suc k) no_statements = refl
  take_statements-map (suc k) (more_statements c t ss) = ap (more_statements c (map_names f t)) (take_statements-map k ss)

  pub drop_statements-map : (k : ℕ) (ss : StatementsOf M) → drop_statements k (map_statements f ss) ≡ map_statements f (drop_statements k ss)
  drop_statements-map zero ss = refl
  drop_statements-map (suc k) no_statements = refl
  drop_statements-map (suc k) (more_statements c t ss) = drop_statements-map k ss

  pub run_of-map : (ss : StatementsOf M) (first count : ℕ) → run_of (map_statements f ss) first count ≡ map_statements f (run_of ss first count)
  run_of-map ss first count = ap (take_statements count) (drop_statements-map first ss) ∙ take_statements-map count (drop_statements first ss)

  joined-map : (ss rs : StatementsOf M) → joined (map_statements f ss) (map_statements f rs) ≡ map_statements f (joined ss rs)
  joined-map no_statements rs = refl
  joined-map (more_statements c t ss) rs = ap (more_statements c (map_names f t)) (joined-map ss rs)

  -- their comments
  noted-map : (notes : Notes) (ss : StatementsOf M) → noted notes (map_statements f ss) ≡ map_statements f (noted notes ss)
  noted-map notes no_statements = refl
  noted-map notes (more_statements c t ss) = refl

  noted_tail-map : (notes : Notes) (ss : StatementsOf M) (tail : Notes) → noted_tail notes (map_statements f ss) tail ≡ noted_tail notes ss tail
  noted_tail-map notes no_statements tail = refl
  noted_tail-map notes (more_statements c t ss) tail = refl

  first_notes-map : (ss : StatementsOf M) → first_notes (map_statements f ss) ≡ first_notes ss
  first_notes-map no_statements = refl
  first_notes-map (more_statements c t ss) = refl

  -- statements in place of others
  pub put_in-map : (first count : ℕ) (new : StatementsOf M) (b : SequenceOf M) → put_in first count (map_statements f new) (map_sequence f b) ≡ map_sequence f (put_in first count new b)
  put_in-map first count new b = λ i. record (map_sequence f b) { statements = put i }
    where
      behind : drop_statements count (drop_statements first (map_statements f b.statements)) ≡ map_statements f (drop_statements count (drop_statements first b.statements))
      behind = ap (drop_statements count) (drop_statements-map first b.statements) ∙ drop_statements-map count (drop_statements first b.statements)

      put : joined (take_statements first (map_statements f b.statements)) (joined (map_statements f new) (drop_statements count (drop_statements first (map_statements f b.statements))))
          ≡ map_statements f (joined (take_statements first b.statements) (joined new (drop_statements count (drop_statements first b.statements))))
      put =
          (λ i. joined (take_statements-map first b.statements i) (joined (map_statements f new) (behind i)))
          ∙ ap (joined (map_statements f (take_statements first b.statements))) (joined-map new (drop_statements count (drop_statements first b.statements)))
          ∙ joined-map (take_statements first b.statements) (joined new (drop_statements count (drop_statements first b.statements)))

  -- the same for one statement, where `old` is the statements from it on and `rest` what then stands there
  put_for_from : (k : ℕ) (b : SequenceOf M) (old : StatementsOf M) (rest : StatementsOf M)
      → ◌≡◌ {A = SequenceOf N} (record (map_sequence f b) { statements = joined (take_statements k (map_statements f b.statements)) (noted (first_notes (map_statements f old)) (map_statements f rest)); tail = noted_tail (first_notes (map_statements f old)) (map_statements f rest) b.tail })
      (map_sequence f (record b { statements = joined (take_statements k b.statements) (noted (first_notes old) rest); tail = noted_tail (first_notes old) rest b.tail }))
  put_for_from k b old rest = λ i. record (map_sequence f b) { statements = put i; tail = tail i }
    where
      tail : noted_tail (first_notes (map_statements f old)) (map_statements f rest) b.tail ≡ noted_tail (first_notes old) rest b.tail
      tail = ap (λ (c : Notes). noted_tail c (map_statements f rest) b.tail) (first_notes-map old) ∙ noted_tail-map (first_notes old) rest b.tail

      put : joined (take_statements k (map_statements f b.statements)) (noted (first_notes (map_statements f old)) (map_statements f rest)) ≡ map_statements f (joined (take_statements k b.statements) (noted (first_notes old) rest))
      put =
          (λ i. joined (take_statements-map k b.statements i) (noted (first_notes-map old i) (map_statements f rest)))
          ∙ ap (joined (map_statements f (take_statements k b.statements))) (noted-map (first_notes old) rest)
          ∙ joined-map (take_statements k b.statements) (noted (first_notes old) rest)

  pub put_for-map : (k : ℕ) (new : StatementsOf M) (b : SequenceOf M) → put_for k (map_statements f new) (map_sequence f b) ≡ map_sequence f (put_for k new b)
  put_for-map k new b =
      (λ i. record (map_sequence f b) { statements = joined (take_statements k (map_statements f b.statements)) (noted (first_notes (drop_statements-map k b.statements i)) (rest i)); tail = noted_tail (first_notes (drop_statements-map k b.statements i)) (rest i) b.tail })
      ∙ put_for_from k b (drop_statements k b.statements) (joined new (drop_statements 1 (drop_statements k b.statements)))
    where
      rest : joined (map_statements f new) (drop_statements 1 (drop_statements k (map_statements f b.statements))) ≡ map_statements f (joined new (drop_statements 1 (drop_statements k b.statements)))
      rest =
          ap (λ (ss : StatementsOf N). joined (map_statements f new) (drop_statements 1 ss)) (drop_statements-map k b.statements)
          ∙ ap (joined (map_statements f new)) (drop_statements-map 1 (drop_statements k b.statements))
          ∙ joined-map new (drop_statements 1 (drop_statements k b.statements))

  module _ (g : SequenceOf M → SequenceOf M) (h : SequenceOf N → SequenceOf N) (e : (b : SequenceOf M) → h (map_sequence f b) ≡ map_sequence f (g b)) where
    -- a block with another sequence
    block_changed-map : (t : TreeOf M) → block_changed h (map_names f t) ≡ map_names f (block_changed g t)
    block_changed-map (var n) = refl
    block_changed-map (literal l) = refl
    block_changed-map (send r s args) = refl
    block_changed-map (cascade r ms) = refl
    block_changed-map (assign n t) = refl
    block_changed-map (block ps ts ss d) =
        ap (λ (b : SequenceOf N). block (map f ps) b.temporaries b.statements b.tail) (e (record { temporaries = ts; statements = ss; tail = d }))
    block_changed-map (brace ts) = refl
    block_changed-map (return t) = refl

    -- a method in which a sequence is another
    pub sequence_changed-map : (path : List ℕ) (m : MethodOf M) → sequence_changed h path (map_method f m) ≡ map_method f (sequence_changed g path m)
    sequence_changed-map [] m = λ i. record (map_method f m) { body = e m.body i }
    sequence_changed-map (k ∷ ks) m =
        ap (λ (o : Option (TreeOf N)). unwrap_or (option_map (λ t. method_replaced (map_method f m) (k ∷ ks) (block_changed h t)) o) (map_method f m)) (part_in-map_sequence f m.body (k ∷ ks))
        ∙ by (part_in m.body (k ∷ ks))
      where
        by : (o : Option (TreeOf M)) → unwrap_or (option_map (λ t. method_replaced (map_method f m) (k ∷ ks) (block_changed h t)) (option_map (map_names f) o)) (map_method f m)
            ≡ map_method f (unwrap_or (option_map (λ t. method_replaced m (k ∷ ks) (block_changed g t)) o) m)
        by None = refl
        by (Some t) = ap (method_replaced (map_method f m) (k ∷ ks)) (block_changed-map t) ∙ method_replaced-map_method f m (k ∷ ks) (block_changed g t)
