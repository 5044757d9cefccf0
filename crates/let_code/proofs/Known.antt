-- What holds of each name in a sequence, in what is put there and in a method holds of each name in the method in which the sequence is changed.
use Rattle.std.proofs.Common.{◌≡◌, ℕ, zero, suc, Bool, true, false, not, List, [], ◌∷◌, ◌++◌, Option, None, Some, option_map, subst, sym}
use Rattle.std.specs.Prelude.{filter, unwrap_or, is_some, nat_eq, if◌then◌else◌}
use Rattle.std.specs.List.{AllByRecursion}
use Rattle.tree_model.specs.Tree.{Notes, TreeOf, var, literal, send, cascade, assign, block, brace, return, StatementsOf, no_statements, more_statements, SequenceOf, MethodOf}
use Rattle.tree_model.specs.AllNames.{AllNames, StatementsNames, SequenceNames, MethodNames}
use Rattle.tree_model.specs.Path.{part_in, method_replaced}
use Rattle.tree_model.specs.Normal.{normal}
use Rattle.scope_model.specs.FreeNames.{take_statements, drop_statements}
use Rattle.scope_model.proofs.ListsOfNames.{AllByRecursion-append, AllByRecursion-filter}
use Rattle.image_model.specs.ImageNames.{OptionNames}
use Rattle.wider_slots.proofs.Trees.{part_in-names, replaced_in-names}
use Rattle.command_model.specs.Sequences.{joined, single, noted, first_notes, put_in, put_for, block_changed, sequence_changed}
use Rattle.command_model.specs.Walk.{rebuilt_method}
use Rattle.temporary_code.proofs.NamesKept.{Keeps, names-rebuilt_statements, names-normal_by}

module _ (P : ℕ → Type 0) where
  pub take-names : (k : ℕ) (ss : StatementsOf ℕ) → StatementsNames P ss → StatementsNames P (take_statements k ss)
  take-names zero ss a = tt
  take-names (suc k) no_statements a = tt
  take-names (suc k) (more_statements c t ss) a = (a.0, take-names k ss a.1)

  pub drop-names : (k : ℕ) (ss : StatementsOf ℕ) → StatementsNames P ss → StatementsNames P (drop_statements k ss)
  drop-names zero ss a = a
  drop-names (suc k) no_statements a = tt
  drop-names (suc k) (more_statements c t ss) a = drop-names k ss a.1

  joined-names : (ss rs : StatementsOf ℕ) → StatementsNames P ss → StatementsNames P rs → StatementsNames P (joined ss rs)
  joined-names no_statements rs a b = b
  joined-names (more_statements c t ss) rs a b = (a.0, joined-names ss rs a.1 b)

  noted-names : (notes : Notes) (ss : StatementsOf ℕ) → StatementsNames P ss → StatementsNames P (noted notes ss)
  noted-names notes no_statements a = tt
  noted-names notes (more_statements c t ss) a = a

  -- statements that are put in
  pub put_in-names : (first count : ℕ) (new : StatementsOf ℕ) (b : SequenceOf ℕ) → StatementsNames P new → SequenceNames P b → SequenceNames P (put_in first count new b)
  put_in-names first count new b n a = record {
    temporaries = a.temporaries;
    statements =
        joined-names (take_statements first b.statements) (joined new (drop_statements count (drop_statements first b.statements))) (take-names first b.statements a.statements)
        (joined-names new (drop_statements count (drop_statements first b.statements)) n (drop-names count (drop_statements first b.statements) (drop-names first b.statements a.statements)));
  }

  put_for-names : (k : ℕ) (new : StatementsOf ℕ) (b : SequenceOf ℕ) → StatementsNames P new → SequenceNames P b → SequenceNames P (put_for k new b)
  put_for-names k new b n a =
      let old : StatementsOf ℕ = drop_statements k b.statements in
      let rest : StatementsOf ℕ = joined new (drop_statements 1 old) in
      record {
        temporaries = a.temporaries;
        statements =
            joined-names (take_statements k b.statements) (noted (first_notes old) rest) (take-names k b.statements a.statements)
            (noted-names (first_notes old) rest (joined-names new (drop_statements 1 old) n (drop-names 1 old (drop-names k b.statements a.statements))));
      }

  -- sequences in which a temporary comes or goes
  declaring-names : (x k : ℕ) (t : TreeOf ℕ) (b : SequenceOf ℕ) → P x → AllNames P t → SequenceNames P b
      → SequenceNames P (let c : SequenceOf ℕ = put_in k 0 (single (assign x t)) b in record c { temporaries = c.temporaries ++ x ∷ [] })
  declaring-names x k t b n is a = record {
    temporaries = AllByRecursion-append P b.temporaries (x ∷ []) a.temporaries (n, tt);
    statements = (put_in-names k 0 (single (assign x t)) b ((n, is), tt) a).statements;
  }

  pub without-names : (x k : ℕ) (b : SequenceOf ℕ) → SequenceNames P b
      → SequenceNames P (let c : SequenceOf ℕ = put_for k no_statements b in record c { temporaries = filter (λ n. not (nat_eq x n)) c.temporaries })
  without-names x k b a = record {
    temporaries = AllByRecursion-filter P (λ n. not (nat_eq x n)) b.temporaries a.temporaries;
    statements = (put_for-names k no_statements b tt a).statements;
  }

  module _ (change : SequenceOf ℕ → SequenceOf ℕ) (keeps : (b : SequenceOf ℕ) → SequenceNames P b → SequenceNames P (change b)) where
    block-names : (t : TreeOf ℕ) → AllNames P t → AllNames P (block_changed change t)
    block-names (var n) a = a
    block-names (literal l) a = a
    block-names (send r s args) a = a
    block-names (cascade r ms) a = a
    block-names (assign n t) a = a
    block-names (block ps ts ss e) a =
        let kept = keeps (record { temporaries = ts; statements = ss; tail = e }) (record { temporaries = a.1; statements = a.2 }) in
        (a.0, kept.temporaries, kept.statements)
    block-names (brace ts) a = a
    block-names (return t) a = a

    pub sequence-names : (path : List ℕ) (m : MethodOf ℕ) → MethodNames P m → MethodNames P (sequence_changed change path m)
    sequence-names [] m a = record { selector = a.selector; arguments = a.arguments; body = keeps m.body a.body }
    sequence-names (k ∷ ks) m a = by (part_in m.body (k ∷ ks)) (part_in-names P m.body (k ∷ ks) a.body)
      where
        by : (o : Option (TreeOf ℕ)) → OptionNames (AllNames P) o → MethodNames P (unwrap_or (option_map (λ t. method_replaced m (k ∷ ks) (block_changed change t)) o) m)
        by None b = a
        by (Some t) b = record { selector = a.selector; arguments = a.arguments; body = replaced_in-names P (block_changed change t) (block-names t b) m.body (k ∷ ks) a.body }

  pub normal-names : (m : MethodOf ℕ) → MethodNames P m → MethodNames P (normal m)
  normal-names m a = names-normal_by P m.body.temporaries m a

  -- the method in which a temporary stands in place of an expression
  pub extracted-names : (x k : ℕ) (t : TreeOf ℕ) (path round : List ℕ) (m : MethodOf ℕ) → P x → AllNames P t → MethodNames P m
      → MethodNames P (normal (sequence_changed (λ b. let c : SequenceOf ℕ = put_in k 0 (single (assign x t)) b in record c { temporaries = c.temporaries ++ x ∷ [] }) round (method_replaced m path (var x))))
  extracted-names x k t path round m n is a =
      normal-names _
      (sequence-names (λ b. let c : SequenceOf ℕ = put_in k 0 (single (assign x t)) b in record c { temporaries = c.temporaries ++ x ∷ [] }) (λ b h. declaring-names x k t b n is h) round
      (method_replaced m path (var x))
      (record { selector = a.selector; arguments = a.arguments; body = replaced_in-names P (var x) n m.body path a.body }))
