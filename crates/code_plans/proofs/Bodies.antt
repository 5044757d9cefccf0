-- What holds of each name in two methods holds of each name in the one in which the body of the other stands in place of a message.
use Rattle.std.proofs.Common.{ℕ, zero, suc, Bool, true, false, List, [], ◌∷◌, Option, None, Some, option_map}
use Rattle.std.specs.Prelude.{unwrap_or, if◌then◌else◌}
use Rattle.std.specs.Option.{option_or}
use Rattle.tree_model.specs.Tree.{Notes, TreeOf, var, literal, send, cascade, assign, block, brace, return, TreesOf, no_trees, more_trees, StatementsOf, no_statements, more_statements, SequenceOf, MethodOf}
use Rattle.tree_model.specs.AllNames.{AllNames, TreesNames, StatementsNames, SequenceNames, MethodNames}
use Rattle.tree_model.specs.Path.{part_in, method_replaced}
use Rattle.scope_model.specs.FreeNames.{take_statements, drop_statements}
use Rattle.scope_model.specs.Scope.{local_in}
use Rattle.image_model.specs.ImageNames.{OptionNames}
use Rattle.wider_slots.proofs.Trees.{and_then-fact, part_in-names, replaced_in-names}
use Rattle.command_model.specs.Asked.{AskedOf}
use Rattle.command_model.specs.Inlined.{answered, last_unanswered, passed_as, passed_for, filled, unfolded, tree_inlined}
use Rattle.command_model.specs.Parts.{Part, Expression, Run}
use Rattle.command_model.specs.Places.{is_formal, SendOf, as_send, sent_by, sequence_round, whole_statement}
use Rattle.command_model.specs.Sequences.{joined, noted, first_notes, put_for, sequence_changed}
use Rattle.temporary_code.proofs.NamesKept.{Keeps, names-rebuilt_statements}
use Rattle.let_code.proofs.Known.{sequence-names}

module _ (P : ℕ → Type 0) where
  -- statements that come and go
  take-names : (k : ℕ) (ss : StatementsOf ℕ) → StatementsNames P ss → StatementsNames P (take_statements k ss)
  take-names zero ss a = tt
  take-names (suc k) no_statements a = tt
  take-names (suc k) (more_statements c t ss) a = (a.0, take-names k ss a.1)

  drop-names : (k : ℕ) (ss : StatementsOf ℕ) → StatementsNames P ss → StatementsNames P (drop_statements k ss)
  drop-names zero ss a = a
  drop-names (suc k) no_statements a = tt
  drop-names (suc k) (more_statements c t ss) a = drop-names k ss a.1

  joined-names : (ss rs : StatementsOf ℕ) → StatementsNames P ss → StatementsNames P rs → StatementsNames P (joined ss rs)
  joined-names no_statements rs a b = b
  joined-names (more_statements c t ss) rs a b = (a.0, joined-names ss rs a.1 b)

  noted-names : (notes : Notes) (ss : StatementsOf ℕ) → StatementsNames P ss → StatementsNames P (noted notes ss)
  noted-names notes no_statements a = tt
  noted-names notes (more_statements c t ss) a = a

  put_for-names : (k : ℕ) (new : StatementsOf ℕ) → StatementsNames P new → (b : SequenceOf ℕ) → SequenceNames P b → SequenceNames P (put_for k new b)
  put_for-names k new n b a =
      let old : StatementsOf ℕ = drop_statements k b.statements in
      let rest : StatementsOf ℕ = joined new (drop_statements 1 old) in
      record {
        temporaries = a.temporaries;
        statements =
            joined-names (take_statements k b.statements) (noted (first_notes old) rest) (take-names k b.statements a.statements)
            (noted-names (first_notes old) rest (joined-names new (drop_statements 1 old) n (drop-names 1 old (drop-names k b.statements a.statements))));
      }

  -- what is passed for a name
  passed_as-names : (same : ℕ → ℕ → Bool) (xs : List ℕ) (ts : TreesOf ℕ) (n : ℕ) → TreesNames P ts → OptionNames (AllNames P) (passed_as same xs ts n)
  passed_as-names same [] ts n a = tt
  passed_as-names same (x ∷ xs) no_trees n a = tt
  passed_as-names same (x ∷ xs) (more_trees t ts) n a = by (same n x) (passed_as-names same xs ts n a.1)
    where
      by : (b : Bool) → OptionNames (AllNames P) (passed_as same xs ts n) → OptionNames (AllNames P) (if b then Some t else passed_as same xs ts n)
      by true rest = a.0
      by false rest = rest

  -- what a body answers
  answered-names : (ss : StatementsOf ℕ) → StatementsNames P ss → OptionNames (AllNames P) (answered ss)
  answered-names no_statements a = tt
  answered-names (more_statements c (return t) no_statements) a = a.0
  answered-names (more_statements c (return t) (more_statements d u ss)) a = tt
  answered-names (more_statements c (var n) ss) a = tt
  answered-names (more_statements c (literal l) ss) a = tt
  answered-names (more_statements c (send r s args) ss) a = tt
  answered-names (more_statements c (cascade r ms) ss) a = tt
  answered-names (more_statements c (assign n t) ss) a = tt
  answered-names (more_statements c (block ps ts us e) ss) a = tt
  answered-names (more_statements c (brace ts) ss) a = tt

  last-names : (ss : StatementsOf ℕ) → StatementsNames P ss → StatementsNames P (last_unanswered ss)
  last-names no_statements a = tt
  last-names (more_statements c (return t) no_statements) a = a
  last-names (more_statements c (return t) (more_statements d u ss)) a = (a.0, last-names (more_statements d u ss) a.1)
  last-names (more_statements c (var n) ss) a = (a.0, last-names ss a.1)
  last-names (more_statements c (literal l) ss) a = (a.0, last-names ss a.1)
  last-names (more_statements c (send r s args) ss) a = (a.0, last-names ss a.1)
  last-names (more_statements c (cascade r ms) ss) a = (a.0, last-names ss a.1)
  last-names (more_statements c (assign n t) ss) a = (a.0, last-names ss a.1)
  last-names (more_statements c (block ps ts us e) ss) a = (a.0, last-names ss a.1)
  last-names (more_statements c (brace ts) ss) a = (a.0, last-names ss a.1)

  -- what a message passes
  as_send-names : (path : List ℕ) (t : TreeOf ℕ) → AllNames P t → OptionNames (λ (e : SendOf ℕ). TreesNames P e.arguments) (as_send path t)
  as_send-names path (var n) a = tt
  as_send-names path (literal l) a = tt
  as_send-names path (send r s args) a = a.2
  as_send-names path (cascade r ms) a = tt
  as_send-names path (assign n t) a = tt
  as_send-names path (block ps ts ss e) a = tt
  as_send-names path (brace ts) a = tt
  as_send-names path (return t) a = tt

  pub sent-names : (m : MethodOf ℕ) (part : Part) → MethodNames P m → OptionNames (λ (e : SendOf ℕ). TreesNames P e.arguments) (sent_by m part)
  sent-names m (Expression path) a =
      and_then-fact (AllNames P) (λ (e : SendOf ℕ). TreesNames P e.arguments) (as_send path) (as_send-names path) (part_in m.body path) (part_in-names P m.body path a.body)
  sent-names m (Run path first count) a = tt

  module _ (a : AskedOf ℕ) (target : MethodOf ℕ) (args : TreesOf ℕ) (known : MethodNames P target) (passed : TreesNames P args) where
    passed_for-names : (path : List ℕ) (n : ℕ) → OptionNames (AllNames P) (passed_for a target args path n)
    passed_for-names path n = by (is_formal (local_in a.words.tests.same a.words.tests.is_pseudo target path n))
      where
        by : (b : Bool) → OptionNames (AllNames P) (if b then passed_as a.words.tests.same target.arguments args n else None)
        by true = passed_as-names a.words.tests.same target.arguments args n passed
        by false = tt

    -- a node, or what is passed for it
    filled-names : Keeps P (filled a target args)
    filled-names path (var n) h = by (passed_for a target args path n) (passed_for-names path n)
      where
        by : (o : Option (TreeOf ℕ)) → OptionNames (AllNames P) o → AllNames P (unwrap_or o (var n))
        by None k = h
        by (Some t) k = k
    filled-names path (literal l) h = h
    filled-names path (send r s us) h = h
    filled-names path (cascade r ms) h = h
    filled-names path (assign n t) h = h
    filled-names path (block ps ts ss e) h = h
    filled-names path (brace ts) h = h
    filled-names path (return t) h = h

    unfolded-names : StatementsNames P (unfolded a target args)
    unfolded-names = names-rebuilt_statements P (filled a target args) filled-names 0 target.body.statements known.body.statements

  -- the method in which the body stands
  pub inlined-names : (a : AskedOf ℕ) (m : MethodOf ℕ) (e : SendOf ℕ) (target : MethodOf ℕ) → MethodNames P m → TreesNames P e.arguments → MethodNames P target → OptionNames (MethodNames P) (tree_inlined a m e target)
  inlined-names a m e target own passed known = either (answered us) (answered-names us there) (whole_statement m e.path)
    where
      us : StatementsOf ℕ
      us = unfolded a target e.arguments

      there : StatementsNames P us
      there = unfolded-names a target e.arguments known passed

      whole : (o : Option ℕ) → OptionNames (MethodNames P) (option_map (λ k. sequence_changed (put_for k (last_unanswered us)) (sequence_round m e.path) m) o)
      whole None = tt
      whole (Some k) = sequence-names P (put_for k (last_unanswered us)) (put_for-names k (last_unanswered us) (last-names us there)) (sequence_round m e.path) m own

      either : (o : Option (TreeOf ℕ)) → OptionNames (AllNames P) o → (q : Option ℕ)
          → OptionNames (MethodNames P) (option_or (option_map (λ t. method_replaced m e.path t) o) (option_map (λ k. sequence_changed (put_for k (last_unanswered us)) (sequence_round m e.path) m) q))
      either None h q = whole q
      either (Some t) h q = record { selector = own.selector; arguments = own.arguments; body = replaced_in-names P t h m.body e.path own.body }
