-- Statements that become a method, and are put back.
use Rattle.std.proofs.Common.{◌≡◌, ℕ, zero, suc, List, [], ◌∷◌, ◌++◌, map, Option, Some, None, option_map, option_and_then, unwrap_or, ap, sym, ◌∙◌, refl, subst}
use Rattle.std.specs.Option.{option_or}
use Rattle.tree_model.specs.Tree.{Notes, TreeOf, var, literal, send, cascade, assign, block, brace, return, trees_of, StatementsOf, no_statements, more_statements, SequenceOf, MethodOf}
use Rattle.tree_model.specs.Path.{nth, statement_trees, part_at, part_in, method_replaced}
use Rattle.tree_model.specs.Normal.{without_leading_of}
use Rattle.tree_model.proofs.Parts.{part_at-append, part_in-replaced_in, replaced_in-replaced_in}
use Rattle.scope_model.specs.FreeNames.{run_of, statements_at}
use Rattle.scope_model.specs.Scope.{ScopeOf, block_scope}
use Rattle.command_model.specs.Parts.{Run}
use Rattle.command_model.specs.Asked.{AskedOf}
use Rattle.command_model.specs.Places.{SendOf, as_send, sequence_round, whole_statement}
use Rattle.command_model.specs.Sequences.{single, put_in, put_for, block_changed, sequence_changed}
use Rattle.command_model.specs.Extracted.{part_replaced, call_of, method_of, free_temporaries}
use Rattle.command_model.specs.Inlined.{unfolded, filled, answered, last_unanswered}
use Rattle.code_command_laws.specs.Folded.{TellsApart}
use Rattle.code_command_laws.specs.FoldedRun.{IsRun, without_first_notes, IsRunPutBack}
use Rattle.code_command_laws.proofs.Rebuilt.{rebuilt_statements-same}
use Rattle.code_command_laws.proofs.Passed.{filled-itself}
use Rattle.code_command_laws.proofs.Statements.{answered-run, last_unanswered-run, at_first, put_for-put_in}
use Rattle.code_command_laws.proofs.Round.{LeadsTo, ToBody, ToBlock, sequence_round-statement, whole_statement-statement}

-- a path of two pieces into a sequence
pub part_in-append : {N : Type 0} (b : SequenceOf N) (k : ℕ) (ks rest : List ℕ) → part_in b (k ∷ (ks ++ rest)) ≡ option_and_then (λ c. part_at c rest) (part_in b (k ∷ ks))
part_in-append {N} b k ks rest = by (nth (statement_trees b.statements) k)
  where
    by : (o : Option (TreeOf N)) → option_and_then (λ c. part_at c (ks ++ rest)) o ≡ option_and_then (λ c. part_at c rest) (option_and_then (λ c. part_at c ks) o)
    by None = refl
    by (Some c) = part_at-append c ks rest

-- no statement is no run
no_run : (N : Type 0) (first count : ℕ) → IsRun (run_of {N = N} no_statements first count) → ⊥
no_run N zero zero run = run
no_run N zero (suc count) run = run
no_run N (suc first) zero run = run
no_run N (suc first) (suc count) run = run

-- the statements of what a path leads to
abbrev pub statements_of : {N : Type 0} → Option (TreeOf N) → StatementsOf N
statements_of o = unwrap_or (option_map (λ (s : ScopeOf _). s.statements) (option_and_then block_scope o)) no_statements

module _ {N : Type 0} (m : MethodOf N) where
  -- where a path leads to a block, its sequence changes
  sequence_changed-block : (change : SequenceOf N → SequenceOf N) (k : ℕ) (ks : List ℕ) (t : TreeOf N) → part_in m.body (k ∷ ks) ≡ Some t
      → sequence_changed change (k ∷ ks) m ≡ method_replaced m (k ∷ ks) (block_changed change t)
  sequence_changed-block change k ks t e = ap (λ (o : Option (TreeOf N)). unwrap_or (option_map (λ u. method_replaced m (k ∷ ks) (block_changed change u)) o) m) e

  -- where there is a run, the path leads to a sequence
  leads_to : (path : List ℕ) (first count : ℕ) → IsRun (run_of (statements_at m.body path) first count) → LeadsTo m path
  leads_to [] first count run = ToBody
  leads_to (k ∷ ks) first count run = by (part_in m.body (k ∷ ks)) refl run
    where
      by : (o : Option (TreeOf N)) → part_in m.body (k ∷ ks) ≡ o → IsRun (run_of (statements_of o) first count) → LeadsTo m (k ∷ ks)
      by None e r = absurd (no_run N first count r)
      by (Some (var n)) e r = absurd (no_run N first count r)
      by (Some (literal l)) e r = absurd (no_run N first count r)
      by (Some (send q s args)) e r = absurd (no_run N first count r)
      by (Some (cascade q ms)) e r = absurd (no_run N first count r)
      by (Some (assign n t)) e r = absurd (no_run N first count r)
      by (Some (block ps ts ss tail)) e r = ToBlock ps ts ss tail e
      by (Some (brace ts)) e r = absurd (no_run N first count r)
      by (Some (return t)) e r = absurd (no_run N first count r)

module _ {N : Type 0} (m : MethodOf N) (first count : ℕ) (call : TreeOf N) where
  -- the method in which one node stands in place of the statements
  abbrev with_call : List ℕ → MethodOf N
  with_call path = sequence_changed (put_in first count (single call)) path m

  module _ (k : ℕ) (ks : List ℕ) (ps ts : List N) (ss : StatementsOf N) (tail : Notes) (e : part_in m.body (k ∷ ks) ≡ Some (block ps ts ss tail)) where
    -- the block's sequence, and the block after the change
    abbrev own : SequenceOf N
    own = record { temporaries = ts; statements = ss; tail = tail }

    abbrev block_then : TreeOf N
    block_then = block_changed (put_in first count (single call)) (block ps ts ss tail)

    abbrev then : MethodOf N
    then = method_replaced m (k ∷ ks) block_then

    is_then : with_call (k ∷ ks) ≡ then
    is_then = sequence_changed-block m (put_in first count (single call)) k ks (block ps ts ss tail) e

    found_then : part_in then.body (k ∷ ks) ≡ Some block_then
    found_then = part_in-replaced_in m.body (k ∷ ks) (block ps ts ss tail) block_then e

    own_run : IsRun (run_of (statements_at m.body (k ∷ ks)) first count) → IsRun (run_of own.statements first count)
    own_run run = subst (λ (o : Option (TreeOf N)). IsRun (run_of (statements_of o) first count)) e run

    leads_then : LeadsTo (with_call (k ∷ ks)) (k ∷ ks)
    leads_then = subst (λ (n : MethodOf N). LeadsTo n (k ∷ ks)) (sym is_then) (ToBlock ps ts (put_in first count (single call) own).statements tail found_then)

    call_then : IsRun (run_of (statements_at m.body (k ∷ ks)) first count) → part_in (with_call (k ∷ ks)).body ((k ∷ ks) ++ first ∷ []) ≡ Some call
    call_then run =
        ap (λ (n : MethodOf N). part_in n.body (k ∷ (ks ++ first ∷ []))) is_then
        ∙ part_in-append then.body k ks (first ∷ [])
        ∙ ap (λ (o : Option (TreeOf N)). option_and_then (λ c. part_at c (first ∷ [])) o) found_then
        ∙ ap (λ (o : Option (TreeOf N)). option_and_then (λ c. part_at c []) o) (at_first first count call own (own_run run))

    back_then : (new : StatementsOf N) → IsRun (run_of (statements_at m.body (k ∷ ks)) first count)
        → sequence_changed (put_for first new) (k ∷ ks) (with_call (k ∷ ks)) ≡ sequence_changed (put_in first count new) (k ∷ ks) m
    back_then new run =
        ap (sequence_changed (put_for first new) (k ∷ ks)) is_then
        ∙ sequence_changed-block then (put_for first new) k ks block_then found_then
        ∙ (λ i. record m { body = replaced_in-replaced_in m.body (k ∷ ks) block_then (block_changed (put_for first new) block_then) i })
        ∙ (λ i. method_replaced m (k ∷ ks) (block ps (put_for-put_in first count call own (own_run run) new i).temporaries (put_for-put_in first count call own (own_run run) new i).statements (put_for-put_in first count call own (own_run run) new i).tail))
        ∙ sym (sequence_changed-block m (put_in first count new) k ks (block ps ts ss tail) e)

  -- whichever sequence it is
  leads_with : (path : List ℕ) → LeadsTo m path → LeadsTo (with_call path) path
  leads_with [] ToBody = ToBody
  leads_with (k ∷ ks) (ToBlock ps ts ss tail e) = leads_then k ks ps ts ss tail e

  call_with : (path : List ℕ) → LeadsTo m path → IsRun (run_of (statements_at m.body path) first count) → part_in (with_call path).body (path ++ first ∷ []) ≡ Some call
  call_with [] ToBody run = ap (λ (o : Option (TreeOf N)). option_and_then (λ c. part_at c []) o) (at_first first count call m.body run)
  call_with (k ∷ ks) (ToBlock ps ts ss tail e) run = call_then k ks ps ts ss tail e run

  back_with : (new : StatementsOf N) (path : List ℕ) → LeadsTo m path → IsRun (run_of (statements_at m.body path) first count)
      → sequence_changed (put_for first new) path (with_call path) ≡ sequence_changed (put_in first count new) path m
  back_with new [] ToBody run = λ i. record m { body = put_for-put_in first count call m.body run new i }
  back_with new (k ∷ ks) (ToBlock ps ts ss tail e) run = back_then k ks ps ts ss tail e new run

-- the first comments of the statements of a method without temporaries go to its head
body_of_new : {N : Type 0} (ss : StatementsOf N) → (without_leading_of [] ss []).statements ≡ without_first_notes ss
body_of_new no_statements = refl
body_of_new (more_statements c t ss) = refl

module _ {N : Type 0} (a : AskedOf N) (t : N) (m : MethodOf N) (path : List ℕ) (first count : ℕ) where
  -- the statements, the message in their place, and the method that they become
  abbrev taken : StatementsOf N
  taken = run_of (statements_at m.body path) first count

  abbrev call : TreeOf N
  call = call_of a t m (Run path first count)

  abbrev changed : MethodOf N
  changed = part_replaced m (Run path first count) call

  abbrev new : MethodOf N
  new = method_of a t m (Run path first count)

  abbrev message : SendOf N
  message = record {
    path = path ++ first ∷ [];
    receiver = var a.self_name;
    selector = t;
    arguments = trees_of (map (λ x. var x) (free_temporaries a m (Run path first count)));
  }

  -- with the names passed under their own names
  unfolded_new : TellsApart a.words.tests.same → unfolded a new message.arguments ≡ without_first_notes taken
  unfolded_new tells =
      rebuilt_statements-same (filled a new message.arguments) (filled-itself a tells new) 0 new.body.statements ∙ body_of_new taken

  -- what is put in place of the message, by the expression that the statements of the new method answer, or by those statements
  abbrev put_back : Option (TreeOf N) → StatementsOf N → Option (MethodOf N)
  put_back o ss =
      option_or (option_map (λ u. method_replaced changed message.path u) o)
      (option_map (λ k. sequence_changed (put_for k (last_unanswered ss)) (sequence_round changed message.path) changed) (whole_statement changed message.path))

  pub is_run_put_back : TellsApart a.words.tests.same → IsRun taken → IsRunPutBack a t m path first count
  is_run_put_back tells run = record {
    message = message;
    stands = ap (λ (o : Option (TreeOf N)). option_and_then (as_send message.path) o) (call_with m first count call path leads run);
    is_of = refl;
    same =
        (λ i. put_back (answered (unfolded_new tells i)) (unfolded_new tells i))
        ∙ ap (λ (o : Option (TreeOf N)). put_back o (without_first_notes taken)) (answered-run taken run)
        ∙ (λ i. option_map (λ k. sequence_changed (put_for k (last_unanswered-run taken run i)) (sequence_round-statement changed first path after i) changed) (whole_statement-statement changed first path after i))
        ∙ ap (λ (n : MethodOf N). Some n) (back_with m first count call (without_first_notes taken) path leads run);
  }
    where
      leads : LeadsTo m path
      leads = leads_to m path first count run

      after : LeadsTo changed path
      after = leads_with m first count call path leads
