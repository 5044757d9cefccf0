-- Statements that are taken out of a method, and put back.
use Rattle.std.specs.Prelude.{◌≡◌, false, List, [], ◌∷◌, ◌++◌, ℕ, Some}
use Rattle.tree_model.specs.Tree.{StatementsOf, no_statements, more_statements, MethodOf}
use Rattle.scope_model.specs.FreeNames.{run_of, statements_at}
use Rattle.command_model.specs.Parts.{Expression, Run}
use Rattle.command_model.specs.Asked.{AskedOf}
use Rattle.command_model.specs.Places.{is_return, SendOf, sent_by}
use Rattle.command_model.specs.Sequences.{put_in, sequence_changed}
use Rattle.command_model.specs.Extracted.{part_replaced, call_of, method_of}
use Rattle.command_model.specs.Inlined.{tree_inlined}

-- none of the statements is a return
abbrev pub HaveNoReturn : {N : Type 0} → StatementsOf N → Type 0
HaveNoReturn no_statements = Unit {0}
HaveNoReturn (more_statements c t ss) = (is_return t ≡ false) × HaveNoReturn ss

-- two statements or more, none a return
abbrev pub IsRun : {N : Type 0} → StatementsOf N → Type 0
IsRun (more_statements c t (more_statements d u ss)) = HaveNoReturn (more_statements c t (more_statements d u ss))
IsRun ss = ⊥

-- the statements, without the comments of the first one
abbrev pub without_first_notes : {N : Type 0} → StatementsOf N → StatementsOf N
without_first_notes no_statements = no_statements
without_first_notes (more_statements c t ss) = more_statements [] t ss

-- Where statements of a method become a message of t, that message stands there; and where it is replaced by the body of the method that they became, the method is as it was, but for the comments of the first of them.
pub record IsRunPutBack {N : Type 0} (a : AskedOf N) (t : N) (m : MethodOf N) (path : List ℕ) (first count : ℕ) : Type 0 where
  pub message : SendOf N
  pub stands : sent_by (part_replaced m (Run path first count) (call_of a t m (Run path first count))) (Expression (path ++ first ∷ [])) ≡ Some message
  pub is_of : message.selector ≡ t
  pub same :
      tree_inlined a (part_replaced m (Run path first count) (call_of a t m (Run path first count))) message (method_of a t m (Run path first count))
      ≡ Some (sequence_changed (put_in first count (without_first_notes (run_of (statements_at m.body path) first count))) path m)
