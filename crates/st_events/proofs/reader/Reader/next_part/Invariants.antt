use Rattle.std.proofs.Common.{◌≡◌, ℕ, length}
use Rattle.tree_model.specs.Tree.{Notes, LiteralOf}
use Rattle.grammar_model.specs.Terminal.{Text}
use Rattle.grammar_model.specs.Input.{lex}
use Rattle.grammar_model.specs.Machine as machine
use Rattle.st_faults.specs.Sorts.{terminal}
use Rattle.st_events.specs.Steps.{step}
use Rattle.st_events.specs.Stacks.{machine_of}
use Rattle.st_events.proofs.reader.Reader.next_part.Given as goal

abbrev pub invariant-parts : goal.invariant-parts
invariant-parts l = record {
  same : (c : Notes) (e : ℕ) (s : Text) (t : LiteralOf Text) → step l.fn.self.stack l.fn.self (lex c l.from e (terminal l.sort s t)) ≡ step l.self.stack l.self (lex c l.from e (terminal l.sort s t));
  agrees : (s : Text) (t : LiteralOf Text) → machine.step (machine_of l.fn.self.stack) (terminal l.sort s t) ≡ machine.step (machine_of l.self.stack) (terminal l.sort s t);
}

abbrev pub decreases-parts : goal.decreases-parts
decreases-parts l = length l.self.stack
