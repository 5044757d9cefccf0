use Rattle.std.proofs.Common.{◌-◌, ◌≤◌, List, length}
use Rattle.grammar_model.specs.Input.{Lexeme}
use Rattle.st_faults.specs.Forms.{form_of}
use Rattle.st_faults.specs.Lexing.{IsLexedFrom}
use Rattle.st_faults.proofs.Skipping.{Skipped}
use Rattle.st_events.proofs.tokens.next_token.Given as goal

abbrev pub invariant-comments : goal.invariant-comments
invariant-comments l = record {
  order : l.at ≤ l.place;
  inside : l.place ≤ length l.text;
  skipped : Skipped (form_of l.form) l.text l.at l.place;
  left : (ts : List Lexeme) → IsLexedFrom (form_of l.form) l.text l.at l.fn.notes ts → IsLexedFrom (form_of l.form) l.text l.place l.notes ts;
}

abbrev pub decreases-comments : goal.decreases-comments
decreases-comments l = length l.text - l.place
