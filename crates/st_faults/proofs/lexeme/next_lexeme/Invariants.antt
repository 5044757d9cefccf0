use Rattle.std.proofs.Common.{◌-◌, ◌≤◌, length}
use Rattle.st_faults.specs.Forms.{form_of}
use Rattle.st_faults.proofs.Skipping.{Skipped}
use Rattle.st_faults.proofs.lexeme.next_lexeme.Given as goal

abbrev pub invariant-comments : goal.invariant-comments
invariant-comments l = record {
  order : l.at ≤ l.place;
  inside : l.place ≤ length l.text;
  skipped : Skipped (form_of l.form) l.text l.at l.place;
}

abbrev pub decreases-comments : goal.decreases-comments
decreases-comments l = length l.text - l.place
