use Rattle.std.proofs.Common.{◌-◌, ◌≤◌, length}
use Rattle.st_faults.specs.Forms.{form_of}
use Rattle.st_faults.proofs.Scanning.{Scanned}
use Rattle.st_faults.proofs.brackets.whole_depth.Given as goal

abbrev pub invariant-tokens : goal.invariant-tokens
invariant-tokens l = record {
  inside : l.place ≤ length l.text;
  scanned : Scanned (form_of l.form) l.text l.place l.depth;
}

abbrev pub decreases-tokens : goal.decreases-tokens
decreases-tokens l = length l.text - l.place
