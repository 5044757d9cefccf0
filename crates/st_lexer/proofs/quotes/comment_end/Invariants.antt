use Rattle.std.proofs.Common.{length, ◌-◌, ◌≢◌, ℕ, ◌<◌, get_or}
use Rattle.st_lexer.proofs.quotes.comment_end.Given as goal

abbrev pub invariant-loop-at : goal.invariant-loop-at
invariant-loop-at l = record {
  low : l.from < l.at;
  inside : (k : ℕ) → l.from < k → k < l.at → get_or l.text k 0 ≢ 34;
}

abbrev pub decreases-loop-at : goal.decreases-loop-at
decreases-loop-at l = length l.text - l.at
