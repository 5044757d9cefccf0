use Rattle.std.proofs.Common.{◌≡◌, ◌+◌, ◌≤◌, false, drop}
use Rattle.spelled_words.proofs.Counts.{count_from}
use Rattle.spelled_words.proofs.spelling.count_keywords.Given as goal

abbrev pub invariant-loop-byte : goal.invariant-loop-byte
invariant-loop-byte l = record {
  fits : l.count ≤ l.byte-index;
  counted : count_from false l.selector ≡ l.count + count_from l.begun (drop l.byte-index l.selector);
}
