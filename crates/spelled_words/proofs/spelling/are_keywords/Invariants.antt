use Rattle.std.proofs.Common.{◌≡◌, true, length}
use Rattle.text_model.proofs.KeywordRows.{are_keywords}
use Rattle.spelled_words.proofs.spelling.are_keywords.Given as goal

abbrev pub invariant-loop-byte : goal.invariant-loop-byte
invariant-loop-byte l = are_keywords true l.text ≡ are_keywords l.begins l.rest

abbrev pub decreases-loop-byte : goal.decreases-loop-byte
decreases-loop-byte l = length l.rest
