use Rattle.std.proofs.Common.{◌≡◌, true, drop}
use Rattle.text_model.proofs.KeywordRows.{are_keywords}
use Rattle.st_formatter.proofs.selectors.are_keywords.Given as goal

abbrev pub invariant-loop-byte : goal.invariant-loop-byte
invariant-loop-byte l = are_keywords true l.text ≡ are_keywords l.begins (drop l.byte-index l.text)
