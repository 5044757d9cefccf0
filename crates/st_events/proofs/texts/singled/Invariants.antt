use Rattle.std.proofs.Common.{◌≡◌, ◌++◌, false, drop}
use Rattle.grammar_model.specs.Lexemes.{singled}
use Rattle.st_events.proofs.texts.singled.Given as goal

abbrev pub invariant-loop-byte : goal.invariant-loop-byte
invariant-loop-byte l = record { gives : singled 39 false l.bytes ≡ l.kept.items ++ singled 39 l.odd (drop l.byte-index l.bytes) }
