use Rattle.std.proofs.Common.{length, ◌-◌, ℕ}
use Rattle.token_model.specs.Tokens.{IsKeyword, IsKeywordRow}
use Rattle.st_lexer.proofs.words.keyword_row_end.Given as goal

-- a keyword ends where the loop stands, and a row from it on is one from the first keyword on
abbrev pub invariant-loop-end : goal.invariant-loop-end
invariant-loop-end l = (last : ℕ) × IsKeyword l.text last l.at × ((j : ℕ) → IsKeywordRow l.text last j → IsKeywordRow l.text l.from j)

abbrev pub decreases-loop-end : goal.decreases-loop-end
decreases-loop-end l = length l.text - l.at
