use Rattle.std.proofs.Common.{◌≡◌, ◌++◌, ℕ, List, take}
use Rattle.std.specs.Prelude.{codes, flat_map}
use Rattle.std.specs.Borrow.{Bor}
use Rattle.refusal_lines.proofs.words.push_words.Given as goal

abbrev pub invariant-loop-word : goal.invariant-loop-word
invariant-loop-word l = l.out ≡ l.initial.out ++ flat_map (λ (w : Bor (List ℕ)). codes " " ++ w.now) (take l.word-index l.words)
