use Rattle.std.proofs.Common.{ℕ, List, ◌++◌, drop}
use Rattle.image_queries.specs.Parts.{AreTexts}
use Rattle.image_search.specs.Parts.{IsSlotText}
use Rattle.image_search.proofs.lines.method_lines.Given as goal

abbrev pub invariant-loop-slot : goal.invariant-loop-slot
invariant-loop-slot g l =
    (rest : List ℕ) → AreTexts (λ (place slot : ℕ) (lines : List ℕ). IsSlotText l.image l.pattern slot lines) l.slot-index (drop l.slot-index l.slot-items) rest
    → AreTexts (λ (place slot : ℕ) (lines : List ℕ). IsSlotText l.image l.pattern slot lines) 0 l.slot-items (l.text ++ rest)
