use Rattle.std.proofs.Common.{ℕ, List, ◌++◌, drop}
use Rattle.image_queries.specs.Asked.{query_of}
use Rattle.image_queries.specs.Parts.{AreTexts, IsSlotText}
use Rattle.image_queries.proofs.uses.method_lines.Given as goal

abbrev pub invariant-loop-slot : goal.invariant-loop-slot
invariant-loop-slot g l =
    (rest : List ℕ) → AreTexts (λ (place slot : ℕ) (lines : List ℕ). IsSlotText l.image (query_of l.query) slot lines) l.slot-index (drop l.slot-index l.slot-items) rest
    → AreTexts (λ (place slot : ℕ) (lines : List ℕ). IsSlotText l.image (query_of l.query) slot lines) 0 l.slot-items (l.text ++ rest)
