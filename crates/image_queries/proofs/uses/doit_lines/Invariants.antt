use Rattle.std.proofs.Common.{ℕ, List, ◌++◌, ◌-◌, drop, length}
use Rattle.class_table.specs.declared.record.DoIt.{DoIt}
use Rattle.image_queries.specs.Asked.{query_of}
use Rattle.image_queries.specs.Parts.{AreTexts, IsDoItText}
use Rattle.image_queries.proofs.uses.doit_lines.Given as goal

abbrev pub invariant-loop-number : goal.invariant-loop-number
invariant-loop-number g l =
    (rest : List ℕ) → AreTexts (λ (number : ℕ) (d : DoIt) (lines : List ℕ). IsDoItText l.image (query_of l.query) number d lines) l.number (drop l.number l.image.doits) rest
    → AreTexts (λ (number : ℕ) (d : DoIt) (lines : List ℕ). IsDoItText l.image (query_of l.query) number d lines) 0 l.image.doits (l.text ++ rest)

abbrev pub decreases-loop-number : goal.decreases-loop-number
decreases-loop-number g l = length l.image.doits - l.number
