use Rattle.std.proofs.Common.{ℕ, List, ◌++◌, ◌-◌, drop, length}
use Rattle.class_table.specs.declared.record.DoIt.{DoIt}
use Rattle.image_queries.specs.Parts.{AreTexts}
use Rattle.image_search.specs.Parts.{IsDoItText}
use Rattle.image_search.proofs.lines.doit_lines.Given as goal

abbrev pub invariant-loop-number : goal.invariant-loop-number
invariant-loop-number g l =
    (rest : List ℕ) → AreTexts (λ (number : ℕ) (d : DoIt) (lines : List ℕ). IsDoItText l.image l.pattern number d lines) l.number (drop l.number l.image.doits) rest
    → AreTexts (λ (number : ℕ) (d : DoIt) (lines : List ℕ). IsDoItText l.image l.pattern number d lines) 0 l.image.doits (l.text ++ rest)

abbrev pub decreases-loop-number : goal.decreases-loop-number
decreases-loop-number g l = length l.image.doits - l.number
