use Rattle.std.proofs.Common.{ℕ, ◌<◌}
use Rattle.rule_model.specs.RuleLines.{HasArrowAt}
use Rattle.certificates.proofs.lines.cut_at_arrow.Given as goal

abbrev pub invariant-loop-at : goal.invariant-loop-at
invariant-loop-at l = (k : ℕ) → k < l.at → HasArrowAt l.fn.text k → ⊥
