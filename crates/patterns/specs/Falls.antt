-- Each part of a pattern weighs less than the pattern.
use Rattle.std.specs.Prelude.{ℕ, ◌+◌, ◌≤◌, max, List, [], ◌∷◌}
use Rattle.std.proofs.Common.{arith}
use denote.Param.Weighed.{most}
use Rattle.pattern_model.specs.Patterns.{PatternOf}
use Rattle.patterns.specs.Weights.{pattern_weight, patterns_weight, messages_like_weight, statements_like_weight}
use Rattle.patterns.specs.View.{pattern_from, patterns_of, messages_from, statements_from}
use Rattle.patterns.specs.declared.tree.PatternKind.{PatternKind}
use Rattle.patterns.specs.declared.tree.PatternKind.TheVariants as kind
use Rattle.patterns.specs.declared.tree.PatternMessage.{PatternMessage}
use Rattle.patterns.specs.declared.tree.PatternStatement.{PatternStatement}
use Rattle.patterns.specs.declared.tree.Pattern.TheDeep.{deep-PatternKind, deep-PatternMessage, deep-PatternStatement}

-- of patterns
pub most_le-patterns_weight : (ps : List (PatternOf ℕ)) → most (λ p. pattern_weight p + 1) ps ≤ patterns_weight (patterns_of ps)
most_le-patterns_weight [] = omega arith
most_le-patterns_weight (p ∷ ps) = omega (arith, most_le-patterns_weight ps)

-- of messages
pub most_le-messages_like_weight : (ms : List PatternMessage) → most deep-PatternMessage ms ≤ messages_like_weight (messages_from ms)
most_le-messages_like_weight [] = omega arith
most_le-messages_like_weight (m ∷ ms) = omega (arith, most_le-patterns_weight m.arguments.items, most_le-messages_like_weight ms)

-- of statements
pub most_le-statements_like_weight : (ss : List PatternStatement) → most deep-PatternStatement ss ≤ statements_like_weight (statements_from ss)
most_le-statements_like_weight [] = omega arith
most_le-statements_like_weight (s ∷ ss) = omega (arith, most_le-statements_like_weight ss)

-- of a pattern
pub depth_le-pattern_weight : (k : PatternKind) → max (deep-PatternKind k) 0 ≤ pattern_weight (pattern_from k)
depth_le-pattern_weight (kind.Meta m) = omega arith
depth_le-pattern_weight (kind.Var n) = omega arith
depth_le-pattern_weight (kind.Literal l) = omega arith
depth_le-pattern_weight (kind.Send r m) = omega (arith, most_le-patterns_weight m.arguments.items)
depth_le-pattern_weight (kind.Cascade r ms) = omega (arith, most_le-messages_like_weight ms.items)
depth_le-pattern_weight (kind.Assign n p) = omega arith
depth_le-pattern_weight (kind.Block ps body) = omega (arith, most_le-statements_like_weight body.value.statements.items)
depth_le-pattern_weight (kind.Brace ps) = omega (arith, most_le-patterns_weight ps.items)
depth_le-pattern_weight (kind.Return p) = omega arith
