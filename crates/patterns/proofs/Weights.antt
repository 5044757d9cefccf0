-- Each part of a list of patterns weighs less than the list.
use Rattle.std.proofs.Common.{◌≡◌, ℕ, zero, suc, ◌<◌, List, [], ◌∷◌, length, get_or, arith, ap}
use Rattle.pattern_model.specs.Patterns.{PatternOf}
use Rattle.patterns.specs.Weights.{pattern_weight, patterns_weight, messages_like_weight, statements_like_weight}
use Rattle.patterns.specs.View.{patterns_of, messages_from, statements_from}
use Rattle.patterns.specs.declared.tree.PatternMessage.{PatternMessage}
use Rattle.patterns.specs.declared.tree.PatternStatement.{PatternStatement}

-- of patterns
pub weight-pattern : (ps : List (PatternOf ℕ)) (i : ℕ) (p : PatternOf ℕ) → i < length ps → p ≡ get_or ps i p → pattern_weight p < patterns_weight (patterns_of ps)
weight-pattern [] i p h e = absurd (omega arith)
weight-pattern (q ∷ ps) zero p h e = omega (arith, ap (pattern_weight {N = ℕ}) e)
weight-pattern (q ∷ ps) (suc i) p h e = omega (arith, weight-pattern ps i p (omega arith) e)

-- of messages
pub weight-message_like : (ms : List PatternMessage) (i : ℕ) (m : PatternMessage) → i < length ms → m ≡ get_or ms i m → patterns_weight (patterns_of m.arguments.items) < messages_like_weight (messages_from ms)
weight-message_like [] i m h e = absurd (omega arith)
weight-message_like (k ∷ ms) zero m h e = omega (arith, ap (λ (n : PatternMessage). patterns_weight (patterns_of n.arguments.items)) e)
weight-message_like (k ∷ ms) (suc i) m h e = omega (arith, weight-message_like ms i m (omega arith) e)

-- of statements
pub weight-statement_like : (ss : List PatternStatement) (i : ℕ) (s : PatternStatement) → i < length ss → s ≡ get_or ss i s → pattern_weight s.node < statements_like_weight (statements_from ss)
weight-statement_like [] i s h e = absurd (omega arith)
weight-statement_like (k ∷ ss) zero s h e = omega (arith, ap (λ (n : PatternStatement). pattern_weight n.node) e)
weight-statement_like (k ∷ ss) (suc i) s h e = omega (arith, weight-statement_like ss i s (omega arith) e)

pub ruleset weight_rules = (weight-pattern, weight-message_like, weight-statement_like)
