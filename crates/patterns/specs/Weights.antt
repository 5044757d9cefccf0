-- How many constructors a pattern has, by which each part is smaller than the whole.
use Rattle.std.specs.Prelude.{ℕ, ◌+◌}
use Rattle.pattern_model.specs.Patterns.{PatternOf, meta, var_like, literal_like, send_like, cascade_like, assign_like, block_like, brace_like, return_like, PatternsOf, no_patterns, more_patterns, MessagesLike, no_messages_like, more_messages_like, StatementsLike, no_statements_like, more_statements_like}

-- a pattern; lists weigh their items
abbrev mutual
  pub pattern_weight : {N : Type 0} → PatternOf N → ℕ
  pattern_weight (meta m) = 1
  pattern_weight (var_like n) = 1
  pattern_weight (literal_like l) = 1
  pattern_weight (send_like r s ps) = pattern_weight r + patterns_weight ps + 1
  pattern_weight (cascade_like r ms) = pattern_weight r + messages_like_weight ms + 1
  pattern_weight (assign_like n p) = pattern_weight p + 1
  pattern_weight (block_like ps ts ss e) = statements_like_weight ss + 1
  pattern_weight (brace_like ps) = patterns_weight ps + 1
  pattern_weight (return_like p) = pattern_weight p + 1

  pub patterns_weight : {N : Type 0} → PatternsOf N → ℕ
  patterns_weight no_patterns = 1
  patterns_weight (more_patterns p ps) = pattern_weight p + patterns_weight ps + 1

  pub messages_like_weight : {N : Type 0} → MessagesLike N → ℕ
  messages_like_weight no_messages_like = 1
  messages_like_weight (more_messages_like s ps ms) = patterns_weight ps + messages_like_weight ms + 1

  pub statements_like_weight : {N : Type 0} → StatementsLike N → ℕ
  statements_like_weight no_statements_like = 1
  statements_like_weight (more_statements_like c p ss) = pattern_weight p + statements_like_weight ss + 1
