-- A fact of each name in a pattern: of its variables, selectors, declarations and words, and of its metavariables.
use Rattle.std.specs.List.{AllByRecursion}
use Rattle.tree_model.specs.AllNames.{LiteralNames}
use Rattle.pattern_model.specs.Patterns.{KeywordLike, this_keyword, any_keyword, SelectorLike, this_selector, any_unary, of_keywords, any_message, PatternOf, meta, var_like, literal_like, send_like, cascade_like, assign_like, block_like, brace_like, return_like, PatternsOf, no_patterns, more_patterns, MessagesLike, no_messages_like, more_messages_like, StatementsLike, no_statements_like, more_statements_like}

-- of a keyword, and of a selector
abbrev pub KeywordNames : {N : Type 0} → (N → Type 0) → KeywordLike N → Type 0
KeywordNames P (this_keyword k) = Unit {0}
KeywordNames P (any_keyword m) = P m.name

abbrev pub SelectorNames : {N : Type 0} → (N → Type 0) → SelectorLike N → Type 0
SelectorNames P (this_selector n) = P n
SelectorNames P (any_unary m) = P m.name
SelectorNames P (of_keywords ks) = AllByRecursion (KeywordNames P) ks
SelectorNames P (any_message m) = P m.name

-- of a pattern
abbrev mutual
  pub PatternNames : {N : Type 0} → (N → Type 0) → PatternOf N → Type 0
  PatternNames P (meta m) = P m.name
  PatternNames P (var_like n) = P n
  PatternNames P (literal_like l) = LiteralNames P l
  PatternNames P (send_like r s ps) = PatternNames P r × SelectorNames P s × PatternsNames P ps
  PatternNames P (cascade_like r ms) = PatternNames P r × MessagesLikeNames P ms
  PatternNames P (assign_like n p) = P n × PatternNames P p
  PatternNames P (block_like ps ts ss e) = AllByRecursion P ps × AllByRecursion P ts × StatementsLikeNames P ss
  PatternNames P (brace_like ps) = PatternsNames P ps
  PatternNames P (return_like p) = PatternNames P p

  pub PatternsNames : {N : Type 0} → (N → Type 0) → PatternsOf N → Type 0
  PatternsNames P no_patterns = Unit {0}
  PatternsNames P (more_patterns p ps) = PatternNames P p × PatternsNames P ps

  pub MessagesLikeNames : {N : Type 0} → (N → Type 0) → MessagesLike N → Type 0
  MessagesLikeNames P no_messages_like = Unit {0}
  MessagesLikeNames P (more_messages_like s ps ms) = SelectorNames P s × PatternsNames P ps × MessagesLikeNames P ms

  pub StatementsLikeNames : {N : Type 0} → (N → Type 0) → StatementsLike N → Type 0
  StatementsLikeNames P no_statements_like = Unit {0}
  StatementsLikeNames P (more_statements_like c p ss) = PatternNames P p × StatementsLikeNames P ss
