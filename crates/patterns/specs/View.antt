-- What the program's patterns and rules stand for.
use Rattle.std.specs.Prelude.{ℕ, List, [], ◌∷◌, map}
use Rattle.pattern_model.specs.Patterns.{MetaOf, KeywordLike, this_keyword, any_keyword, SelectorLike, this_selector, any_unary, of_keywords, any_message, PatternOf, meta, var_like, literal_like, send_like, cascade_like, assign_like, block_like, brace_like, return_like, PatternsOf, no_patterns, more_patterns, MessagesLike, no_messages_like, more_messages_like, StatementsLike, no_statements_like, more_statements_like}
use Rattle.pattern_model.specs.Rewritten.{RuleOf}
use Rattle.patterns.specs.declared.tree.Meta.{Meta}
use Rattle.patterns.specs.declared.tree.PatternKeyword.{PatternKeyword}
use Rattle.patterns.specs.declared.tree.PatternKeyword.TheVariants as keyword
use Rattle.patterns.specs.declared.tree.PatternSelector.{PatternSelector}
use Rattle.patterns.specs.declared.tree.PatternSelector.TheVariants as selector
use Rattle.patterns.specs.declared.tree.PatternKind.{PatternKind}
use Rattle.patterns.specs.declared.tree.PatternKind.TheVariants as kind
use Rattle.patterns.specs.declared.tree.PatternMessage.{PatternMessage}
use Rattle.patterns.specs.declared.tree.PatternStatement.{PatternStatement}
use Rattle.patterns.specs.declared.tree.Rule.{Rule}

-- the abstract metavariable
abbrev pub meta_of : Meta → MetaOf ℕ
meta_of m = record { kind = m.kind; name = m.name; doubled = m.doubled }

-- the abstract keyword
abbrev pub keyword_of : PatternKeyword → KeywordLike ℕ
keyword_of (keyword.Plain k) = this_keyword k
keyword_of (keyword.Any m) = any_keyword (meta_of m)

-- the abstract selector
abbrev pub selector_of : PatternSelector → SelectorLike ℕ
selector_of (selector.Plain n) = this_selector n
selector_of (selector.Unary m) = any_unary (meta_of m)
selector_of (selector.Keywords ks) = of_keywords (map keyword_of ks.items)
selector_of (selector.Whole m) = any_message (meta_of m)

-- the abstract patterns of a list
abbrev pub patterns_of : List (PatternOf ℕ) → PatternsOf ℕ
patterns_of [] = no_patterns
patterns_of (p ∷ ps) = more_patterns p (patterns_of ps)

-- the abstract messages
abbrev pub messages_from : List PatternMessage → MessagesLike ℕ
messages_from [] = no_messages_like
messages_from (m ∷ ms) = more_messages_like (selector_of m.selector) (patterns_of m.arguments.items) (messages_from ms)

-- the abstract statements
abbrev pub statements_from : List PatternStatement → StatementsLike ℕ
statements_from [] = no_statements_like
statements_from (s ∷ ss) = more_statements_like s.comments s.node (statements_from ss)

-- the abstract pattern
abbrev pub pattern_from : PatternKind → PatternOf ℕ
pattern_from (kind.Meta m) = meta (meta_of m)
pattern_from (kind.Var n) = var_like n
pattern_from (kind.Literal l) = literal_like l
pattern_from (kind.Send r m) = send_like r.value (selector_of m.selector) (patterns_of m.arguments.items)
pattern_from (kind.Cascade r ms) = cascade_like r.value (messages_from ms.items)
pattern_from (kind.Assign n p) = assign_like n p.value
pattern_from (kind.Block ps body) = block_like ps body.value.temporaries (statements_from body.value.statements.items) body.value.tail
pattern_from (kind.Brace ps) = brace_like (patterns_of ps.items)
pattern_from (kind.Return p) = return_like p.value

-- the abstract rule
abbrev pub rule_of : Rule → RuleOf ℕ
rule_of r = record { pattern = r.pattern; replacement = r.replacement }
