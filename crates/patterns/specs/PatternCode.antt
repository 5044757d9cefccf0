-- Patterns over numbers are told apart by a tree, which gives them back.
use Rattle.std.specs.Prelude.{◌≡◌, refl, ℕ, zero, suc, Bool, true, false, List, [], ◌∷◌}
use Rattle.std.proofs.Common.{ap}
use Rattle.std.specs.Coded.{Coded, code_by}
use Rattle.tree_model.specs.Tree.{str, TreeOf, var, literal, send, cascade, assign, block, brace, return, TreesOf, no_trees, more_trees, MessagesOf, no_messages, more_messages, StatementsOf, no_statements, more_statements}
use Rattle.tree_model.specs.TreeCode.{coded_tree}
use Rattle.pattern_model.specs.declared.kinds.MetaKind.{MetaKind}
use Rattle.pattern_model.specs.declared.kinds.MetaKind.TheVariants.{Name, Constant, Expression, Statement, StatementList, Unary, Keyword, Message}
use Rattle.pattern_model.specs.Patterns.{MetaOf, KeywordLike, this_keyword, any_keyword, SelectorLike, this_selector, any_unary, of_keywords, any_message, PatternOf, meta, var_like, literal_like, send_like, cascade_like, assign_like, block_like, brace_like, return_like, PatternsOf, no_patterns, more_patterns, MessagesLike, no_messages_like, more_messages_like, StatementsLike, no_statements_like, more_statements_like}
use Rattle.pattern_model.specs.Bindings.{kind_number}

-- the kind of a number
abbrev kind_in : ℕ → MetaKind
kind_in zero = Name
kind_in (suc zero) = Constant
kind_in (suc (suc zero)) = Expression
kind_in (suc (suc (suc zero))) = Statement
kind_in (suc (suc (suc (suc zero)))) = StatementList
kind_in (suc (suc (suc (suc (suc zero))))) = Unary
kind_in (suc (suc (suc (suc (suc (suc zero)))))) = Keyword
kind_in (suc (suc (suc (suc (suc (suc (suc n))))))) = Message

kind_in-kind_number : (k : MetaKind) → kind_in (kind_number k) ≡ k
kind_in-kind_number Name = refl
kind_in-kind_number Constant = refl
kind_in-kind_number Expression = refl
kind_in-kind_number Statement = refl
kind_in-kind_number StatementList = refl
kind_in-kind_number Unary = refl
kind_in-kind_number Keyword = refl
kind_in-kind_number Message = refl

-- whether a mark is doubled
abbrev pack_mark : Bool → ℕ
pack_mark false = 0
pack_mark true = 1

abbrev mark_in : ℕ → Bool
mark_in zero = false
mark_in (suc n) = true

mark_in-pack_mark : (b : Bool) → mark_in (pack_mark b) ≡ b
mark_in-pack_mark false = refl
mark_in-pack_mark true = refl

-- the tree of a metavariable
abbrev pack_meta : MetaOf ℕ → TreeOf ℕ
pack_meta m = send (assign (pack_mark m.doubled) (var (kind_number m.kind))) m.name no_trees

abbrev meta_in : TreeOf ℕ → MetaOf ℕ
meta_in (send (assign d (var k)) n ts) = record { kind = kind_in k; name = n; doubled = mark_in d }
meta_in t = record { kind = Name; name = 0; doubled = false }

meta_in-pack_meta : (m : MetaOf ℕ) → meta_in (pack_meta m) ≡ m
meta_in-pack_meta m = λ i. record { kind = kind_in-kind_number m.kind i; name = m.name; doubled = mark_in-pack_mark m.doubled i }

-- the trees of keywords
abbrev pack_keywords : List (KeywordLike ℕ) → TreesOf ℕ
pack_keywords [] = no_trees
pack_keywords (this_keyword k ∷ ks) = more_trees (literal (str k)) (pack_keywords ks)
pack_keywords (any_keyword m ∷ ks) = more_trees (pack_meta m) (pack_keywords ks)

abbrev keyword_in : TreeOf ℕ → KeywordLike ℕ
keyword_in (literal (str k)) = this_keyword k
keyword_in t = any_keyword (meta_in t)

abbrev keywords_in : TreesOf ℕ → List (KeywordLike ℕ)
keywords_in no_trees = []
keywords_in (more_trees t ts) = keyword_in t ∷ keywords_in ts

keywords_in-pack_keywords : (ks : List (KeywordLike ℕ)) → keywords_in (pack_keywords ks) ≡ ks
keywords_in-pack_keywords [] = refl
keywords_in-pack_keywords (this_keyword k ∷ ks) = ap (λ (xs : List (KeywordLike ℕ)). this_keyword k ∷ xs) (keywords_in-pack_keywords ks)
keywords_in-pack_keywords (any_keyword m ∷ ks) = λ i. any_keyword (meta_in-pack_meta m i) ∷ keywords_in-pack_keywords ks i

-- the tree of a selector
abbrev pack_selector : SelectorLike ℕ → TreeOf ℕ
pack_selector (this_selector n) = var n
pack_selector (any_unary m) = return (pack_meta m)
pack_selector (of_keywords ks) = brace (pack_keywords ks)
pack_selector (any_message m) = assign 0 (pack_meta m)

abbrev selector_in : TreeOf ℕ → SelectorLike ℕ
selector_in (var n) = this_selector n
selector_in (return t) = any_unary (meta_in t)
selector_in (brace ts) = of_keywords (keywords_in ts)
selector_in (assign n t) = any_message (meta_in t)
selector_in t = this_selector 0

selector_in-pack_selector : (s : SelectorLike ℕ) → selector_in (pack_selector s) ≡ s
selector_in-pack_selector (this_selector n) = refl
selector_in-pack_selector (any_unary m) = ap any_unary (meta_in-pack_meta m)
selector_in-pack_selector (of_keywords ks) = ap of_keywords (keywords_in-pack_keywords ks)
selector_in-pack_selector (any_message m) = ap any_message (meta_in-pack_meta m)

-- the tree of a pattern: a selector stands before its arguments
abbrev mutual
  pack_pattern : PatternOf ℕ → TreeOf ℕ
  pack_pattern (meta m) = pack_meta m
  pack_pattern (var_like n) = var n
  pack_pattern (literal_like l) = literal l
  pack_pattern (send_like r s ps) = send (pack_pattern r) 0 (more_trees (pack_selector s) (pack_patterns ps))
  pack_pattern (cascade_like r ms) = cascade (pack_pattern r) (pack_messages ms)
  pack_pattern (assign_like n p) = assign n (pack_pattern p)
  pack_pattern (block_like ps ts ss e) = block ps ts (pack_statements ss) e
  pack_pattern (brace_like ps) = brace (pack_patterns ps)
  pack_pattern (return_like p) = return (pack_pattern p)

  pack_patterns : PatternsOf ℕ → TreesOf ℕ
  pack_patterns no_patterns = no_trees
  pack_patterns (more_patterns p ps) = more_trees (pack_pattern p) (pack_patterns ps)

  pack_messages : MessagesLike ℕ → MessagesOf ℕ
  pack_messages no_messages_like = no_messages
  pack_messages (more_messages_like s ps ms) = more_messages 0 (more_trees (pack_selector s) (pack_patterns ps)) (pack_messages ms)

  pack_statements : StatementsLike ℕ → StatementsOf ℕ
  pack_statements no_statements_like = no_statements
  pack_statements (more_statements_like c p ss) = more_statements c (pack_pattern p) (pack_statements ss)

-- the pattern of a tree
abbrev mutual
  pattern_in : TreeOf ℕ → PatternOf ℕ
  pattern_in (var n) = var_like n
  pattern_in (literal l) = literal_like l
  pattern_in (send r n no_trees) = meta (meta_in (send r n no_trees))
  pattern_in (send r n (more_trees t ts)) = send_like (pattern_in r) (selector_in t) (patterns_in ts)
  pattern_in (cascade r ms) = cascade_like (pattern_in r) (messages_in ms)
  pattern_in (assign n t) = assign_like n (pattern_in t)
  pattern_in (block ps ts ss e) = block_like ps ts (statements_in ss) e
  pattern_in (brace ts) = brace_like (patterns_in ts)
  pattern_in (return t) = return_like (pattern_in t)

  patterns_in : TreesOf ℕ → PatternsOf ℕ
  patterns_in no_trees = no_patterns
  patterns_in (more_trees t ts) = more_patterns (pattern_in t) (patterns_in ts)

  messages_in : MessagesOf ℕ → MessagesLike ℕ
  messages_in no_messages = no_messages_like
  messages_in (more_messages n no_trees ms) = messages_in ms
  messages_in (more_messages n (more_trees t ts) ms) = more_messages_like (selector_in t) (patterns_in ts) (messages_in ms)

  statements_in : StatementsOf ℕ → StatementsLike ℕ
  statements_in no_statements = no_statements_like
  statements_in (more_statements c t ss) = more_statements_like c (pattern_in t) (statements_in ss)

-- a pattern comes back
mutual
  pub pattern_in-pack_pattern : (p : PatternOf ℕ) → pattern_in (pack_pattern p) ≡ p
  pattern_in-pack_pattern (meta m) = ap meta (meta_in-pack_meta m)
  pattern_in-pack_pattern (var_like n) = refl
  pattern_in-pack_pattern (literal_like l) = refl
  pattern_in-pack_pattern (send_like r s ps) = λ i. send_like (pattern_in-pack_pattern r i) (selector_in-pack_selector s i) (patterns_in-pack_patterns ps i)
  pattern_in-pack_pattern (cascade_like r ms) = λ i. cascade_like (pattern_in-pack_pattern r i) (messages_in-pack_messages ms i)
  pattern_in-pack_pattern (assign_like n p) = ap (assign_like n) (pattern_in-pack_pattern p)
  pattern_in-pack_pattern (block_like ps ts ss e) = λ i. block_like ps ts (statements_in-pack_statements ss i) e
  pattern_in-pack_pattern (brace_like ps) = ap brace_like (patterns_in-pack_patterns ps)
  pattern_in-pack_pattern (return_like p) = ap return_like (pattern_in-pack_pattern p)

  patterns_in-pack_patterns : (ps : PatternsOf ℕ) → patterns_in (pack_patterns ps) ≡ ps
  patterns_in-pack_patterns no_patterns = refl
  patterns_in-pack_patterns (more_patterns p ps) = λ i. more_patterns (pattern_in-pack_pattern p i) (patterns_in-pack_patterns ps i)

  messages_in-pack_messages : (ms : MessagesLike ℕ) → messages_in (pack_messages ms) ≡ ms
  messages_in-pack_messages no_messages_like = refl
  messages_in-pack_messages (more_messages_like s ps ms) = λ i. more_messages_like (selector_in-pack_selector s i) (patterns_in-pack_patterns ps i) (messages_in-pack_messages ms i)

  statements_in-pack_statements : (ss : StatementsLike ℕ) → statements_in (pack_statements ss) ≡ ss
  statements_in-pack_statements no_statements_like = refl
  statements_in-pack_statements (more_statements_like c p ss) = λ i. more_statements_like c (pattern_in-pack_pattern p i) (statements_in-pack_statements ss i)

-- the code of patterns
abbrev pub coded_pattern : Coded (PatternOf ℕ)
coded_pattern = code_by (TreeOf ℕ) coded_tree pack_pattern pattern_in pattern_in-pack_pattern
