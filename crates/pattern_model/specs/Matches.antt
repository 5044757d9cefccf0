-- Which bindings fill a pattern to a node, and which patterns are lawful.
use Rattle.std.specs.Prelude.{◌≡◌, ℕ, ◌+◌, Bool, true, false, not, List, map, length}
use Rattle.std.specs.List.{list_any, AllByRecursion}
use Rattle.std.specs.Option.{option_map_or}
use Rattle.tree_model.specs.Tree.{TreeOf, var, literal, return}
use Rattle.tree_model.specs.Bare.{SameBare}
use Rattle.text_model.specs.Literals.{is_keyword}
use Rattle.pattern_model.specs.declared.kinds.MetaKind.{MetaKind}
use Rattle.pattern_model.specs.declared.kinds.MetaKind.TheVariants.{Name, Constant, Expression, Statement, StatementList, Unary, Keyword, Message}
use Rattle.pattern_model.specs.Patterns.{KeywordLike, this_keyword, any_keyword, SelectorLike, this_selector, any_unary, of_keywords, any_message, PatternOf, meta, var_like, literal_like, send_like, cascade_like, assign_like, block_like, brace_like, return_like, PatternsOf, no_patterns, more_patterns, MessagesLike, no_messages_like, more_messages_like, StatementsLike, no_statements_like, more_statements_like, list_meta, metas}
use Rattle.pattern_model.specs.Bindings.{BoundOf, a_part, a_run, a_selector, a_keyword, a_message, BindingOf, each_once}
use Rattle.pattern_model.specs.Words.{PatternWordsOf}
use Rattle.pattern_model.specs.Fill.{fill}

-- a variable that is no pseudo-variable
abbrev pub is_name : {N : Type 0} → (N → Bool) → TreeOf N → Bool
is_name is_pseudo (var n) = not (is_pseudo n)
is_name is_pseudo t = false

abbrev pub is_literal : {N : Type 0} → TreeOf N → Bool
is_literal (literal l) = true
is_literal t = false

abbrev pub is_expression : {N : Type 0} → TreeOf N → Bool
is_expression (return t) = false
is_expression t = true

-- whether a node may stand for a metavariable of a kind
abbrev pub may_stand : {N : Type 0} → (N → Bool) → MetaKind → TreeOf N → Bool
may_stand is_pseudo Name t = is_name is_pseudo t
may_stand is_pseudo Constant t = is_literal t
may_stand is_pseudo Expression t = is_expression t
may_stand is_pseudo Statement t = true
may_stand is_pseudo k t = false

-- whether what is bound is of a kind
abbrev pub is_of_kind : {N : Type 0} → PatternWordsOf N → MetaKind → BoundOf N → Bool
is_of_kind w k (a_part t) = may_stand w.tests.is_pseudo k t
is_of_kind w StatementList (a_run ss) = true
is_of_kind w Unary (a_selector s) = w.is_unary s
is_of_kind w Keyword (a_keyword k) = is_keyword k
is_of_kind w Message (a_message s ts) = true
is_of_kind w k b = false

-- bindings fill a pattern to a node, comments aside: each metavariable is bound once, in the order of first places, and in its kind
pub record Matches {N : Type 0} (w : PatternWordsOf N) (joined : List (List ℕ) → N) (p : PatternOf N) (t : TreeOf N) (bs : List (BindingOf N)) : Type 0 where
  pub binds : map (λ b. b.meta) bs ≡ each_once w.tests.same (metas p)
  pub in_kind : AllByRecursion (λ b. is_of_kind w b.meta.kind b.bound ≡ true) bs
  pub fills : SameBare (fill w.tests.same joined bs p) t

-- the kinds that stand as operands, and as statements
abbrev pub is_operand_kind : MetaKind → Bool
is_operand_kind Name = true
is_operand_kind Constant = true
is_operand_kind Expression = true
is_operand_kind k = false

abbrev pub is_statement_kind : MetaKind → Bool
is_statement_kind Statement = true
is_statement_kind StatementList = true
is_statement_kind k = is_operand_kind k

abbrev pub is_any : {N : Type 0} → KeywordLike N → Bool
is_any (this_keyword k) = false
is_any (any_keyword m) = true

-- whether a keyword is one, or any
abbrev pub IsLawfulKeyword : {N : Type 0} → KeywordLike N → Type 0
IsLawfulKeyword (this_keyword k) = is_keyword k ≡ true
IsLawfulKeyword (any_keyword m) = m.kind ≡ Keyword

-- a selector with metavariables has so many patterns of arguments: none for any unary selector and for any message; and one for each keyword, where at least one keyword is a metavariable
abbrev pub IsLawfulSelector : {N : Type 0} → SelectorLike N → ℕ → Type 0
IsLawfulSelector (this_selector n) k = Unit {0}
IsLawfulSelector (any_unary m) k = (m.kind ≡ Unary) × (k ≡ 0)
IsLawfulSelector (of_keywords ks) k = AllByRecursion IsLawfulKeyword ks × (length ks ≡ k) × (list_any is_any ks ≡ true)
IsLawfulSelector (any_message m) k = (m.kind ≡ Message) × (k ≡ 0)

abbrev pub count_patterns : {N : Type 0} → PatternsOf N → ℕ
count_patterns no_patterns = 0
count_patterns (more_patterns p ps) = count_patterns ps + 1

-- whether a list of statements may stand among the statements
abbrev pub has_list : {N : Type 0} → StatementsLike N → Bool
has_list no_statements_like = false
has_list (more_statements_like c p ss) = option_map_or (λ m. true) (list_meta p) (has_list ss)

-- each metavariable stands at a place for its kind, and no sequence has two lists of statements
abbrev mutual
  -- a node; where it is a metavariable, its kind passes the test
  pub IsLawfulBy : {N : Type 0} → (MetaKind → Bool) → PatternOf N → Type 0
  IsLawfulBy may (meta m) = may m.kind ≡ true
  IsLawfulBy may (var_like n) = Unit {0}
  IsLawfulBy may (literal_like l) = Unit {0}
  IsLawfulBy may (send_like r s ps) = IsLawfulBy is_operand_kind r × IsLawfulSelector s (count_patterns ps) × AreLawful ps
  IsLawfulBy may (cascade_like r ms) = IsLawfulBy is_operand_kind r × AreLawfulMessages ms
  IsLawfulBy may (assign_like n p) = IsLawfulBy is_operand_kind p
  IsLawfulBy may (block_like ps ts ss e) = AreLawfulStatements ss
  IsLawfulBy may (brace_like ps) = AreLawful ps
  IsLawfulBy may (return_like p) = IsLawfulBy is_operand_kind p

  pub AreLawful : {N : Type 0} → PatternsOf N → Type 0
  AreLawful no_patterns = Unit {0}
  AreLawful (more_patterns p ps) = IsLawfulBy is_operand_kind p × AreLawful ps

  pub AreLawfulMessages : {N : Type 0} → MessagesLike N → Type 0
  AreLawfulMessages no_messages_like = Unit {0}
  AreLawfulMessages (more_messages_like s ps ms) = IsLawfulSelector s (count_patterns ps) × AreLawful ps × AreLawfulMessages ms

  pub AreLawfulStatements : {N : Type 0} → StatementsLike N → Type 0
  AreLawfulStatements no_statements_like = Unit {0}
  AreLawfulStatements (more_statements_like c p ss) =
      IsLawfulBy is_statement_kind p × AreLawfulStatements ss × (option_map_or (λ m. has_list ss) (list_meta p) false ≡ false)

-- a lawful pattern: an expression
abbrev pub IsLawful : {N : Type 0} → PatternOf N → Type 0
IsLawful p = IsLawfulBy is_operand_kind p
