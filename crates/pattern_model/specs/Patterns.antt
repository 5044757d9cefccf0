-- Patterns: trees in which metavariables stand.
use Rattle.std.specs.Prelude.{ℕ, ◌+◌, Bool, List, [], ◌∷◌, ◌++◌, Option, Some, None}
use Rattle.tree_model.specs.Tree.{Notes, LiteralOf}
use Rattle.pattern_model.specs.declared.kinds.MetaKind.{MetaKind}
use Rattle.pattern_model.specs.declared.kinds.MetaKind.TheVariants.{StatementList}

-- a metavariable; what a doubled one stands for is searched, too
pub record MetaOf (N : Type 0) : Type 0 where
  pub kind : MetaKind
  pub name : N
  pub doubled : Bool

-- one keyword of a selector: as it is spelled, or any one
pub data KeywordLike (N : Type 0) : Type 0 where
  this_keyword : List ℕ → KeywordLike N
  any_keyword : MetaOf N → KeywordLike N

-- this selector; any unary one; one by its keywords, each as it is spelled or any; or any message, which has its own arguments
pub data SelectorLike (N : Type 0) : Type 0 where
  this_selector : N → SelectorLike N
  any_unary : MetaOf N → SelectorLike N
  of_keywords : List (KeywordLike N) → SelectorLike N
  any_message : MetaOf N → SelectorLike N

mutual
  -- a node that may be a metavariable
  pub data PatternOf (N : Type 0) : Type 0 where
    meta : MetaOf N → PatternOf N
    var_like : N → PatternOf N
    literal_like : LiteralOf N → PatternOf N
    send_like : PatternOf N → SelectorLike N → PatternsOf N → PatternOf N
    cascade_like : PatternOf N → MessagesLike N → PatternOf N
    assign_like : N → PatternOf N → PatternOf N
    block_like : List N → List N → StatementsLike N → Notes → PatternOf N
    brace_like : PatternsOf N → PatternOf N
    return_like : PatternOf N → PatternOf N

  -- patterns in order
  pub data PatternsOf (N : Type 0) : Type 0 where
    no_patterns : PatternsOf N
    more_patterns : PatternOf N → PatternsOf N → PatternsOf N

  -- messages in order
  pub data MessagesLike (N : Type 0) : Type 0 where
    no_messages_like : MessagesLike N
    more_messages_like : SelectorLike N → PatternsOf N → MessagesLike N → MessagesLike N

  -- statements in order, each with its comments
  pub data StatementsLike (N : Type 0) : Type 0 where
    no_statements_like : StatementsLike N
    more_statements_like : Notes → PatternOf N → StatementsLike N → StatementsLike N

-- the metavariable of a kind of statements that a statement is
abbrev pub list_kind : {N : Type 0} → MetaKind → MetaOf N → Option (MetaOf N)
list_kind StatementList m = Some m
list_kind k m = None

-- the metavariable for a list of statements, where the statement is one
abbrev pub list_meta : {N : Type 0} → PatternOf N → Option (MetaOf N)
list_meta (meta m) = list_kind m.kind m
list_meta p = None

-- how many statements there are
abbrev pub count_like : {N : Type 0} → StatementsLike N → ℕ
count_like no_statements_like = 0
count_like (more_statements_like c p ss) = count_like ss + 1

-- the metavariables of a selector and its arguments; the words of a selector stand before their arguments
abbrev pub keyword_metas : {N : Type 0} → KeywordLike N → List (MetaOf N)
keyword_metas (this_keyword k) = []
keyword_metas (any_keyword m) = m ∷ []

abbrev pub message_metas : {N : Type 0} → SelectorLike N → List (MetaOf N) → (List (KeywordLike N) → List (MetaOf N)) → List (MetaOf N)
message_metas (this_selector n) arguments in_turn = arguments
message_metas (any_unary m) arguments in_turn = m ∷ arguments
message_metas (of_keywords ks) arguments in_turn = in_turn ks
message_metas (any_message m) arguments in_turn = m ∷ []

-- the metavariables of a pattern, in the order of the text
abbrev mutual
  pub metas : {N : Type 0} → PatternOf N → List (MetaOf N)
  metas (meta m) = m ∷ []
  metas (var_like n) = []
  metas (literal_like l) = []
  metas (send_like r s ps) = metas r ++ message_metas s (trees_metas ps) (metas_in_turn ps)
  metas (cascade_like r ms) = metas r ++ messages_metas ms
  metas (assign_like n p) = metas p
  metas (block_like ps ts ss e) = statements_metas ss
  metas (brace_like ps) = trees_metas ps
  metas (return_like p) = metas p

  pub trees_metas : {N : Type 0} → PatternsOf N → List (MetaOf N)
  trees_metas no_patterns = []
  trees_metas (more_patterns p ps) = metas p ++ trees_metas ps

  -- each keyword before its argument
  pub metas_in_turn : {N : Type 0} → PatternsOf N → List (KeywordLike N) → List (MetaOf N)
  metas_in_turn no_patterns ks = []
  metas_in_turn (more_patterns p ps) [] = []
  metas_in_turn (more_patterns p ps) (k ∷ ks) = keyword_metas k ++ (metas p ++ metas_in_turn ps ks)

  pub messages_metas : {N : Type 0} → MessagesLike N → List (MetaOf N)
  messages_metas no_messages_like = []
  messages_metas (more_messages_like s ps ms) = message_metas s (trees_metas ps) (metas_in_turn ps) ++ messages_metas ms

  pub statements_metas : {N : Type 0} → StatementsLike N → List (MetaOf N)
  statements_metas no_statements_like = []
  statements_metas (more_statements_like c p ss) = metas p ++ statements_metas ss
