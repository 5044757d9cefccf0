-- Faults of metavariables, each with the place of the metavariable in the text where it stands.
use Rattle.std.specs.Prelude.{ℕ, if◌then◌else◌, Bool, true, false, not, ◌&&◌, ◌||◌, List, [], ◌∷◌, filter, Option, Some, None}
use Rattle.std.specs.List.{list_any}
use Rattle.std.specs.Option.{option_or, option_map_or}
use Rattle.grammar_model.specs.Terminal.{Terminal, Keyword, AnyKey, OperandMeta, StatementMeta, MessageMeta}
use Rattle.grammar_model.specs.Input.{Lexeme, lex}
use Rattle.grammar_model.specs.Spanned.{SpannedTree, Var, Literal, Send, Cascade, Assign, Block, Brace, Return, SpannedTrees, NoTrees, MoreTrees, SpannedMessages, NoMessages, MoreMessages, SpannedStatements, NoStatements, MoreStatements, plain_tree}
use Rattle.pattern_model.specs.Patterns.{MetaOf, PatternOf, list_meta, metas}
use Rattle.pattern_model.specs.Bindings.{same_meta}
use Rattle.pattern_model.specs.Spelled.{pattern_of}

-- whether a statement is a metavariable for a list of statements
abbrev pub is_list : SpannedTree → Bool
is_list t = option_map_or (λ m. true) (list_meta (pattern_of (plain_tree t))) false

-- where a name begins; no other node is a metavariable
abbrev pub name_from : SpannedTree → ℕ
name_from (Var f e n) = f
name_from t = 0

-- TwoLists: the first metavariable for a list of statements that stands behind another one in one sequence
abbrev mutual
  pub two_lists : SpannedTree → Option ℕ
  two_lists (Var f e n) = None
  two_lists (Literal f e l) = None
  two_lists (Send f e r s xs) = option_or (two_lists r) (trees_two_lists xs)
  two_lists (Cascade f e r ms) = option_or (two_lists r) (messages_two_lists ms)
  two_lists (Assign f e n t) = two_lists t
  two_lists (Block f e ps ds ss c) = statements_two_lists false ss
  two_lists (Brace f e ts) = trees_two_lists ts
  two_lists (Return f e t) = two_lists t

  pub trees_two_lists : SpannedTrees → Option ℕ
  trees_two_lists NoTrees = None
  trees_two_lists (MoreTrees t ts) = option_or (two_lists t) (trees_two_lists ts)

  pub messages_two_lists : SpannedMessages → Option ℕ
  messages_two_lists NoMessages = None
  messages_two_lists (MoreMessages s xs ms) = option_or (trees_two_lists xs) (messages_two_lists ms)

  -- in a sequence; the flag says that such a metavariable stood before
  pub statements_two_lists : Bool → SpannedStatements → Option ℕ
  statements_two_lists had NoStatements = None
  statements_two_lists had (MoreStatements c f t ss) =
      if had && is_list t then Some (name_from t) else option_or (two_lists t) (statements_two_lists (had || is_list t) ss)

-- whether a token is a metavariable, and whether it begins any message, which the next token ends
abbrev pub is_meta_token : Terminal → Bool
is_meta_token (OperandMeta m n) = true
is_meta_token (StatementMeta n) = true
is_meta_token (MessageMeta n) = true
is_meta_token (Keyword AnyKey k) = true
is_meta_token k = false

abbrev pub begins_message : Terminal → Bool
begins_message (MessageMeta n) = true
begins_message k = false

-- where the metavariables among tokens begin, in order; any message is one. The flag says that the token before began any message
abbrev pub meta_places : Bool → List Lexeme → List ℕ
meta_places ends [] = []
meta_places ends (lex c f e k ∷ ts) =
    if is_meta_token k && not ends then f ∷ meta_places (begins_message k) ts else meta_places (begins_message k) ts

-- a metavariable and where it begins
pub record MetaAt (N : Type 0) : Type 0 where
  pub meta : MetaOf N
  pub from : ℕ

-- metavariables in the order of the text, each with its place; those of a text have as many places
abbrev pub at_places : {N : Type 0} → List (MetaOf N) → List ℕ → List (MetaAt N)
at_places [] fs = []
at_places (m ∷ ms) [] = record { meta = m; from = 0 } ∷ at_places ms []
at_places (m ∷ ms) (f ∷ fs) = record { meta = m; from = f } ∷ at_places ms fs

module _ {N : Type 0} (same : N → N → Bool) where
  -- whether a metavariable is one of these, and whether it is one that they double somewhere
  abbrev pub is_among : List (MetaOf N) → MetaOf N → Bool
  is_among ms m = list_any (same_meta same m) ms

  abbrev pub is_doubled_among : List (MetaOf N) → MetaOf N → Bool
  is_doubled_among ms m = list_any (λ n. same_meta same m n && n.doubled) ms

  -- the first that is none of these
  abbrev pub first_unknown : List (MetaOf N) → List (MetaAt N) → Option ℕ
  first_unknown ms [] = None
  first_unknown ms (x ∷ xs) = if is_among ms x.meta then first_unknown ms xs else Some x.from

  -- the first that stands behind the same one; the first list has those that stood before
  abbrev pub first_again : List (MetaOf N) → List (MetaAt N) → Option ℕ
  first_again before [] = None
  first_again before (x ∷ xs) = if list_any (λ m. same_meta same m x.meta) before then Some x.from else first_again (x.meta ∷ before) xs

  -- UnboundInReplacement: the first metavariable of a replacement, whose metavariables begin at these places, that the pattern does not have
  abbrev pub unbound_in_replacement : PatternOf N → PatternOf N → List ℕ → Option ℕ
  unbound_in_replacement pattern replacement places = first_unknown (metas pattern) (at_places (metas replacement) places)

  -- TwiceDoubled: the first second place in a replacement of a metavariable that the pattern doubles somewhere
  abbrev pub twice_doubled : PatternOf N → PatternOf N → List ℕ → Option ℕ
  twice_doubled pattern replacement places = first_again [] (filter (λ x. is_doubled_among (metas pattern) x.meta) (at_places (metas replacement) places))
