-- Patterns as trees over marks: a name as it is spelled is plain, and a metavariable is a mark of its kind and name, doubled or not. So no name is a metavariable, however it is spelled; and a whole message, which has no arguments in a pattern, has none here.
use Rattle.std.specs.Prelude.{ℕ, nat_eq, Bool, true, false, ◌&&◌, List, [], map, None}
use Rattle.std.specs.Cmp.Lexicographic.{pointwise}
use Rattle.rb_base.specs.Names.{text_eq}
use Rattle.tree_model.specs.Tree.{map_literal, TreeOf, var, literal, send, cascade, assign, block, brace, return, TreesOf, no_trees, more_trees, MessagesOf, no_messages, more_messages, StatementsOf, no_statements, more_statements}
use Rattle.scope_model.specs.declared.local.ControlForm.TheVariants.{NoControl}
use Rattle.scope_model.specs.SpecialNames.{is_pseudo_variable, control_form}
use Rattle.text_model.specs.Literals.{is_identifier}
use Rattle.pattern_model.specs.declared.kinds.MetaKind.{MetaKind}
use Rattle.pattern_model.specs.Patterns.{MetaOf, KeywordLike, this_keyword, any_keyword, SelectorLike, this_selector, any_unary, of_keywords, any_message, PatternOf, meta, var_like, literal_like, send_like, cascade_like, assign_like, block_like, brace_like, return_like, PatternsOf, no_patterns, more_patterns, MessagesLike, no_messages_like, more_messages_like, StatementsLike, no_statements_like, more_statements_like}
use Rattle.pattern_model.specs.Bindings.{kind_number}
use Rattle.pattern_model.specs.Words.{PatternWordsOf, text_keywords}

abbrev pub Text : Type 0
Text = List ℕ

-- a keyword as it is spelled, or one that is a metavariable
pub data KeywordMark : Type 0 where
  plain_keyword : Text → KeywordMark
  marked_keyword : MetaKind → Text → KeywordMark

-- a name or a selector as it is spelled; a metavariable as a node, as a unary selector, and as a whole message; and a selector of which some keywords are metavariables
pub data Mark : Type 0 where
  plain : Text → Mark
  marked : MetaKind → Text → Mark
  marked_unary : MetaKind → Text → Mark
  marked_whole : MetaKind → Text → Mark
  in_keywords : List KeywordMark → Mark

-- marks are the same where they are spelled the same, and metavariables where kind and name are
abbrev pub is_same_meta : MetaKind → Text → MetaKind → Text → Bool
is_same_meta j a k b = nat_eq (kind_number j) (kind_number k) && text_eq a b

abbrev pub is_same_keyword : KeywordMark → KeywordMark → Bool
is_same_keyword (plain_keyword a) (plain_keyword b) = text_eq a b
is_same_keyword (plain_keyword a) (marked_keyword k b) = false
is_same_keyword (marked_keyword j a) (plain_keyword b) = false
is_same_keyword (marked_keyword j a) (marked_keyword k b) = is_same_meta j a k b

abbrev pub is_same_mark : Mark → Mark → Bool
is_same_mark (plain a) (plain b) = text_eq a b
is_same_mark (marked j a) (marked k b) = is_same_meta j a k b
is_same_mark (marked_unary j a) (marked_unary k b) = is_same_meta j a k b
is_same_mark (marked_whole j a) (marked_whole k b) = is_same_meta j a k b
is_same_mark (in_keywords ks) (in_keywords ls) = pointwise is_same_keyword ks ls
is_same_mark a b = false

-- the mark of a keyword, and of a selector
abbrev pub keyword_mark : KeywordLike Text → KeywordMark
keyword_mark (this_keyword k) = plain_keyword k
keyword_mark (any_keyword m) = marked_keyword m.kind m.name

abbrev pub selector_mark : SelectorLike Text → Mark
selector_mark (this_selector n) = plain n
selector_mark (any_unary m) = marked_unary m.kind m.name
selector_mark (of_keywords ks) = in_keywords (map keyword_mark ks)
selector_mark (any_message m) = marked_whole m.kind m.name

-- a pattern as a tree
abbrev mutual
  pub marked_tree : PatternOf Text → TreeOf Mark
  marked_tree (meta m) = var (marked m.kind m.name)
  marked_tree (var_like n) = var (plain n)
  marked_tree (literal_like l) = literal (map_literal plain l)
  marked_tree (send_like r s ps) = send (marked_tree r) (selector_mark s) (marked_trees ps)
  marked_tree (cascade_like r ms) = cascade (marked_tree r) (marked_messages ms)
  marked_tree (assign_like n p) = assign (plain n) (marked_tree p)
  marked_tree (block_like ps ts ss e) = block (map plain ps) (map plain ts) (marked_statements ss) e
  marked_tree (brace_like ps) = brace (marked_trees ps)
  marked_tree (return_like p) = return (marked_tree p)

  pub marked_trees : PatternsOf Text → TreesOf Mark
  marked_trees no_patterns = no_trees
  marked_trees (more_patterns p ps) = more_trees (marked_tree p) (marked_trees ps)

  pub marked_messages : MessagesLike Text → MessagesOf Mark
  marked_messages no_messages_like = no_messages
  marked_messages (more_messages_like s ps ms) = more_messages (selector_mark s) (marked_trees ps) (marked_messages ms)

  pub marked_statements : StatementsLike Text → StatementsOf Mark
  marked_statements no_statements_like = no_statements
  marked_statements (more_statements_like c p ss) = more_statements c (marked_tree p) (marked_statements ss)

-- the name that a mark spells, and the metavariable that is not doubled
abbrev pub spelled_name : Mark → Text
spelled_name (plain n) = n
spelled_name (marked k n) = n
spelled_name (marked_unary k n) = n
spelled_name (marked_whole k n) = n
spelled_name (in_keywords ks) = []

abbrev pub undoubled : MetaKind → Text → MetaOf Text
undoubled k n = record { kind = k; name = n; doubled = false }

-- what a mark stands for: as a node, as a keyword and as a selector
abbrev pub node_marked : Mark → PatternOf Text
node_marked (plain n) = var_like n
node_marked (marked k n) = meta (undoubled k n)
node_marked (marked_unary k n) = var_like n
node_marked (marked_whole k n) = var_like n
node_marked (in_keywords ks) = var_like []

abbrev pub keyword_marked : KeywordMark → KeywordLike Text
keyword_marked (plain_keyword k) = this_keyword k
keyword_marked (marked_keyword k n) = any_keyword (undoubled k n)

abbrev pub selector_marked : Mark → SelectorLike Text
selector_marked (plain n) = this_selector n
selector_marked (marked k n) = this_selector n
selector_marked (marked_unary k n) = any_unary (undoubled k n)
selector_marked (marked_whole k n) = any_message (undoubled k n)
selector_marked (in_keywords ks) = of_keywords (map keyword_marked ks)

-- the pattern that a tree is of, with no metavariable doubled
abbrev mutual
  pub pattern_marked : TreeOf Mark → PatternOf Text
  pattern_marked (var m) = node_marked m
  pattern_marked (literal l) = literal_like (map_literal spelled_name l)
  pattern_marked (send r s ts) = send_like (pattern_marked r) (selector_marked s) (patterns_marked ts)
  pattern_marked (cascade r ms) = cascade_like (pattern_marked r) (messages_marked ms)
  pattern_marked (assign n t) = assign_like (spelled_name n) (pattern_marked t)
  pattern_marked (block ps ts ss e) = block_like (map spelled_name ps) (map spelled_name ts) (statements_marked ss) e
  pattern_marked (brace ts) = brace_like (patterns_marked ts)
  pattern_marked (return t) = return_like (pattern_marked t)

  pub patterns_marked : TreesOf Mark → PatternsOf Text
  patterns_marked no_trees = no_patterns
  patterns_marked (more_trees t ts) = more_patterns (pattern_marked t) (patterns_marked ts)

  pub messages_marked : MessagesOf Mark → MessagesLike Text
  messages_marked no_messages = no_messages_like
  messages_marked (more_messages s ts ms) = more_messages_like (selector_marked s) (patterns_marked ts) (messages_marked ms)

  pub statements_marked : StatementsOf Mark → StatementsLike Text
  statements_marked no_statements = no_statements_like
  statements_marked (more_statements c t ss) = more_statements_like c (pattern_marked t) (statements_marked ss)

-- what is asked of a name as it is spelled, with the answer for all other marks
abbrev pub of_plain : {A : Type 0} → (Text → A) → A → Mark → A
of_plain f a (plain n) = f n
of_plain f a (marked k n) = a
of_plain f a (marked_unary k n) = a
of_plain f a (marked_whole k n) = a
of_plain f a (in_keywords ks) = a

-- a metavariable for a unary selector counts as one
abbrev pub is_unary_mark : Mark → Bool
is_unary_mark (plain n) = is_identifier n
is_unary_mark (marked k n) = false
is_unary_mark (marked_unary k n) = true
is_unary_mark (marked_whole k n) = false
is_unary_mark (in_keywords ks) = false

-- what patterns ask, asked of marks
abbrev pub mark_words : PatternWordsOf Mark
mark_words = record {
  tests = record { same = is_same_mark; is_pseudo = of_plain is_pseudo_variable false; form = of_plain control_form NoControl };
  is_unary = is_unary_mark;
  keywords = of_plain text_keywords None;
}
