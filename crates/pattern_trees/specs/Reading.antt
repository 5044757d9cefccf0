-- What is read off the parts of a tree of stand-ins: each part of a pattern is that of the texts, and each of its names has a number.
use Rattle.std.specs.Prelude.{◌≡◌, ℕ, ◌<◌, List, length, map}
use Rattle.std.specs.List.{AllByRecursion}
use Rattle.rb_base.specs.Names.{name_at}
use Rattle.tree_model.specs.Tree.{TreeOf, TreesOf, MessagesOf, StatementsOf, map_names, map_trees, map_messages, map_statements}
use Rattle.grammar_model.specs.Terminal.{Text}
use Rattle.st_tree.specs.View.{statements_of}
use Rattle.st_tree.specs.declared.tree.Sequence.{Sequence}
use Rattle.pattern_model.specs.Patterns.{MetaOf, PatternOf, PatternsOf, MessagesLike, StatementsLike}
use Rattle.pattern_model.specs.Named.{map_meta, map_keyword, map_selector, map_pattern, map_patterns, map_messages_like, map_statements_like}
use Rattle.pattern_model.specs.Spelled.{keyword_like, selector_like, arguments_like, pattern_of, patterns_in, messages_in, statements_in}
use Rattle.patterns.specs.View.{meta_of, keyword_of, selector_of, patterns_of, statements_from}
use Rattle.patterns.specs.Names.{KeywordNames, SelectorNames, PatternNames, PatternsNames, MessagesLikeNames, StatementsLikeNames}
use Rattle.patterns.specs.declared.tree.Meta.{Meta}
use Rattle.patterns.specs.declared.tree.PatternKeyword.{PatternKeyword}
use Rattle.patterns.specs.declared.tree.PatternSelector.{PatternSelector}
use Rattle.patterns.specs.declared.tree.PatternMessage.{PatternMessage}
use Rattle.patterns.specs.declared.tree.PatternSequence.{PatternSequence}

module _ (names : List Text) where
  -- a name that has a number
  abbrev pub Known : ℕ → Type 0
  Known n = n < length names

  -- of a metavariable
  pub record IsMeta (spelled : MetaOf Text) (m : Meta) : Type 0 where
    pub same : map_meta (name_at names) (meta_of m) ≡ spelled
    pub known : Known m.name

  -- of keywords
  pub record IsKeyword (keyword : Text) (k : PatternKeyword) : Type 0 where
    pub same : map_keyword (name_at names) (keyword_of k) ≡ keyword_like keyword
    pub known : KeywordNames Known (keyword_of k)

  pub record AreKeywords (keywords : List Text) (ks : List PatternKeyword) : Type 0 where
    pub same : map (map_keyword (name_at names)) (map keyword_of ks) ≡ map keyword_like keywords
    pub known : AllByRecursion (KeywordNames Known) (map keyword_of ks)

  -- of a selector
  pub record IsSelector (n : ℕ) (s : PatternSelector) : Type 0 where
    pub same : map_selector (name_at names) (selector_of s) ≡ selector_like (name_at names n)
    pub known : SelectorNames Known (selector_of s)

  -- of a node, and of nodes
  pub record IsPattern (t : TreeOf ℕ) (p : PatternOf ℕ) : Type 0 where
    pub same : map_pattern (name_at names) p ≡ pattern_of (map_names (name_at names) t)
    pub known : PatternNames Known p

  pub record ArePatterns (ts : TreesOf ℕ) (ps : PatternsOf ℕ) : Type 0 where
    pub same : map_patterns (name_at names) ps ≡ patterns_in (map_trees (name_at names) ts)
    pub known : PatternsNames Known ps

  -- of a message, and of messages
  pub record IsMessage (n : ℕ) (ts : TreesOf ℕ) (m : PatternMessage) : Type 0 where
    pub selector : IsSelector n m.selector
    pub same : map_patterns (name_at names) (patterns_of m.arguments.items) ≡ arguments_like (selector_like (name_at names n)) (patterns_in (map_trees (name_at names) ts))
    pub known : PatternsNames Known (patterns_of m.arguments.items)

  pub record AreMessages (ms : MessagesOf ℕ) (ps : MessagesLike ℕ) : Type 0 where
    pub same : map_messages_like (name_at names) ps ≡ messages_in (map_messages (name_at names) ms)
    pub known : MessagesLikeNames Known ps

  -- of statements, and of the body of a block
  pub record AreStatements (ss : StatementsOf ℕ) (ps : StatementsLike ℕ) : Type 0 where
    pub same : map_statements_like (name_at names) ps ≡ statements_in (map_statements (name_at names) ss)
    pub known : StatementsLikeNames Known ps

  pub record IsSequence (body : Sequence) (p : PatternSequence) : Type 0 where
    pub temporaries : p.temporaries ≡ body.temporaries
    pub statements : AreStatements (statements_of body.statements) (statements_from p.statements.items)
    pub tail : p.tail ≡ body.tail
