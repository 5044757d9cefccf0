-- That each name in a tree has a text is a fact with one proof at most.
use Rattle.std.specs.Prelude.{ℕ, ◌<◌, List, [], ◌∷◌}
use Rattle.std.specs.List.{AllByRecursion}
use Rattle.std.specs.Coded.{×_prop, Unit-prop, le_prop}
use Rattle.tree_model.specs.Tree.{LiteralOf, number, str, symbol, char, array, bytes, word, LiteralsOf, no_literals, more_literals, TreeOf, var, literal, send, cascade, assign, block, brace, return, TreesOf, no_trees, more_trees, MessagesOf, no_messages, more_messages, StatementsOf, no_statements, more_statements}
use Rattle.tree_model.specs.AllNames.{LiteralNames, LiteralsNames, AllNames, TreesNames, MessagesNames, StatementsNames}

-- each name in a tree has a text
abbrev pub AreKnown : ℕ → TreeOf ℕ → Type 0
AreKnown k t = AllNames (λ n. n < k) t

module _ (k : ℕ) where
  name_prop : (n : ℕ) → IsProp (n < k)
  name_prop n = le_prop

  list_prop : (xs : List ℕ) → IsProp (AllByRecursion (λ n. n < k) xs)
  list_prop [] = Unit-prop
  list_prop (x ∷ xs) = ×_prop (name_prop x) (list_prop xs)

  mutual
    literal_prop : (l : LiteralOf ℕ) → IsProp (LiteralNames (λ n. n < k) l)
    literal_prop (number t) = Unit-prop
    literal_prop (str t) = Unit-prop
    literal_prop (symbol t) = Unit-prop
    literal_prop (char b) = Unit-prop
    literal_prop (array ls) = literals_prop ls
    literal_prop (bytes ls) = literals_prop ls
    literal_prop (word n) = name_prop n

    literals_prop : (ls : LiteralsOf ℕ) → IsProp (LiteralsNames (λ n. n < k) ls)
    literals_prop no_literals = Unit-prop
    literals_prop (more_literals l ls) = ×_prop (literal_prop l) (literals_prop ls)

  mutual
    pub AreKnown-prop : (t : TreeOf ℕ) → IsProp (AreKnown k t)
    AreKnown-prop (var n) = name_prop n
    AreKnown-prop (literal l) = literal_prop l
    AreKnown-prop (send r s args) = λ a b i. (AreKnown-prop r a.0 b.0 i, name_prop s a.1 b.1 i, trees_prop args a.2 b.2 i)
    AreKnown-prop (cascade r ms) = ×_prop (AreKnown-prop r) (messages_prop ms)
    AreKnown-prop (assign n t) = ×_prop (name_prop n) (AreKnown-prop t)
    AreKnown-prop (block ps ts ss e) = λ a b i. (list_prop ps a.0 b.0 i, list_prop ts a.1 b.1 i, statements_prop ss a.2 b.2 i)
    AreKnown-prop (brace ts) = trees_prop ts
    AreKnown-prop (return t) = AreKnown-prop t

    trees_prop : (ts : TreesOf ℕ) → IsProp (TreesNames (λ n. n < k) ts)
    trees_prop no_trees = Unit-prop
    trees_prop (more_trees t ts) = ×_prop (AreKnown-prop t) (trees_prop ts)

    messages_prop : (ms : MessagesOf ℕ) → IsProp (MessagesNames (λ n. n < k) ms)
    messages_prop no_messages = Unit-prop
    messages_prop (more_messages s args ms) = λ a b i. (name_prop s a.0 b.0 i, trees_prop args a.1 b.1 i, messages_prop ms a.2 b.2 i)

    statements_prop : (ss : StatementsOf ℕ) → IsProp (StatementsNames (λ n. n < k) ss)
    statements_prop no_statements = Unit-prop
    statements_prop (more_statements c t ss) = ×_prop (AreKnown-prop t) (statements_prop ss)
