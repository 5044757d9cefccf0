-- A fact of each name in a tree: of its variables, selectors, declarations and words.
use Rattle.std.specs.List.{AllByRecursion}
use Rattle.tree_model.specs.Tree.{LiteralOf, number, str, symbol, char, array, bytes, word, LiteralsOf, no_literals, more_literals, TreeOf, var, literal, send, cascade, assign, block, brace, return, TreesOf, no_trees, more_trees, MessagesOf, no_messages, more_messages, StatementsOf, no_statements, more_statements, SequenceOf, MethodOf}

-- of each name in a literal
abbrev mutual
  pub LiteralNames : {N : Type 0} → (N → Type 0) → LiteralOf N → Type 0
  LiteralNames P (number t) = Unit {0}
  LiteralNames P (str t) = Unit {0}
  LiteralNames P (symbol t) = Unit {0}
  LiteralNames P (char b) = Unit {0}
  LiteralNames P (array ls) = LiteralsNames P ls
  LiteralNames P (bytes ls) = LiteralsNames P ls
  LiteralNames P (word n) = P n

  pub LiteralsNames : {N : Type 0} → (N → Type 0) → LiteralsOf N → Type 0
  LiteralsNames P no_literals = Unit {0}
  LiteralsNames P (more_literals l ls) = LiteralNames P l × LiteralsNames P ls

-- of each name in a tree
abbrev mutual
  pub AllNames : {N : Type 0} → (N → Type 0) → TreeOf N → Type 0
  AllNames P (var n) = P n
  AllNames P (literal l) = LiteralNames P l
  AllNames P (send r s args) = AllNames P r × P s × TreesNames P args
  AllNames P (cascade r ms) = AllNames P r × MessagesNames P ms
  AllNames P (assign n t) = P n × AllNames P t
  AllNames P (block ps ts ss e) = AllByRecursion P ps × AllByRecursion P ts × StatementsNames P ss
  AllNames P (brace ts) = TreesNames P ts
  AllNames P (return t) = AllNames P t

  pub TreesNames : {N : Type 0} → (N → Type 0) → TreesOf N → Type 0
  TreesNames P no_trees = Unit {0}
  TreesNames P (more_trees t ts) = AllNames P t × TreesNames P ts

  pub MessagesNames : {N : Type 0} → (N → Type 0) → MessagesOf N → Type 0
  MessagesNames P no_messages = Unit {0}
  MessagesNames P (more_messages s args ms) = P s × TreesNames P args × MessagesNames P ms

  pub StatementsNames : {N : Type 0} → (N → Type 0) → StatementsOf N → Type 0
  StatementsNames P no_statements = Unit {0}
  StatementsNames P (more_statements c t ss) = AllNames P t × StatementsNames P ss

-- of each name in a sequence
pub record SequenceNames {N : Type 0} (P : N → Type 0) (b : SequenceOf N) : Type 0 where
  pub temporaries : AllByRecursion P b.temporaries
  pub statements : StatementsNames P b.statements

-- of each name in a method
pub record MethodNames {N : Type 0} (P : N → Type 0) (m : MethodOf N) : Type 0 where
  pub selector : P m.selector
  pub arguments : AllByRecursion P m.arguments
  pub body : SequenceNames P m.body
