-- Trees with the places of their parts. Names are texts.
use Rattle.std.specs.Prelude.{ℕ, List, map, Option}
use Rattle.tree_model.specs.Tree.{Notes, LiteralOf, TreeOf, var, literal, send, cascade, assign, block, brace, return, TreesOf, no_trees, more_trees, MessagesOf, no_messages, more_messages, StatementsOf, no_statements, more_statements, SequenceOf, MethodOf}
use Rattle.tree_model.specs.Normal.{normal}
use Rattle.grammar_model.specs.Terminal.{Text}

-- a name that is declared, and where
pub record Declared : Type 0 where
  pub name : Text
  pub from : ℕ

mutual
  -- A node begins with its span: its first byte, and the place behind its last one. Parentheses round a node are no part of it.
  pub data SpannedTree : Type 0 where
    Var : ℕ → ℕ → Text → SpannedTree
    Literal : ℕ → ℕ → LiteralOf Text → SpannedTree
    Send : ℕ → ℕ → SpannedTree → Text → SpannedTrees → SpannedTree
    Cascade : ℕ → ℕ → SpannedTree → SpannedMessages → SpannedTree
    Assign : ℕ → ℕ → Text → SpannedTree → SpannedTree
    Block : ℕ → ℕ → List Declared → List Declared → SpannedStatements → Notes → SpannedTree
    Brace : ℕ → ℕ → SpannedTrees → SpannedTree
    Return : ℕ → ℕ → SpannedTree → SpannedTree

  -- trees in order
  pub data SpannedTrees : Type 0 where
    NoTrees : SpannedTrees
    MoreTrees : SpannedTree → SpannedTrees → SpannedTrees

  -- messages in order, each a selector and its arguments
  pub data SpannedMessages : Type 0 where
    NoMessages : SpannedMessages
    MoreMessages : Text → SpannedTrees → SpannedMessages → SpannedMessages

  -- statements in order, each with the comments before and inside it, and where its first token begins, an opening parenthesis too
  pub data SpannedStatements : Type 0 where
    NoStatements : SpannedStatements
    MoreStatements : Notes → ℕ → SpannedTree → SpannedStatements → SpannedStatements

-- one tree
abbrev pub one_tree : SpannedTree → SpannedTrees
one_tree t = MoreTrees t NoTrees

-- a sequence: its temporaries, its statements, and the comments at its end
pub record SpannedSequence : Type 0 where
  pub temporaries : List Declared
  pub statements : SpannedStatements
  pub tail : Notes

-- a method: its pattern, the comments before the bar that opens its temporaries, its primitive, and its sequence
pub record SpannedMethod : Type 0 where
  pub selector : Text
  pub arguments : List Declared
  pub opening : Notes
  pub primitive : Option ℕ
  pub body : SpannedSequence

-- the declared names alone
abbrev pub names_of : List Declared → List Text
names_of ds = map (λ (d : Declared). d.name) ds

-- the tree without places
abbrev mutual
  -- a tree
  pub plain_tree : SpannedTree → TreeOf Text
  plain_tree (Var f e n) = var n
  plain_tree (Literal f e l) = literal l
  plain_tree (Send f e r s xs) = send (plain_tree r) s (plain_trees xs)
  plain_tree (Cascade f e r ms) = cascade (plain_tree r) (plain_messages ms)
  plain_tree (Assign f e n t) = assign n (plain_tree t)
  plain_tree (Block f e ps ds ss c) = block (names_of ps) (names_of ds) (plain_statements ss) c
  plain_tree (Brace f e ts) = brace (plain_trees ts)
  plain_tree (Return f e t) = return (plain_tree t)

  -- trees
  pub plain_trees : SpannedTrees → TreesOf Text
  plain_trees NoTrees = no_trees
  plain_trees (MoreTrees t ts) = more_trees (plain_tree t) (plain_trees ts)

  -- messages
  pub plain_messages : SpannedMessages → MessagesOf Text
  plain_messages NoMessages = no_messages
  plain_messages (MoreMessages s xs ms) = more_messages s (plain_trees xs) (plain_messages ms)

  -- statements
  pub plain_statements : SpannedStatements → StatementsOf Text
  plain_statements NoStatements = no_statements
  plain_statements (MoreStatements c f t ss) = more_statements c (plain_tree t) (plain_statements ss)

-- the sequence without places
abbrev pub plain_sequence : SpannedSequence → SequenceOf Text
plain_sequence s = record { temporaries = names_of s.temporaries; statements = plain_statements s.statements; tail = s.tail }

-- the method without places, its comments in normal form
abbrev pub plain_method : SpannedMethod → MethodOf Text
plain_method m = normal (record { selector = m.selector; arguments = names_of m.arguments; head = m.opening; primitive = m.primitive; body = plain_sequence m.body })
