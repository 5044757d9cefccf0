-- Where the nodes of a tree stand in its text.
use Rattle.std.specs.Prelude.{◌≡◌, ℕ, zero, suc, ◌+◌, ◌-◌, ◌≤◌, List, [], ◌∷◌, Option, Some, None, option_and_then, option_map}
use Rattle.grammar_model.specs.Spanned.{SpannedTree, Var, Literal, Send, Cascade, Assign, Block, Brace, Return, SpannedTrees, NoTrees, MoreTrees, one_tree, SpannedMessages, NoMessages, MoreMessages, SpannedStatements, NoStatements, MoreStatements, SpannedSequence}

-- the first byte of a node
abbrev pub begin_of : SpannedTree → ℕ
begin_of (Var f e n) = f
begin_of (Literal f e l) = f
begin_of (Send f e r s xs) = f
begin_of (Cascade f e r ms) = f
begin_of (Assign f e n t) = f
begin_of (Block f e ps ds ss c) = f
begin_of (Brace f e ts) = f
begin_of (Return f e t) = f

-- the place behind its last byte
abbrev pub end_of : SpannedTree → ℕ
end_of (Var f e n) = e
end_of (Literal f e l) = e
end_of (Send f e r s xs) = e
end_of (Cascade f e r ms) = e
end_of (Assign f e n t) = e
end_of (Block f e ps ds ss c) = e
end_of (Brace f e ts) = e
end_of (Return f e t) = e

-- the trees of both, in order
abbrev pub spanned_append : SpannedTrees → SpannedTrees → SpannedTrees
spanned_append NoTrees us = us
spanned_append (MoreTrees t ts) us = MoreTrees t (spanned_append ts us)

-- the arguments of all messages, in text order
abbrev pub spanned_arguments : SpannedMessages → SpannedTrees
spanned_arguments NoMessages = NoTrees
spanned_arguments (MoreMessages s xs ms) = spanned_append xs (spanned_arguments ms)

-- the nodes of the statements, in order
abbrev pub spanned_statements : SpannedStatements → SpannedTrees
spanned_statements NoStatements = NoTrees
spanned_statements (MoreStatements c f t ss) = MoreTrees t (spanned_statements ss)

-- the nodes right below a node, in order: a receiver before the arguments
abbrev pub spanned_children : SpannedTree → SpannedTrees
spanned_children (Var f e n) = NoTrees
spanned_children (Literal f e l) = NoTrees
spanned_children (Send f e r s xs) = MoreTrees r xs
spanned_children (Cascade f e r ms) = MoreTrees r (spanned_arguments ms)
spanned_children (Assign f e n t) = one_tree t
spanned_children (Block f e ps ds ss c) = spanned_statements ss
spanned_children (Brace f e ts) = ts
spanned_children (Return f e t) = one_tree t

-- the tree of a number, counted from 0
abbrev pub spanned_nth : SpannedTrees → ℕ → Option SpannedTree
spanned_nth NoTrees k = None
spanned_nth (MoreTrees t ts) zero = Some t
spanned_nth (MoreTrees t ts) (suc k) = spanned_nth ts k

-- where a path leads; the empty one leads to the node itself
abbrev pub spanned_part : SpannedTree → List ℕ → Option SpannedTree
spanned_part t [] = Some t
spanned_part t (k ∷ ks) = option_and_then (λ c. spanned_part c ks) (spanned_nth (spanned_children t) k)

-- where a path into a list of trees leads: the first step is the tree's number, and the empty path leads nowhere
abbrev pub spanned_among : SpannedTrees → List ℕ → Option SpannedTree
spanned_among ts [] = None
spanned_among ts (k ∷ ks) = option_and_then (λ c. spanned_part c ks) (spanned_nth ts k)

-- where a path into a sequence leads: the first step is the statement's number
abbrev pub spanned_in : SpannedSequence → List ℕ → Option SpannedTree
spanned_in s path = spanned_among (spanned_statements s.statements) path

-- where a node begins, and the place behind it
pub record Span : Type 0 where
  pub from : ℕ
  pub to : ℕ

-- where a node stands
abbrev pub span_of : SpannedTree → Span
span_of t = record { from = begin_of t; to = end_of t }

-- where the node stands to which a path into a sequence leads
abbrev pub span_at : SpannedSequence → List ℕ → Option Span
span_at s path = option_map span_of (spanned_in s path)

-- the nodes of a block's statements
abbrev pub statements_of : SpannedTree → Option SpannedTrees
statements_of (Block f e ps ds ss c) = Some (spanned_statements ss)
statements_of t = None

-- the nodes of the statements of the block to which a path into a list of trees leads; the empty path leads to the list itself
abbrev pub statements_among : SpannedTrees → List ℕ → Option SpannedTrees
statements_among ts [] = Some ts
statements_among ts (k ∷ ks) = option_and_then statements_of (spanned_among ts (k ∷ ks))

-- the nodes of the statements of a block in a sequence, or of the sequence itself
abbrev pub statements_at : SpannedSequence → List ℕ → Option SpannedTrees
statements_at s path = statements_among (spanned_statements s.statements) path

-- Neighbouring statements stand there, two or more: from the first byte of the first one up to the place behind the last.
pub record IsRunAt (s : SpannedSequence) (path : List ℕ) (first count : ℕ) (span : Span) : Type 0 where
  pub statements : SpannedTrees
  pub head : SpannedTree
  pub last : SpannedTree
  pub many : 2 ≤ count
  pub of_path : statements_at s path ≡ Some statements
  pub at_first : spanned_nth statements first ≡ Some head
  pub at_last : spanned_nth statements (first + count - 1) ≡ Some last
  pub is : span ≡ record { from = begin_of head; to = end_of last }
