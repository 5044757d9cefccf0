-- Trees with laws of rewriting applied at some places. Each stands for two trees: the one before and the one after.
use Rattle.std.specs.Prelude.{ℕ, Bool, true, false, codes}
use Rattle.std.specs.Bool.{beq}
use Rattle.tree_model.specs.Tree.{LiteralOf}
use Rattle.run_model.specs.Values.{Name}
use Rattle.resolved_model.specs.ResolvedTrees.{Reference, Target, ResolvedTree, reading, constant, sending, cascading, assigning, block_of, brace_of, returning, ResolvedTrees, no_nodes, more_nodes, ResolvedMessages, no_sends, more_sends, ResolvedStatements, no_lines, more_lines, ResolvedCode}
use Rattle.certified_laws.specs.ControlLaws.{plain_block, block_of_one, block_of_word, if_true, if_false, if_true_false, if_false_true, both_of, either_of, to_self, both_to_self}

mutual
  -- a node, or a law with its parts that is applied there, from left to right or from right to left
  pub data EditedTree : Type 0 where
    as_reading : Reference → EditedTree
    as_constant : LiteralOf Name → EditedTree
    as_sending : EditedTree → Name → EditedTrees → EditedTree
    as_cascading : EditedTree → EditedMessages → EditedTree
    as_assigning : Target → EditedTree → EditedTree
    as_block : (parameters temporaries : ℕ) → EditedLines → EditedTree
    as_brace : EditedTrees → EditedTree
    as_returning : EditedTree → EditedTree
    by_law : (forward : Bool) → TreeLaw → EditedTree

  -- a law of nodes with its parts: of law 1 the test and what is done for true and for false
  pub data TreeLaw : Type 0 where
    law_1 : EditedTree → EditedLines → EditedLines → TreeLaw
    law_2 : EditedTree → EditedLines → TreeLaw
    law_3 : EditedTree → EditedLines → TreeLaw
    law_4 : EditedTree → EditedLines → TreeLaw
    law_5 : EditedTree → EditedLines → TreeLaw
    law_6 : EditedTree → EditedLines → TreeLaw
    law_7 : EditedTree → EditedTree → EditedTree → TreeLaw
    law_8 : EditedTree → EditedTree → EditedTree → TreeLaw
    law_10 : EditedTree → EditedTree → EditedTree → TreeLaw

  -- nodes in order
  pub data EditedTrees : Type 0 where
    none_edited : EditedTrees
    more_edited : EditedTree → EditedTrees → EditedTrees

  -- messages in order
  pub data EditedMessages : Type 0 where
    no_sends_edited : EditedMessages
    more_sends_edited : Name → EditedTrees → EditedMessages → EditedMessages

  -- statements in order; law 9 is one of statements, with two unary selectors
  pub data EditedLines : Type 0 where
    no_lines_edited : EditedLines
    more_lines_edited : EditedTree → EditedLines → EditedLines
    law_9 : (forward : Bool) → Name → Name → EditedLines → EditedLines

-- what stands on one side of law 9 and goes on with further statements
abbrev pub sent_to_self : (left : Bool) → Name → Name → ResolvedStatements → ResolvedStatements
sent_to_self true m n ss = more_lines (both_to_self m n) ss
sent_to_self false m n ss = more_lines (to_self m) (more_lines (to_self n) ss)

-- the tree before (true) or after (false): where a law goes forward its left stands before and its right after, and where it goes back its right stands before
abbrev mutual
  pub tree_at : Bool → EditedTree → ResolvedTree
  tree_at b (as_reading r) = reading r
  tree_at b (as_constant l) = constant l
  tree_at b (as_sending r s args) = sending (tree_at b r) s (trees_at b args)
  tree_at b (as_cascading r ms) = cascading (tree_at b r) (messages_at b ms)
  tree_at b (as_assigning n t) = assigning n (tree_at b t)
  tree_at b (as_block ps ts ss) = block_of ps ts (lines_at b ss)
  tree_at b (as_brace ts) = brace_of (trees_at b ts)
  tree_at b (as_returning t) = returning (tree_at b t)
  tree_at b (by_law forward l) = law_at (beq forward b) b l

  -- one side of a law
  pub law_at : (left : Bool) → Bool → TreeLaw → ResolvedTree
  law_at true b (law_1 c s t) = if_true_false (tree_at b c) (plain_block (lines_at b s)) (plain_block (lines_at b t))
  law_at false b (law_1 c s t) = if_false_true (tree_at b c) (plain_block (lines_at b t)) (plain_block (lines_at b s))
  law_at true b (law_2 c s) = if_true (tree_at b c) (plain_block (lines_at b s))
  law_at false b (law_2 c s) = if_true_false (tree_at b c) (plain_block (lines_at b s)) (block_of_word (codes "nil"))
  law_at true b (law_3 c s) = if_false (tree_at b c) (plain_block (lines_at b s))
  law_at false b (law_3 c s) = if_true_false (tree_at b c) (block_of_word (codes "nil")) (plain_block (lines_at b s))
  law_at true b (law_4 c s) = both_of (tree_at b c) (plain_block (lines_at b s))
  law_at false b (law_4 c s) = if_true_false (tree_at b c) (plain_block (lines_at b s)) (block_of_word (codes "false"))
  law_at true b (law_5 c s) = either_of (tree_at b c) (plain_block (lines_at b s))
  law_at false b (law_5 c s) = if_true_false (tree_at b c) (block_of_word (codes "true")) (plain_block (lines_at b s))
  law_at true b (law_6 c s) = if_false (tree_at b c) (plain_block (lines_at b s))
  law_at false b (law_6 c s) = if_false_true (tree_at b c) (plain_block (lines_at b s)) (block_of_word (codes "nil"))
  law_at true b (law_7 x y z) = both_of (both_of (tree_at b x) (block_of_one (tree_at b y))) (block_of_one (tree_at b z))
  law_at false b (law_7 x y z) = both_of (tree_at b x) (block_of_one (both_of (tree_at b y) (block_of_one (tree_at b z))))
  law_at true b (law_8 x y z) = either_of (either_of (tree_at b x) (block_of_one (tree_at b y))) (block_of_one (tree_at b z))
  law_at false b (law_8 x y z) = either_of (tree_at b x) (block_of_one (either_of (tree_at b y) (block_of_one (tree_at b z))))
  law_at true b (law_10 c x y) = if_true_false (tree_at b c) (block_of_one (returning (tree_at b x))) (block_of_one (returning (tree_at b y)))
  law_at false b (law_10 c x y) = returning (if_true_false (tree_at b c) (block_of_one (tree_at b x)) (block_of_one (tree_at b y)))

  pub trees_at : Bool → EditedTrees → ResolvedTrees
  trees_at b none_edited = no_nodes
  trees_at b (more_edited t ts) = more_nodes (tree_at b t) (trees_at b ts)

  pub messages_at : Bool → EditedMessages → ResolvedMessages
  messages_at b no_sends_edited = no_sends
  messages_at b (more_sends_edited s args ms) = more_sends s (trees_at b args) (messages_at b ms)

  pub lines_at : Bool → EditedLines → ResolvedStatements
  lines_at b no_lines_edited = no_lines
  lines_at b (more_lines_edited t ss) = more_lines (tree_at b t) (lines_at b ss)
  lines_at b (law_9 forward m n ss) = sent_to_self (beq forward b) m n (lines_at b ss)

-- a method, do-it or block whose statements are edited
pub record EditedCode : Type 0 where
  pub parameters : ℕ
  pub temporaries : ℕ
  pub statements : EditedLines

-- the code before (true) and after (false)
abbrev pub code_at : Bool → EditedCode → ResolvedCode
code_at b c = record { parameters = c.parameters; temporaries = c.temporaries; statements = lines_at b c.statements }
