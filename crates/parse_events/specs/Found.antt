-- The events of a tree with places: the parts of a node in order, and behind them the node itself.
use Rattle.std.specs.Prelude.{ℕ, suc, List, [], ◌∷◌, ◌++◌, map}
use Rattle.tree_model.specs.Tree.{LiteralOf, number, str, symbol, char, array, bytes, word, LiteralsOf, no_literals, more_literals}
use Rattle.grammar_model.specs.Terminal.{Text}
use Rattle.grammar_model.specs.Spanned as spanned
use Rattle.grammar_model.specs.Spanned.{Declared, SpannedTree, Var, Literal, Send, Cascade, Assign, Block, Brace, Return, SpannedTrees, NoTrees, MoreTrees, SpannedMessages, NoMessages, MoreMessages, SpannedStatements, NoStatements, MoreStatements, SpannedSequence, SpannedMethod}
use Rattle.parse_events.specs.declared.event.Declaration.{Declaration}
use Rattle.parse_events.specs.declared.event.Event.{Event}
use Rattle.parse_events.specs.declared.event.Event.TheVariants as event
use Rattle.parse_events.specs.declared.event.SequenceEvents.{SequenceEvents}
use Rattle.parse_events.specs.declared.event.MethodEvents.{MethodEvents}

-- the declarations of a list
abbrev pub declarations : List Declared → List Declaration
declarations ds = map (λ (d : Declared). record { name = d.name; from = d.from }) ds

-- how many literals there are
abbrev pub count_literals : LiteralsOf Text → ℕ
count_literals no_literals = 0
count_literals (more_literals l ls) = suc (count_literals ls)

-- how many trees there are
abbrev pub count_trees : SpannedTrees → ℕ
count_trees NoTrees = 0
count_trees (MoreTrees t ts) = suc (count_trees ts)

-- how many messages there are
abbrev pub count_messages : SpannedMessages → ℕ
count_messages NoMessages = 0
count_messages (MoreMessages s xs ms) = suc (count_messages ms)

-- how many statements there are
abbrev pub count_statements : SpannedStatements → ℕ
count_statements NoStatements = 0
count_statements (MoreStatements c f t ss) = suc (count_statements ss)

-- the events of a literal
abbrev mutual
  pub literal_events : LiteralOf Text → List Event
  literal_events (number t) = event.Number t ∷ []
  literal_events (str t) = event.Str t ∷ []
  literal_events (symbol t) = event.Symbol t ∷ []
  literal_events (char b) = event.Char b ∷ []
  literal_events (word n) = event.Word n ∷ []
  literal_events (array ls) = literals_events ls ++ event.Array (count_literals ls) ∷ []
  literal_events (bytes ls) = literals_events ls ++ event.Bytes (count_literals ls) ∷ []

  -- those of literals in order
  pub literals_events : LiteralsOf Text → List Event
  literals_events no_literals = []
  literals_events (more_literals l ls) = literal_events l ++ literals_events ls

-- the events of a node
abbrev mutual
  pub tree_events : SpannedTree → List Event
  tree_events (Var f e n) = event.Var f e n ∷ []
  tree_events (Literal f e l) = literal_events l ++ event.Literal f e ∷ []
  tree_events (Send f e r s xs) = tree_events r ++ trees_events xs ++ event.Send f e (count_trees xs) s ∷ []
  tree_events (Cascade f e r ms) = tree_events r ++ messages_events ms ++ event.Cascade f e (count_messages ms) ∷ []
  tree_events (Assign f e n t) = event.Target f n ∷ tree_events t ++ event.Assign f e ∷ []
  tree_events (Block f e ps ds ss c) = event.Enter (declarations ps) (declarations ds) ∷ statements_events ss ++ event.Block f e (count_statements ss) c ∷ []
  tree_events (Brace f e ts) = trees_events ts ++ event.Brace f e (count_trees ts) ∷ []
  tree_events (Return f e t) = tree_events t ++ event.Return f e ∷ []

  -- those of nodes in order
  pub trees_events : SpannedTrees → List Event
  trees_events NoTrees = []
  trees_events (MoreTrees t ts) = tree_events t ++ trees_events ts

  -- those of messages in order, each behind its arguments
  pub messages_events : SpannedMessages → List Event
  messages_events NoMessages = []
  messages_events (MoreMessages s xs ms) = trees_events xs ++ event.Message s (count_trees xs) ∷ messages_events ms

  -- those of statements in order, each behind its node
  pub statements_events : SpannedStatements → List Event
  statements_events NoStatements = []
  statements_events (MoreStatements c f t ss) = tree_events t ++ event.Statement f c ∷ statements_events ss

-- the events of a do-it, or of a method behind its pattern
abbrev pub sequence_events : SpannedSequence → SequenceEvents
sequence_events s = record { temporaries = declarations s.temporaries; events = statements_events s.statements; tail = s.tail }

-- the events of a method
abbrev pub method_events : SpannedMethod → MethodEvents
method_events m =
    record { selector = m.selector; arguments = declarations m.arguments; opening = m.opening; primitive = m.primitive; body = sequence_events m.body }
