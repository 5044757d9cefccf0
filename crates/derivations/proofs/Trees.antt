-- Lists of patterns as lists of trees.
use Rattle.std.proofs.Common.{◌≡◌, ℕ, List, [], ◌∷◌, map, refl, ap}
use Rattle.tree_model.specs.Tree.{more_trees, more_messages, more_statements, trees_of}
use Rattle.st_tree.specs.View.{messages_of, statements_of}
use Rattle.pattern_model.specs.Patterns.{PatternOf}
use Rattle.patterns.specs.View.{selector_of, patterns_of, messages_from, statements_from}
use Rattle.patterns.specs.declared.tree.PatternMessage.{PatternMessage}
use Rattle.patterns.specs.declared.tree.PatternStatement.{PatternStatement}
use Rattle.derivations.specs.Numbered.{Table, selector_number, numbered, numbered_trees, numbered_messages, numbered_statements, message_in, statement_in}

module _ (table : Table) where
  pub trees_are : (ps : List (PatternOf ℕ)) → trees_of (map (numbered table) ps) ≡ numbered_trees table (patterns_of ps)
  trees_are [] = refl
  trees_are (p ∷ ps) = ap (more_trees (numbered table p)) (trees_are ps)

  pub messages_are : (ms : List PatternMessage) → messages_of (map (message_in table) ms) ≡ numbered_messages table (messages_from ms)
  messages_are [] = refl
  messages_are (m ∷ ms) = λ i. more_messages (selector_number table (selector_of m.selector)) (trees_are m.arguments.items i) (messages_are ms i)

  pub statements_are : (ss : List PatternStatement) → statements_of (map (statement_in table) ss) ≡ numbered_statements table (statements_from ss)
  statements_are [] = refl
  statements_are (s ∷ ss) = ap (more_statements s.comments (numbered table s.node)) (statements_are ss)
