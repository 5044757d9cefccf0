-- Names replaced by what they mean at their places.
use Rattle.std.specs.Prelude.{ℕ, suc, ◌+◌, List, [], ◌∷◌, ◌++◌, length}
use Rattle.std.specs.List.{flat_map, position_or_len}
use Rattle.rb_base.specs.Names.{text_eq}
use Rattle.tree_model.specs.Tree.{TreeOf, var, literal, send, cascade, assign, block, brace, return, TreesOf, no_trees, more_trees, MessagesOf, no_messages, more_messages, StatementsOf, no_statements, more_statements}
use Rattle.tree_model.specs.Path.{count}
use Rattle.scope_model.specs.Scope.{ScopeOf, PlacedScope, method_scope, doit_scope, scopes_round}
use Rattle.image_model.specs.Image.{EntryOf, DoItOf, ImageOf}
use Rattle.image_model.specs.Words.{text_words}
use Rattle.image_model.specs.Means.{of_instance, of_class_side, of_class, MeaningOf, pseudo, argument, temporary, variable, a_class, transcript, undeclared, means, means_in_doit}
use Rattle.run_model.specs.Values.{Name}
use Rattle.resolved_model.specs.ResolvedTrees.{Reference, of_word, of_local, of_instance_variable, of_class_side_variable, of_class_variable, of_named_class, of_transcript, of_nothing, Target, to_temporary, to_instance_variable, to_class_side_variable, to_class_variable, to_fixed, to_nothing, ResolvedTree, reading, constant, sending, cascading, assigning, block_of, brace_of, returning, ResolvedTrees, no_nodes, more_nodes, ResolvedMessages, no_sends, more_sends, ResolvedStatements, no_lines, more_lines, ResolvedCode}

-- what a name means, and its place among the names that the scopes round the node declare
pub record Meant : Type 0 where
  pub meaning : MeaningOf Name
  pub place : ℕ

-- what each name means where a path leads
abbrev pub MeantAt : Type 0
MeantAt = List ℕ → Name → Meant

-- the same on from the node to which one step leads
abbrev pub below : ℕ → MeantAt → MeantAt
below k at path n = at (k ∷ path) n

-- the names that scopes declare: from the first on, and in each scope the arguments before the temporaries
abbrev pub declared_by : List (PlacedScope Name) → List Name
declared_by scopes = flat_map (λ p. p.1.arguments ++ p.1.temporaries) scopes

-- the place of a name among those that the scopes round the end of a path declare, innermost scope first; where none is the name, how many there are
abbrev pub place_at : ScopeOf Name → List ℕ → Name → ℕ
place_at scope path n = position_or_len (text_eq n) (declared_by (scopes_round scope path))

-- what is read under a name that means this
abbrev pub reference_of : MeaningOf Name → ℕ → Name → Reference
reference_of pseudo k n = of_word n
reference_of (argument scope) k n = of_local k
reference_of (temporary scope) k n = of_local k
reference_of (variable of_instance c) k n = of_instance_variable n
reference_of (variable of_class_side c) k n = of_class_side_variable n
reference_of (variable of_class c) k n = of_class_variable c n
reference_of (a_class c) k n = of_named_class c
reference_of transcript k n = of_transcript
reference_of undeclared k n = of_nothing n

-- what is assigned under a name that means this
abbrev pub target_of : MeaningOf Name → ℕ → Name → Target
target_of pseudo k n = to_fixed n
target_of (argument scope) k n = to_fixed n
target_of (temporary scope) k n = to_temporary k
target_of (variable of_instance c) k n = to_instance_variable n
target_of (variable of_class_side c) k n = to_class_side_variable n
target_of (variable of_class c) k n = to_class_variable c n
target_of (a_class c) k n = to_fixed n
target_of transcript k n = to_fixed n
target_of undeclared k n = to_nothing n

-- a node with its names resolved; the steps to the nodes below it are counted as in paths
abbrev mutual
  pub resolved : MeantAt → TreeOf Name → ResolvedTree
  resolved at (var n) = reading (reference_of (at [] n).meaning (at [] n).place n)
  resolved at (literal l) = constant l
  resolved at (send r s args) = sending (resolved (below 0 at) r) s (resolved_trees at 1 args)
  resolved at (cascade r ms) = cascading (resolved (below 0 at) r) (resolved_messages at 1 ms)
  resolved at (assign n t) = assigning (target_of (at [] n).meaning (at [] n).place n) (resolved (below 0 at) t)
  resolved at (block ps ts ss e) = block_of (length ps) (length ts) (resolved_statements at 0 ss)
  resolved at (brace ts) = brace_of (resolved_trees at 0 ts)
  resolved at (return t) = returning (resolved (below 0 at) t)

  -- nodes to which the steps from k on lead
  pub resolved_trees : MeantAt → ℕ → TreesOf Name → ResolvedTrees
  resolved_trees at k no_trees = no_nodes
  resolved_trees at k (more_trees t ts) = more_nodes (resolved (below k at) t) (resolved_trees at (suc k) ts)

  pub resolved_messages : MeantAt → ℕ → MessagesOf Name → ResolvedMessages
  resolved_messages at k no_messages = no_sends
  resolved_messages at k (more_messages s args ms) = more_sends s (resolved_trees at k args) (resolved_messages at (k + count args) ms)

  pub resolved_statements : MeantAt → ℕ → StatementsOf Name → ResolvedStatements
  resolved_statements at k no_statements = no_lines
  resolved_statements at k (more_statements c t ss) = more_lines (resolved (below k at) t) (resolved_statements at (suc k) ss)

-- a scope whose names mean this, with its names resolved
abbrev pub resolved_scope : MeantAt → ScopeOf Name → ResolvedCode
resolved_scope at scope =
    record { parameters = length scope.arguments; temporaries = length scope.temporaries; statements = resolved_statements at 0 scope.statements }

-- what names mean in a method
abbrev pub meant_in : ImageOf Name → EntryOf Name → MeantAt
meant_in i m path n = record { meaning = means text_words i m path n; place = place_at (method_scope m.tree) path n }

-- what names mean in a do-it
abbrev pub meant_in_doit : ImageOf Name → DoItOf Name → MeantAt
meant_in_doit i d path n = record { meaning = means_in_doit text_words i d path n; place = place_at (doit_scope d.body) path n }

-- a method with its names resolved
unfoldable pub resolved_method : ImageOf Name → EntryOf Name → ResolvedCode
resolved_method i m = resolved_scope (meant_in i m) (method_scope m.tree)

-- a do-it with its names resolved
unfoldable pub resolved_doit : ImageOf Name → DoItOf Name → ResolvedCode
resolved_doit i d = resolved_scope (meant_in_doit i d) (doit_scope d.body)
