-- Trees in which names are changed at their places, and when what they mean is mapped.
use Rattle.std.specs.Prelude.{◌≡◌, ℕ, suc, ◌+◌, List, [], ◌∷◌, map, Some}
use Rattle.tree_model.specs.Tree.{TreeOf, var, literal, send, cascade, assign, block, brace, return, TreesOf, no_trees, more_trees, MessagesOf, no_messages, more_messages, StatementsOf, no_statements, more_statements}
use Rattle.tree_model.specs.Path.{count, part_among, statement_trees}
use Rattle.scope_model.specs.Scope.{ScopeOf}
use Rattle.run_model.specs.Values.{Name}
use Rattle.resolved_model.specs.Resolving.{Meant, MeantAt, reference_of, target_of}
use Rattle.mapped_model.specs.NameMaps.{NameMaps}
use Rattle.mapped_model.specs.MappedImages.{mapped_reference, mapped_target}

-- what a name is called after where a path leads; a block's own path is that of the names that it declares
abbrev pub NewNames : Type 0
NewNames = List ℕ → Name → Name

-- the same on from the node to which one step leads
abbrev pub further : ℕ → NewNames → NewNames
further k to path n = to (k ∷ path) n

-- the node with new names and new selectors
abbrev mutual
  pub changed : NewNames → (Name → Name) → TreeOf Name → TreeOf Name
  changed to selector (var n) = var (to [] n)
  changed to selector (literal l) = literal l
  changed to selector (send r s args) = send (changed (further 0 to) selector r) (selector s) (changed_trees to selector 1 args)
  changed to selector (cascade r ms) = cascade (changed (further 0 to) selector r) (changed_messages to selector 1 ms)
  changed to selector (assign n t) = assign (to [] n) (changed (further 0 to) selector t)
  changed to selector (block ps ts ss e) = block (map (to []) ps) (map (to []) ts) (changed_statements to selector 0 ss) e
  changed to selector (brace ts) = brace (changed_trees to selector 0 ts)
  changed to selector (return t) = return (changed (further 0 to) selector t)

  -- nodes to which the steps from k on lead
  pub changed_trees : NewNames → (Name → Name) → ℕ → TreesOf Name → TreesOf Name
  changed_trees to selector k no_trees = no_trees
  changed_trees to selector k (more_trees t ts) = more_trees (changed (further k to) selector t) (changed_trees to selector (suc k) ts)

  pub changed_messages : NewNames → (Name → Name) → ℕ → MessagesOf Name → MessagesOf Name
  changed_messages to selector k no_messages = no_messages
  changed_messages to selector k (more_messages s args ms) =
      more_messages (selector s) (changed_trees to selector k args) (changed_messages to selector (k + count args) ms)

  pub changed_statements : NewNames → (Name → Name) → ℕ → StatementsOf Name → StatementsOf Name
  changed_statements to selector k no_statements = no_statements
  changed_statements to selector k (more_statements c t ss) =
      more_statements c (changed (further k to) selector t) (changed_statements to selector (suc k) ss)

-- a method or do-it with new names and new selectors
abbrev pub changed_scope : NewNames → (Name → Name) → ScopeOf Name → ScopeOf Name
changed_scope to selector s = record {
  arguments = map (to []) s.arguments;
  temporaries = map (to []) s.temporaries;
  statements = changed_statements to selector 0 s.statements;
}

-- in code of a class, what the name of a node means after, and its place, are what it meant before with the maps put on it: where the node reads it, and where the node assigns it
pub record IsMappedAt (f : NameMaps) (c : Name) (before after : Name → Meant) (to : Name → Name) (t : TreeOf Name) : Type 0 where
  pub read : (n : Name) → t ≡ var n → reference_of (after (to n)).meaning (after (to n)).place (to n) ≡ mapped_reference f c (reference_of (before n).meaning (before n).place n)
  pub assigned : (n : Name) (u : TreeOf Name) → t ≡ assign n u → target_of (after (to n)).meaning (after (to n)).place (to n) ≡ mapped_target f c (target_of (before n).meaning (before n).place n)

-- so it is at each node of a scope
abbrev pub MeaningsAreMapped : NameMaps → Name → NewNames → ScopeOf Name → MeantAt → MeantAt → Type 0
MeaningsAreMapped f c to scope before after =
    (path : List ℕ) (t : TreeOf Name) → part_among (statement_trees scope.statements) path ≡ Some t → IsMappedAt f c (before path) (after path) (to path) t
