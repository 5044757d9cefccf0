-- The names in a part of a method that stand for no declaration inside the part.
use Rattle.std.specs.Prelude.{ℕ, zero, suc, Bool, not, List, [], ◌∷◌, ◌++◌, filter, option_map, unwrap_or}
use Rattle.tree_model.specs.Tree.{TreeOf, var, literal, send, cascade, assign, block, brace, return, TreesOf, no_trees, more_trees, MessagesOf, no_messages, more_messages, StatementsOf, no_statements, more_statements, SequenceOf}
use Rattle.scope_model.specs.Scope.{doit_scope, scope_at, declares}

-- each name once, at its first place
abbrev pub each_once : {N : Type 0} → (N → N → Bool) → List N → List N
each_once same [] = []
each_once same (n ∷ ns) = n ∷ filter (λ k. not (same n k)) (each_once same ns)

module _ {N : Type 0} (same : N → N → Bool) (is_pseudo : N → Bool) where
  abbrev mutual
    -- the free names of a tree, each as often as it occurs, in the order of the text; in an assignment the name that is assigned comes first
    pub free_occurrences : TreeOf N → List N
    free_occurrences (var n) = n ∷ []
    free_occurrences (literal l) = []
    free_occurrences (send r s args) = free_occurrences r ++ free_in_trees args
    free_occurrences (cascade r ms) = free_occurrences r ++ free_in_messages ms
    free_occurrences (assign n t) = n ∷ free_occurrences t
    free_occurrences (block ps ts ss e) = filter (λ n. not (declares same is_pseudo ps ts n)) (free_in_statements ss)
    free_occurrences (brace ts) = free_in_trees ts
    free_occurrences (return t) = free_occurrences t

    pub free_in_trees : TreesOf N → List N
    free_in_trees no_trees = []
    free_in_trees (more_trees t ts) = free_occurrences t ++ free_in_trees ts

    pub free_in_messages : MessagesOf N → List N
    free_in_messages no_messages = []
    free_in_messages (more_messages s args ms) = free_in_trees args ++ free_in_messages ms

    pub free_in_statements : StatementsOf N → List N
    free_in_statements no_statements = []
    free_in_statements (more_statements c t ss) = free_occurrences t ++ free_in_statements ss

  -- the free names of an expression, each once
  abbrev pub free_names : TreeOf N → List N
  free_names t = each_once same (free_occurrences t)

  -- the free names of neighbouring statements, each once
  abbrev pub free_names_of_run : StatementsOf N → List N
  free_names_of_run ss = each_once same (free_in_statements ss)

-- the statements without the first so many
abbrev pub drop_statements : {N : Type 0} → ℕ → StatementsOf N → StatementsOf N
drop_statements zero ss = ss
drop_statements (suc k) no_statements = no_statements
drop_statements (suc k) (more_statements c t ss) = drop_statements k ss

-- the first so many statements
abbrev pub take_statements : {N : Type 0} → ℕ → StatementsOf N → StatementsOf N
take_statements zero ss = no_statements
take_statements (suc k) no_statements = no_statements
take_statements (suc k) (more_statements c t ss) = more_statements c t (take_statements k ss)

-- so many neighbouring statements, from the number of the first on
abbrev pub run_of : {N : Type 0} → StatementsOf N → ℕ → ℕ → StatementsOf N
run_of ss first count = take_statements count (drop_statements first ss)

-- the statements of the sequence where a path leads: the body's for the empty path, and else those of a block; none where there is no block
abbrev pub statements_at : {N : Type 0} → SequenceOf N → List ℕ → StatementsOf N
statements_at b path = unwrap_or (option_map (λ s. s.statements) (scope_at (doit_scope b) path)) no_statements
