-- Which names a tree declares twice or assigns where it may not.
use Rattle.std.specs.Prelude.{Bool, true, false, ◌||◌, List, [], ◌∷◌, ◌++◌, map}
use Rattle.std.specs.List.{list_any}
use Rattle.std.specs.Str.{bytes_eq}
use Rattle.tree_model.specs.Tree.{TreeOf, var, literal, send, cascade, assign, block, brace, return, TreesOf, no_trees, more_trees, MessagesOf, no_messages, more_messages, StatementsOf, no_statements, more_statements}
use Rattle.grammar_model.specs.Terminal.{Text}
use Rattle.grammar_model.specs.Words.{is_pseudo}
use Rattle.grammar_model.specs.Checks.{Known, is_fixed}

-- whether a name is declared that was declared before
abbrev pub repeats : List Text → List Text → Bool
repeats seen [] = false
repeats seen (n ∷ ns) = list_any (λ m. bytes_eq n m) seen || repeats (n ∷ seen) ns

-- whether a list in a tree declares a name twice
abbrev mutual
  -- in a tree
  pub has_duplicate : TreeOf Text → Bool
  has_duplicate (var n) = false
  has_duplicate (literal l) = false
  has_duplicate (send r s xs) = has_duplicate r || has_duplicate_trees xs
  has_duplicate (cascade r ms) = has_duplicate r || has_duplicate_messages ms
  has_duplicate (assign n t) = has_duplicate t
  has_duplicate (block ps ds ss c) = repeats [] (ps ++ ds) || has_duplicate_statements ss
  has_duplicate (brace ts) = has_duplicate_trees ts
  has_duplicate (return t) = has_duplicate t

  -- in trees
  pub has_duplicate_trees : TreesOf Text → Bool
  has_duplicate_trees no_trees = false
  has_duplicate_trees (more_trees t ts) = has_duplicate t || has_duplicate_trees ts

  -- in messages
  pub has_duplicate_messages : MessagesOf Text → Bool
  has_duplicate_messages no_messages = false
  has_duplicate_messages (more_messages s xs ms) = has_duplicate_trees xs || has_duplicate_messages ms

  -- in statements
  pub has_duplicate_statements : StatementsOf Text → Bool
  has_duplicate_statements no_statements = false
  has_duplicate_statements (more_statements c t ss) = has_duplicate t || has_duplicate_statements ss

-- the known names of one list
abbrev pub known_names : List Text → List Text → List Known
known_names ps ds = map (λ (n : Text). record { name = n; fixed = true }) ps ++ map (λ (n : Text). record { name = n; fixed = false }) ds

-- whether a name is assigned that can not be
abbrev mutual
  -- in a tree
  pub assigns_fixed : List Known → TreeOf Text → Bool
  assigns_fixed ks (var n) = false
  assigns_fixed ks (literal l) = false
  assigns_fixed ks (send r s xs) = assigns_fixed ks r || assigns_fixed_trees ks xs
  assigns_fixed ks (cascade r ms) = assigns_fixed ks r || assigns_fixed_messages ks ms
  assigns_fixed ks (assign n t) = (is_pseudo n || is_fixed ks n) || assigns_fixed ks t
  assigns_fixed ks (block ps ds ss c) = assigns_fixed_statements (known_names ps ds ++ ks) ss
  assigns_fixed ks (brace ts) = assigns_fixed_trees ks ts
  assigns_fixed ks (return t) = assigns_fixed ks t

  -- in trees
  pub assigns_fixed_trees : List Known → TreesOf Text → Bool
  assigns_fixed_trees ks no_trees = false
  assigns_fixed_trees ks (more_trees t ts) = assigns_fixed ks t || assigns_fixed_trees ks ts

  -- in messages
  pub assigns_fixed_messages : List Known → MessagesOf Text → Bool
  assigns_fixed_messages ks no_messages = false
  assigns_fixed_messages ks (more_messages s xs ms) = assigns_fixed_trees ks xs || assigns_fixed_messages ks ms

  -- in statements
  pub assigns_fixed_statements : List Known → StatementsOf Text → Bool
  assigns_fixed_statements ks no_statements = false
  assigns_fixed_statements ks (more_statements c t ss) = assigns_fixed ks t || assigns_fixed_statements ks ss
