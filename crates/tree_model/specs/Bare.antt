-- Trees without their comments.
use Rattle.std.specs.Prelude.{◌≡◌, []}
use Rattle.tree_model.specs.Tree.{TreeOf, var, literal, send, cascade, assign, block, brace, return, TreesOf, no_trees, more_trees, MessagesOf, no_messages, more_messages, StatementsOf, no_statements, more_statements, SequenceOf, MethodOf}

-- the tree without its comments
abbrev mutual
  pub bare : {N : Type 0} → TreeOf N → TreeOf N
  bare (var n) = var n
  bare (literal l) = literal l
  bare (send r s args) = send (bare r) s (bare_trees args)
  bare (cascade r ms) = cascade (bare r) (bare_messages ms)
  bare (assign n t) = assign n (bare t)
  bare (block ps ts ss e) = block ps ts (bare_statements ss) []
  bare (brace ts) = brace (bare_trees ts)
  bare (return t) = return (bare t)

  pub bare_trees : {N : Type 0} → TreesOf N → TreesOf N
  bare_trees no_trees = no_trees
  bare_trees (more_trees t ts) = more_trees (bare t) (bare_trees ts)

  pub bare_messages : {N : Type 0} → MessagesOf N → MessagesOf N
  bare_messages no_messages = no_messages
  bare_messages (more_messages s args ms) = more_messages s (bare_trees args) (bare_messages ms)

  pub bare_statements : {N : Type 0} → StatementsOf N → StatementsOf N
  bare_statements no_statements = no_statements
  bare_statements (more_statements c t ss) = more_statements [] (bare t) (bare_statements ss)

-- the sequence without its comments
abbrev pub bare_sequence : {N : Type 0} → SequenceOf N → SequenceOf N
bare_sequence b = record { temporaries = b.temporaries; statements = bare_statements b.statements; tail = [] }

-- the method without its comments
abbrev pub bare_method : {N : Type 0} → MethodOf N → MethodOf N
bare_method m = record m { head = []; body = bare_sequence m.body }

-- the same trees, whatever their comments
abbrev pub SameBare : {N : Type 0} → TreeOf N → TreeOf N → Type 0
SameBare t u = bare t ≡ bare u

-- the same methods, whatever their comments
abbrev pub SameBareMethod : {N : Type 0} → MethodOf N → MethodOf N → Type 0
SameBareMethod m n = bare_method m ≡ bare_method n
