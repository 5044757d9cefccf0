-- The change of names and the loss of comments leave heights and sizes.
use Rattle.std.proofs.Common.{◌≡◌, refl, arith}
use Rattle.tree_model.specs.Tree.{LiteralOf, number, str, symbol, char, array, bytes, word, LiteralsOf, no_literals, more_literals, TreeOf, var, literal, send, cascade, assign, block, brace, return, TreesOf, no_trees, more_trees, MessagesOf, no_messages, more_messages, StatementsOf, no_statements, more_statements, map_literal, map_literals, map_names, map_trees, map_messages, map_statements}
use Rattle.tree_model.specs.Measure.{literal_height, literals_height, height, trees_height, messages_height, statements_height, size, trees_size, messages_size, statements_size}
use Rattle.tree_model.specs.Bare.{bare, bare_trees, bare_messages, bare_statements}

module _ {M N : Type 0} (f : M → N) where
  -- the height of a literal
  mutual
    literal_height-map_literal : (l : LiteralOf M) → literal_height (map_literal f l) ≡ literal_height l
    literal_height-map_literal (number t) = refl
    literal_height-map_literal (str t) = refl
    literal_height-map_literal (symbol t) = refl
    literal_height-map_literal (char b) = refl
    literal_height-map_literal (array ls) = omega (arith, literals_height-map_literals ls)
    literal_height-map_literal (bytes ls) = refl
    literal_height-map_literal (word n) = refl

    literals_height-map_literals : (ls : LiteralsOf M) → literals_height (map_literals f ls) ≡ literals_height ls
    literals_height-map_literals no_literals = refl
    literals_height-map_literals (more_literals l ls) = omega (arith, literal_height-map_literal l, literals_height-map_literals ls)

  -- the height of a tree
  mutual
    pub height-map_names : (t : TreeOf M) → height (map_names f t) ≡ height t
    height-map_names (var n) = refl
    height-map_names (literal l) = literal_height-map_literal l
    height-map_names (send r s args) = omega (arith, height-map_names r, trees_height-map_trees args)
    height-map_names (cascade r ms) = omega (arith, height-map_names r, messages_height-map_messages ms)
    height-map_names (assign n t) = omega (arith, height-map_names t)
    height-map_names (block ps ts ss e) = omega (arith, statements_height-map_statements ss)
    height-map_names (brace ts) = omega (arith, trees_height-map_trees ts)
    height-map_names (return t) = omega (arith, height-map_names t)

    pub trees_height-map_trees : (ts : TreesOf M) → trees_height (map_trees f ts) ≡ trees_height ts
    trees_height-map_trees no_trees = refl
    trees_height-map_trees (more_trees t ts) = omega (arith, height-map_names t, trees_height-map_trees ts)

    pub messages_height-map_messages : (ms : MessagesOf M) → messages_height (map_messages f ms) ≡ messages_height ms
    messages_height-map_messages no_messages = refl
    messages_height-map_messages (more_messages s args ms) = omega (arith, trees_height-map_trees args, messages_height-map_messages ms)

    pub statements_height-map_statements : (ss : StatementsOf M) → statements_height (map_statements f ss) ≡ statements_height ss
    statements_height-map_statements no_statements = refl
    statements_height-map_statements (more_statements c t ss) = omega (arith, height-map_names t, statements_height-map_statements ss)

  -- the size of a tree
  mutual
    pub size-map_names : (t : TreeOf M) → size (map_names f t) ≡ size t
    size-map_names (var n) = refl
    size-map_names (literal l) = refl
    size-map_names (send r s args) = omega (arith, size-map_names r, trees_size-map_trees args)
    size-map_names (cascade r ms) = omega (arith, size-map_names r, messages_size-map_messages ms)
    size-map_names (assign n t) = omega (arith, size-map_names t)
    size-map_names (block ps ts ss e) = omega (arith, statements_size-map_statements ss)
    size-map_names (brace ts) = omega (arith, trees_size-map_trees ts)
    size-map_names (return t) = omega (arith, size-map_names t)

    pub trees_size-map_trees : (ts : TreesOf M) → trees_size (map_trees f ts) ≡ trees_size ts
    trees_size-map_trees no_trees = refl
    trees_size-map_trees (more_trees t ts) = omega (arith, size-map_names t, trees_size-map_trees ts)

    pub messages_size-map_messages : (ms : MessagesOf M) → messages_size (map_messages f ms) ≡ messages_size ms
    messages_size-map_messages no_messages = refl
    messages_size-map_messages (more_messages s args ms) = omega (arith, trees_size-map_trees args, messages_size-map_messages ms)

    pub statements_size-map_statements : (ss : StatementsOf M) → statements_size (map_statements f ss) ≡ statements_size ss
    statements_size-map_statements no_statements = refl
    statements_size-map_statements (more_statements c t ss) = omega (arith, size-map_names t, statements_size-map_statements ss)

-- comments add nothing to a height
mutual
  pub height-bare : {N : Type 0} (t : TreeOf N) → height (bare t) ≡ height t
  height-bare (var n) = refl
  height-bare (literal l) = refl
  height-bare (send r s args) = omega (arith, height-bare r, trees_height-bare_trees args)
  height-bare (cascade r ms) = omega (arith, height-bare r, messages_height-bare_messages ms)
  height-bare (assign n t) = omega (arith, height-bare t)
  height-bare (block ps ts ss e) = omega (arith, statements_height-bare_statements ss)
  height-bare (brace ts) = omega (arith, trees_height-bare_trees ts)
  height-bare (return t) = omega (arith, height-bare t)

  pub trees_height-bare_trees : {N : Type 0} (ts : TreesOf N) → trees_height (bare_trees ts) ≡ trees_height ts
  trees_height-bare_trees no_trees = refl
  trees_height-bare_trees (more_trees t ts) = omega (arith, height-bare t, trees_height-bare_trees ts)

  pub messages_height-bare_messages : {N : Type 0} (ms : MessagesOf N) → messages_height (bare_messages ms) ≡ messages_height ms
  messages_height-bare_messages no_messages = refl
  messages_height-bare_messages (more_messages s args ms) = omega (arith, trees_height-bare_trees args, messages_height-bare_messages ms)

  pub statements_height-bare_statements : {N : Type 0} (ss : StatementsOf N) → statements_height (bare_statements ss) ≡ statements_height ss
  statements_height-bare_statements no_statements = refl
  statements_height-bare_statements (more_statements c t ss) = omega (arith, height-bare t, statements_height-bare_statements ss)

-- comments add nothing to a size
mutual
  pub size-bare : {N : Type 0} (t : TreeOf N) → size (bare t) ≡ size t
  size-bare (var n) = refl
  size-bare (literal l) = refl
  size-bare (send r s args) = omega (arith, size-bare r, trees_size-bare_trees args)
  size-bare (cascade r ms) = omega (arith, size-bare r, messages_size-bare_messages ms)
  size-bare (assign n t) = omega (arith, size-bare t)
  size-bare (block ps ts ss e) = omega (arith, statements_size-bare_statements ss)
  size-bare (brace ts) = omega (arith, trees_size-bare_trees ts)
  size-bare (return t) = omega (arith, size-bare t)

  pub trees_size-bare_trees : {N : Type 0} (ts : TreesOf N) → trees_size (bare_trees ts) ≡ trees_size ts
  trees_size-bare_trees no_trees = refl
  trees_size-bare_trees (more_trees t ts) = omega (arith, size-bare t, trees_size-bare_trees ts)

  pub messages_size-bare_messages : {N : Type 0} (ms : MessagesOf N) → messages_size (bare_messages ms) ≡ messages_size ms
  messages_size-bare_messages no_messages = refl
  messages_size-bare_messages (more_messages s args ms) = omega (arith, trees_size-bare_trees args, messages_size-bare_messages ms)

  pub statements_size-bare_statements : {N : Type 0} (ss : StatementsOf N) → statements_size (bare_statements ss) ≡ statements_size ss
  statements_size-bare_statements no_statements = refl
  statements_size-bare_statements (more_statements c t ss) = omega (arith, size-bare t, statements_size-bare_statements ss)
