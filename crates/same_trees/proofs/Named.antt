-- Trees whose names are changed are the same where the trees are, asked through the change.
use Rattle.std.proofs.Common.{◌≡◌, refl, List, map}
use Rattle.std.specs.Prelude.{Bool, ◌&&◌, nat_eq}
use Rattle.std.specs.Cmp.Lexicographic.{pointwise}
use Rattle.std.specs.Cmp.Derive.Mapped.{pointwise-map}
use Rattle.std.specs.Option.{option_eq}
use Rattle.tree_model.specs.Tree.{LiteralOf, number, str, symbol, char, array, bytes, word, LiteralsOf, no_literals, more_literals, TreeOf, var, literal, send, cascade, assign, block, brace, return, TreesOf, no_trees, more_trees, MessagesOf, no_messages, more_messages, StatementsOf, no_statements, more_statements, SequenceOf, MethodOf, map_literal, map_literals, map_names, map_trees, map_messages, map_statements, map_sequence, map_method}
use Rattle.same_trees.specs.SameTrees.{same_literal, same_literals, same_tree, same_trees, same_messages, same_statements, same_sequence, same_code}

module _ {M N : Type 0} (f : M → N) (same : N → N → Bool) where
  -- the test, asked through the change
  abbrev through : M → M → Bool
  through m n = same (f m) (f n)

  -- names in order
  pub names_mapped : (ms ns : List M) → pointwise same (map f ms) (map f ns) ≡ pointwise through ms ns
  names_mapped = pointwise-map f same

  -- literals
  mutual
    pub literal_mapped : (k l : LiteralOf M) → same_literal same (map_literal f k) (map_literal f l) ≡ same_literal through k l
    literal_mapped (number a) (number b) = refl
    literal_mapped (str a) (str b) = refl
    literal_mapped (symbol a) (symbol b) = refl
    literal_mapped (char a) (char b) = refl
    literal_mapped (array ks) (array ls) = literals_mapped ks ls
    literal_mapped (bytes ks) (bytes ls) = literals_mapped ks ls
    literal_mapped (word m) (word n) = refl
    literal_mapped k l = refl

    literals_mapped : (ks ls : LiteralsOf M) → same_literals same (map_literals f ks) (map_literals f ls) ≡ same_literals through ks ls
    literals_mapped no_literals no_literals = refl
    literals_mapped (more_literals k ks) (more_literals l ls) = λ i. literal_mapped k l i && literals_mapped ks ls i
    literals_mapped ks ls = refl

  -- nodes
  mutual
    pub tree_mapped : (t u : TreeOf M) → same_tree same (map_names f t) (map_names f u) ≡ same_tree through t u
    tree_mapped (var m) (var n) = refl
    tree_mapped (literal k) (literal l) = literal_mapped k l
    tree_mapped (send q r xs) (send t u ys) = λ i. tree_mapped q t i && (same (f r) (f u) && trees_mapped xs ys i)
    tree_mapped (cascade q ks) (cascade t ms) = λ i. tree_mapped q t i && messages_mapped ks ms i
    tree_mapped (assign m t) (assign n u) = λ i. same (f m) (f n) && tree_mapped t u i
    tree_mapped (block ps ts ss d) (block qs us rs e) = λ i. names_mapped ps qs i && (names_mapped ts us i && statements_mapped ss rs i)
    tree_mapped (brace xs) (brace ys) = trees_mapped xs ys
    tree_mapped (return t) (return u) = tree_mapped t u
    tree_mapped t u = refl

    pub trees_mapped : (ts us : TreesOf M) → same_trees same (map_trees f ts) (map_trees f us) ≡ same_trees through ts us
    trees_mapped no_trees no_trees = refl
    trees_mapped (more_trees t ts) (more_trees u us) = λ i. tree_mapped t u i && trees_mapped ts us i
    trees_mapped ts us = refl

    messages_mapped : (ks ms : MessagesOf M) → same_messages same (map_messages f ks) (map_messages f ms) ≡ same_messages through ks ms
    messages_mapped no_messages no_messages = refl
    messages_mapped (more_messages s xs ks) (more_messages t ys ms) = λ i. same (f s) (f t) && (trees_mapped xs ys i && messages_mapped ks ms i)
    messages_mapped ks ms = refl

    pub statements_mapped : (ss rs : StatementsOf M) → same_statements same (map_statements f ss) (map_statements f rs) ≡ same_statements through ss rs
    statements_mapped no_statements no_statements = refl
    statements_mapped (more_statements c t ss) (more_statements d u rs) = λ i. tree_mapped t u i && statements_mapped ss rs i
    statements_mapped ss rs = refl

  -- bodies
  pub sequence_mapped : (a b : SequenceOf M) → same_sequence same (map_sequence f a) (map_sequence f b) ≡ same_sequence through a b
  sequence_mapped a b = λ i. names_mapped a.temporaries b.temporaries i && statements_mapped a.statements b.statements i

  -- methods, with their primitives
  pub code_mapped : (m n : MethodOf M) → same_code same (map_method f m) (map_method f n) ≡ same_code through m n
  code_mapped m n =
      λ i. same (f m.selector) (f n.selector)
      && (names_mapped m.arguments n.arguments i
      && (option_eq nat_eq m.primitive n.primitive && sequence_mapped m.body n.body i))
