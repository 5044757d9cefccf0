-- Laws of the change of names.
use Rattle.std.proofs.Common.{◌≡◌, refl, ap}
use Rattle.std.proofs.lemmas.List.{map-id}
use Rattle.std.proofs.lemmas.Simd.{map-map}
use Rattle.tree_model.specs.Tree.{LiteralOf, number, str, symbol, char, array, bytes, word, LiteralsOf, no_literals, more_literals, TreeOf, var, literal, send, cascade, assign, block, brace, return, TreesOf, no_trees, more_trees, MessagesOf, no_messages, more_messages, StatementsOf, no_statements, more_statements, SequenceOf, MethodOf, map_literal, map_literals, map_names, map_trees, map_messages, map_statements, map_sequence, map_method}

-- no name of a literal is changed
mutual
  map_literal-id : {N : Type 0} (l : LiteralOf N) → map_literal (λ n. n) l ≡ l
  map_literal-id (number t) = refl
  map_literal-id (str t) = refl
  map_literal-id (symbol t) = refl
  map_literal-id (char b) = refl
  map_literal-id (array ls) = ap array (map_literals-id ls)
  map_literal-id (bytes ls) = ap bytes (map_literals-id ls)
  map_literal-id (word n) = refl

  map_literals-id : {N : Type 0} (ls : LiteralsOf N) → map_literals (λ n. n) ls ≡ ls
  map_literals-id no_literals = refl
  map_literals-id (more_literals l ls) = λ i. more_literals (map_literal-id l i) (map_literals-id ls i)

-- no name of a tree is changed
mutual
  pub map_names-id : {N : Type 0} (t : TreeOf N) → map_names (λ n. n) t ≡ t
  map_names-id (var n) = refl
  map_names-id (literal l) = ap literal (map_literal-id l)
  map_names-id (send r s args) = λ i. send (map_names-id r i) s (map_trees-id args i)
  map_names-id (cascade r ms) = λ i. cascade (map_names-id r i) (map_messages-id ms i)
  map_names-id (assign n t) = ap (assign n) (map_names-id t)
  map_names-id (block ps ts ss e) = λ i. block (map-id ps i) (map-id ts i) (map_statements-id ss i) e
  map_names-id (brace ts) = ap brace (map_trees-id ts)
  map_names-id (return t) = ap return (map_names-id t)

  pub map_trees-id : {N : Type 0} (ts : TreesOf N) → map_trees (λ n. n) ts ≡ ts
  map_trees-id no_trees = refl
  map_trees-id (more_trees t ts) = λ i. more_trees (map_names-id t i) (map_trees-id ts i)

  pub map_messages-id : {N : Type 0} (ms : MessagesOf N) → map_messages (λ n. n) ms ≡ ms
  map_messages-id no_messages = refl
  map_messages-id (more_messages s args ms) = λ i. more_messages s (map_trees-id args i) (map_messages-id ms i)

  pub map_statements-id : {N : Type 0} (ss : StatementsOf N) → map_statements (λ n. n) ss ≡ ss
  map_statements-id no_statements = refl
  map_statements-id (more_statements c t ss) = λ i. more_statements c (map_names-id t i) (map_statements-id ss i)

-- no name of a sequence is changed
pub map_sequence-id : {N : Type 0} (b : SequenceOf N) → map_sequence (λ n. n) b ≡ b
map_sequence-id b = λ i. record { temporaries = map-id b.temporaries i; statements = map_statements-id b.statements i; tail = b.tail }

-- no name of a method is changed
pub map_method-id : {N : Type 0} (m : MethodOf N) → map_method (λ n. n) m ≡ m
map_method-id m =
    λ i. record { selector = m.selector; arguments = map-id m.arguments i; head = m.head; primitive = m.primitive; body = map_sequence-id m.body i }

module _ {K M N : Type 0} (g : M → N) (f : K → M) where
  -- the names of a literal are changed twice
  mutual
    map_literal-map_literal : (l : LiteralOf K) → map_literal g (map_literal f l) ≡ map_literal (λ n. g (f n)) l
    map_literal-map_literal (number t) = refl
    map_literal-map_literal (str t) = refl
    map_literal-map_literal (symbol t) = refl
    map_literal-map_literal (char b) = refl
    map_literal-map_literal (array ls) = ap array (map_literals-map_literals ls)
    map_literal-map_literal (bytes ls) = ap bytes (map_literals-map_literals ls)
    map_literal-map_literal (word n) = refl

    map_literals-map_literals : (ls : LiteralsOf K) → map_literals g (map_literals f ls) ≡ map_literals (λ n. g (f n)) ls
    map_literals-map_literals no_literals = refl
    map_literals-map_literals (more_literals l ls) = λ i. more_literals (map_literal-map_literal l i) (map_literals-map_literals ls i)

  -- the names of a tree are changed twice
  mutual
    pub map_names-map_names : (t : TreeOf K) → map_names g (map_names f t) ≡ map_names (λ n. g (f n)) t
    map_names-map_names (var n) = refl
    map_names-map_names (literal l) = ap literal (map_literal-map_literal l)
    map_names-map_names (send r s args) = λ i. send (map_names-map_names r i) (g (f s)) (map_trees-map_trees args i)
    map_names-map_names (cascade r ms) = λ i. cascade (map_names-map_names r i) (map_messages-map_messages ms i)
    map_names-map_names (assign n t) = ap (assign (g (f n))) (map_names-map_names t)
    map_names-map_names (block ps ts ss e) =
        λ i. block (map-map g f ps i) (map-map g f ts i) (map_statements-map_statements ss i) e
    map_names-map_names (brace ts) = ap brace (map_trees-map_trees ts)
    map_names-map_names (return t) = ap return (map_names-map_names t)

    pub map_trees-map_trees : (ts : TreesOf K) → map_trees g (map_trees f ts) ≡ map_trees (λ n. g (f n)) ts
    map_trees-map_trees no_trees = refl
    map_trees-map_trees (more_trees t ts) = λ i. more_trees (map_names-map_names t i) (map_trees-map_trees ts i)

    pub map_messages-map_messages : (ms : MessagesOf K) → map_messages g (map_messages f ms) ≡ map_messages (λ n. g (f n)) ms
    map_messages-map_messages no_messages = refl
    map_messages-map_messages (more_messages s args ms) =
        λ i. more_messages (g (f s)) (map_trees-map_trees args i) (map_messages-map_messages ms i)

    pub map_statements-map_statements : (ss : StatementsOf K) → map_statements g (map_statements f ss) ≡ map_statements (λ n. g (f n)) ss
    map_statements-map_statements no_statements = refl
    map_statements-map_statements (more_statements c t ss) =
        λ i. more_statements c (map_names-map_names t i) (map_statements-map_statements ss i)

  -- the names of a sequence are changed twice
  pub map_sequence-map_sequence : (b : SequenceOf K) → map_sequence g (map_sequence f b) ≡ map_sequence (λ n. g (f n)) b
  map_sequence-map_sequence b =
      λ i. record { temporaries = map-map g f b.temporaries i; statements = map_statements-map_statements b.statements i; tail = b.tail }

  -- the names of a method are changed twice
  pub map_method-map_method : (m : MethodOf K) → map_method g (map_method f m) ≡ map_method (λ n. g (f n)) m
  map_method-map_method m =
      λ i. record { selector = g (f m.selector); arguments = map-map g f m.arguments i; head = m.head; primitive = m.primitive; body = map_sequence-map_sequence m.body i }
