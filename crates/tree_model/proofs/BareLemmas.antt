-- Trees without their comments.
use Rattle.std.proofs.Common.{◌≡◌, refl, ap, [], map}
use Rattle.tree_model.specs.Tree.{TreeOf, var, literal, send, cascade, assign, block, brace, return, TreesOf, no_trees, more_trees, MessagesOf, no_messages, more_messages, StatementsOf, no_statements, more_statements, SequenceOf, MethodOf, map_names, map_trees, map_messages, map_statements, map_sequence, map_method}
use Rattle.tree_model.specs.Bare.{bare, bare_trees, bare_messages, bare_statements, bare_sequence, bare_method}

-- comments that are gone are gone
mutual
  pub bare-bare : {N : Type 0} (t : TreeOf N) → bare (bare t) ≡ bare t
  bare-bare (var n) = refl
  bare-bare (literal l) = refl
  bare-bare (send r s args) = λ i. send (bare-bare r i) s (bare_trees-bare_trees args i)
  bare-bare (cascade r ms) = λ i. cascade (bare-bare r i) (bare_messages-bare_messages ms i)
  bare-bare (assign n t) = ap (assign n) (bare-bare t)
  bare-bare (block ps ts ss e) = λ i. block ps ts (bare_statements-bare_statements ss i) []
  bare-bare (brace ts) = ap brace (bare_trees-bare_trees ts)
  bare-bare (return t) = ap return (bare-bare t)

  pub bare_trees-bare_trees : {N : Type 0} (ts : TreesOf N) → bare_trees (bare_trees ts) ≡ bare_trees ts
  bare_trees-bare_trees no_trees = refl
  bare_trees-bare_trees (more_trees t ts) = λ i. more_trees (bare-bare t i) (bare_trees-bare_trees ts i)

  pub bare_messages-bare_messages : {N : Type 0} (ms : MessagesOf N) → bare_messages (bare_messages ms) ≡ bare_messages ms
  bare_messages-bare_messages no_messages = refl
  bare_messages-bare_messages (more_messages s args ms) = λ i. more_messages s (bare_trees-bare_trees args i) (bare_messages-bare_messages ms i)

  pub bare_statements-bare_statements : {N : Type 0} (ss : StatementsOf N) → bare_statements (bare_statements ss) ≡ bare_statements ss
  bare_statements-bare_statements no_statements = refl
  bare_statements-bare_statements (more_statements c t ss) = λ i. more_statements [] (bare-bare t i) (bare_statements-bare_statements ss i)

module _ {M N : Type 0} (f : M → N) where
  -- names are changed with or without comments alike
  mutual
    pub bare-map_names : (t : TreeOf M) → bare (map_names f t) ≡ map_names f (bare t)
    bare-map_names (var n) = refl
    bare-map_names (literal l) = refl
    bare-map_names (send r s args) = λ i. send (bare-map_names r i) (f s) (bare_trees-map_trees args i)
    bare-map_names (cascade r ms) = λ i. cascade (bare-map_names r i) (bare_messages-map_messages ms i)
    bare-map_names (assign n t) = ap (assign (f n)) (bare-map_names t)
    bare-map_names (block ps ts ss e) = λ i. block (map f ps) (map f ts) (bare_statements-map_statements ss i) []
    bare-map_names (brace ts) = ap brace (bare_trees-map_trees ts)
    bare-map_names (return t) = ap return (bare-map_names t)

    pub bare_trees-map_trees : (ts : TreesOf M) → bare_trees (map_trees f ts) ≡ map_trees f (bare_trees ts)
    bare_trees-map_trees no_trees = refl
    bare_trees-map_trees (more_trees t ts) = λ i. more_trees (bare-map_names t i) (bare_trees-map_trees ts i)

    pub bare_messages-map_messages : (ms : MessagesOf M) → bare_messages (map_messages f ms) ≡ map_messages f (bare_messages ms)
    bare_messages-map_messages no_messages = refl
    bare_messages-map_messages (more_messages s args ms) = λ i. more_messages (f s) (bare_trees-map_trees args i) (bare_messages-map_messages ms i)

    pub bare_statements-map_statements : (ss : StatementsOf M) → bare_statements (map_statements f ss) ≡ map_statements f (bare_statements ss)
    bare_statements-map_statements no_statements = refl
    bare_statements-map_statements (more_statements c t ss) = λ i. more_statements [] (bare-map_names t i) (bare_statements-map_statements ss i)

  -- in a sequence
  pub bare_sequence-map_sequence : (b : SequenceOf M) → bare_sequence (map_sequence f b) ≡ map_sequence f (bare_sequence b)
  bare_sequence-map_sequence b =
      λ i. record { temporaries = map f b.temporaries; statements = bare_statements-map_statements b.statements i; tail = [] }

  -- in a method
  pub bare_method-map_method : (m : MethodOf M) → bare_method (map_method f m) ≡ map_method f (bare_method m)
  bare_method-map_method m =
      λ i. record { selector = f m.selector; arguments = map f m.arguments; head = []; primitive = m.primitive; body = bare_sequence-map_sequence m.body i }
