-- Which blocks stand on one line: with other names, and in trees that wait.
use Rattle.std.proofs.Common.{◌≡◌, refl, sym, ap, ◌∙◌, ℕ, ◌+◌, ◌≤◌, Bool, true, false, ◌&&◌, List, [], ◌∷◌, ◌++◌, map, arith}
use Rattle.std.proofs.lemmas.Bool.{false≢true}
use Rattle.std.proofs.lemmas.Grind.{common_steps}
use Rattle.std.specs.Borrow.{Bor}
use Rattle.tree_model.specs.Tree.{TreeOf, var, literal, send, cascade, assign, block, brace, return, TreesOf, no_trees, more_trees, MessagesOf, no_messages, more_messages, StatementsOf, no_statements, more_statements, map_names, map_trees, map_messages, map_statements, SequenceOf}
use Rattle.tree_model.specs.Measure.{weight, trees_weight, statements_weight}
use Rattle.text_model.specs.Flat.{is_none_in, is_flat, are_trees_flat, are_messages_flat, is_flat_row}
use Rattle.st_tree.specs.View.{statements_of, sequence_of}
use Rattle.st_tree.specs.declared.tree.Statement.{Statement}
use Rattle.st_tree.specs.declared.tree.Sequence.{Sequence}
use Rattle.st_formatter.specs.Bodies.{is_bare_row, is_bare, is_flat_body}
use Rattle.st_formatter.specs.Waiting.{trees_at}
use Rattle.st_formatter.proofs.Turned.{and-true}

none-map : {M N : Type 0} (f : M → N) (xs : List M) → is_none_in (map f xs) ≡ is_none_in xs
none-map f [] = refl
none-map f (x ∷ xs) = refl

-- the names do not count
module _ {M N : Type 0} (f : M → N) where
  mutual
    pub is_flat-map : (t : TreeOf M) → is_flat (map_names f t) ≡ is_flat t
    is_flat-map (var n) = refl
    is_flat-map (literal l) = refl
    is_flat-map (send r s args) = λ i. is_flat-map r i && trees-map args i
    is_flat-map (cascade r ms) = λ i. is_flat-map r i && messages-map ms i
    is_flat-map (assign n t) = is_flat-map t
    is_flat-map (block ps ts ss e) = λ i. none-map f ts i && is_none_in e && row-map ss i
    is_flat-map (brace ts) = trees-map ts
    is_flat-map (return t) = is_flat-map t

    trees-map : (ts : TreesOf M) → are_trees_flat (map_trees f ts) ≡ are_trees_flat ts
    trees-map no_trees = refl
    trees-map (more_trees t ts) = λ i. is_flat-map t i && trees-map ts i

    messages-map : (ms : MessagesOf M) → are_messages_flat (map_messages f ms) ≡ are_messages_flat ms
    messages-map no_messages = refl
    messages-map (more_messages s args ms) = λ i. trees-map args i && messages-map ms i

    row-map : (ss : StatementsOf M) → is_flat_row (map_statements f ss) ≡ is_flat_row ss
    row-map no_statements = refl
    row-map (more_statements c t no_statements) = λ i. is_none_in c && is_flat-map t i
    row-map (more_statements c t (more_statements d u ss)) = refl

pub and-assoc : (a b c : Bool) → (a && (b && c)) ≡ ((a && b) && c)
and-assoc true b c = refl
and-assoc false b c = refl

-- a test of three parts by its last part
third-false : (a b c d : Bool) → (c ≡ false → d ≡ false) → (a && b && c) ≡ false → (a && b && d) ≡ false
third-false true true c d f h = f h
third-false true false c d f h = refl
third-false false b c d f h = refl

third-true : (a b c d : Bool) → (a && b && c) ≡ true → ((a && b && d) ≡ d) × (c ≡ true)
third-true true true c d h = (refl, h)
third-true true false c d h = absurd (false≢true h)
third-true false b c d h = absurd (false≢true h)

-- one more tree that waits
pub flat-last : (rs : List (Bor (TreeOf ℕ))) (r : Bor (TreeOf ℕ)) → are_trees_flat (trees_at (rs ++ r ∷ [])) ≡ (are_trees_flat (trees_at rs) && is_flat r.now)
flat-last [] r = and-true (is_flat r.now)
flat-last (x ∷ rs) r = ap (λ b. is_flat x.now && b) (flat-last rs r) ∙ and-assoc (is_flat x.now) (are_trees_flat (trees_at rs)) (is_flat r.now)

pub weight-last : (rs : List (Bor (TreeOf ℕ))) (r : Bor (TreeOf ℕ)) → trees_weight (trees_at (rs ++ r ∷ [])) ≡ trees_weight (trees_at rs) + (weight r.now + 1)
weight-last [] r = omega arith
weight-last (x ∷ rs) r = omega (arith, weight-last rs r)

-- a body that is not bare is not flat
row-not_bare : (ss : StatementsOf ℕ) → is_bare_row ss ≡ false → is_flat_row ss ≡ false
row-not_bare no_statements h = absurd (false≢true (sym h))
row-not_bare (more_statements c t no_statements) h = rw h refl
row-not_bare (more_statements c t (more_statements d u ss)) h = refl

pub body-not_bare : (b : SequenceOf ℕ) → is_bare b ≡ false → is_flat_body b ≡ false
body-not_bare b h = third-false (is_none_in b.temporaries) (is_none_in b.tail) (is_bare_row b.statements) (is_flat_row b.statements) (row-not_bare b.statements) h

-- a bare body without statements is flat
pub body-none : (b : Sequence) → is_bare (sequence_of b) ≡ true → b.statements ≡ [] → is_flat_body (sequence_of b) ≡ true
body-none b h e =
    (third-true (is_none_in b.temporaries) (is_none_in b.tail) (is_bare_row (statements_of b.statements)) (is_flat_row (statements_of b.statements)) h).0
    ∙ ap (λ (ss : List Statement). is_flat_row (statements_of ss)) e

-- a bare body is flat if each block in its statement is
row-bare : (s : Statement) (ss : List Statement) → is_bare_row (statements_of (s ∷ ss)) ≡ true → is_flat_row (statements_of (s ∷ ss)) ≡ is_flat s.node
row-bare s [] h = rw h refl
row-bare s (r ∷ ss) h = absurd (false≢true h)

pub body-one : (b : Sequence) (s : Statement) (ss : List Statement) → is_bare (sequence_of b) ≡ true → b.statements ≡ s ∷ ss → is_flat_body (sequence_of b) ≡ is_flat s.node
body-one b s ss h e =
    let bare = third-true (is_none_in b.temporaries) (is_none_in b.tail) (is_bare_row (statements_of b.statements)) (is_flat_row (statements_of b.statements)) h in
    bare.0
    ∙ ap (λ (rs : List Statement). is_flat_row (statements_of rs)) e
    ∙ row-bare s ss (sym (ap (λ (rs : List Statement). is_bare_row (statements_of rs)) e) ∙ bare.1)

-- no list of statements is without weight
pub some-statements : (ss : List Statement) → 1 ≤ statements_weight (statements_of ss)
some-statements [] = omega arith
some-statements (s ∷ ss) = omega arith

pub ruleset flat_rules = is_flat-map

pub ruleset waiting_rules = (common_steps, flat-last, weight-last, and-true, and-assoc)

pub ruleset body_rules = (common_steps, and-true, body-not_bare, body-none, body-one, some-statements)
