-- The nodes right below a node, and a node with one of them replaced.
use Rattle.std.proofs.Common.{◌≡◌, ◌≢◌, ℕ, zero, suc, ◌+◌, ◌-◌, ◌<◌, inl, inr, refl, sym, ◌∙◌, ap, arith, Some, option_map, map}
use Rattle.std.proofs.lemmas.Bool.{lt-ltb, le-ltb, cases_lt}
use Rattle.tree_model.specs.Tree.{TreeOf, var, literal, send, cascade, assign, block, brace, return, TreesOf, no_trees, more_trees, MessagesOf, no_messages, more_messages, StatementsOf, no_statements, more_statements, map_names, map_trees, map_messages, map_statements}
use Rattle.tree_model.specs.Path.{append, count, nth, all_arguments, statement_trees, children, child, with_nth, with_statement, with_argument, with_child}

module _ {N : Type 0} where
  -- a tree is put at a number and found there
  pub nth-with_nth : (ts : TreesOf N) (k : ℕ) (c u : TreeOf N) → nth ts k ≡ Some c → nth (with_nth ts k u) k ≡ Some u
  nth-with_nth no_trees k c u e = cc
  nth-with_nth (more_trees t ts) zero c u e = refl
  nth-with_nth (more_trees t ts) (suc k) c u e = nth-with_nth ts k c u e

  -- the trees of the other numbers stay
  pub nth-with_nth_other : (ts : TreesOf N) (j k : ℕ) (u : TreeOf N) → j ≢ k → nth (with_nth ts k u) j ≡ nth ts j
  nth-with_nth_other no_trees j k u apart = refl
  nth-with_nth_other (more_trees t ts) zero zero u apart = absurd (apart refl)
  nth-with_nth_other (more_trees t ts) zero (suc k) u apart = refl
  nth-with_nth_other (more_trees t ts) (suc j) zero u apart = refl
  nth-with_nth_other (more_trees t ts) (suc j) (suc k) u apart = nth-with_nth_other ts j k u (λ e. apart (ap suc e))

  -- the last tree that was put at a number counts
  pub with_nth-with_nth : (ts : TreesOf N) (k : ℕ) (u v : TreeOf N) → with_nth (with_nth ts k u) k v ≡ with_nth ts k v
  with_nth-with_nth no_trees k u v = refl
  with_nth-with_nth (more_trees t ts) zero u v = refl
  with_nth-with_nth (more_trees t ts) (suc k) u v = ap (more_trees t) (with_nth-with_nth ts k u v)

  -- the tree that is there is put there
  pub with_nth-nth : (ts : TreesOf N) (k : ℕ) (c : TreeOf N) → nth ts k ≡ Some c → with_nth ts k c ≡ ts
  with_nth-nth no_trees k c e = refl
  with_nth-nth (more_trees t ts) zero c e = let same : t ≡ c = cc in ap (λ (u : TreeOf N). more_trees u ts) (sym same)
  with_nth-nth (more_trees t ts) (suc k) c e = ap (more_trees t) (with_nth-nth ts k c e)

  -- as many trees as before
  pub count-with_nth : (ts : TreesOf N) (k : ℕ) (u : TreeOf N) → count (with_nth ts k u) ≡ count ts
  count-with_nth no_trees k u = refl
  count-with_nth (more_trees t ts) zero u = refl
  count-with_nth (more_trees t ts) (suc k) u = ap (λ n. n + 1) (count-with_nth ts k u)

  -- a number among the first trees
  pub with_nth-append_left : (ts us : TreesOf N) (k : ℕ) (u : TreeOf N) → k < count ts → with_nth (append ts us) k u ≡ append (with_nth ts k u) us
  with_nth-append_left no_trees us k u h = absurd (omega arith)
  with_nth-append_left (more_trees t ts) us zero u h = refl
  with_nth-append_left (more_trees t ts) us (suc k) u h = ap (more_trees t) (with_nth-append_left ts us k u (omega arith))

  -- a number among the other trees
  pub with_nth-append_right : (ts us : TreesOf N) (k j : ℕ) (u : TreeOf N) → k ≡ count ts + j → with_nth (append ts us) k u ≡ append ts (with_nth us j u)
  with_nth-append_right no_trees us k j u h = let e : k ≡ j = omega arith in ap (λ n. with_nth us n u) e
  with_nth-append_right (more_trees t ts) us zero j u h = absurd (omega arith)
  with_nth-append_right (more_trees t ts) us (suc k) j u h = ap (more_trees t) (with_nth-append_right ts us k j u (omega arith))

  -- the tree of a number among the first trees
  pub nth-append_left : (ts us : TreesOf N) (k : ℕ) → k < count ts → nth (append ts us) k ≡ nth ts k
  nth-append_left no_trees us k h = absurd (omega arith)
  nth-append_left (more_trees t ts) us zero h = refl
  nth-append_left (more_trees t ts) us (suc k) h = nth-append_left ts us k (omega arith)

  -- the tree of a number among the other trees
  pub nth-append_right : (ts us : TreesOf N) (k j : ℕ) → k ≡ count ts + j → nth (append ts us) k ≡ nth us j
  nth-append_right no_trees us k j h = let e : k ≡ j = omega arith in ap (nth us) e
  nth-append_right (more_trees t ts) us zero j h = absurd (omega arith)
  nth-append_right (more_trees t ts) us (suc k) j h = nth-append_right ts us k j (omega arith)

  -- how many trees are in both
  pub count-append : (ts us : TreesOf N) → count (append ts us) ≡ count ts + count us
  count-append no_trees us = omega arith
  count-append (more_trees t ts) us = omega (arith, count-append ts us)

  -- the nodes of the statements after the change
  pub statement_trees-with_statement : (ss : StatementsOf N) (k : ℕ) (u : TreeOf N) → statement_trees (with_statement ss k u) ≡ with_nth (statement_trees ss) k u
  statement_trees-with_statement no_statements k u = refl
  statement_trees-with_statement (more_statements c t ss) zero u = refl
  statement_trees-with_statement (more_statements c t ss) (suc k) u = ap (more_trees t) (statement_trees-with_statement ss k u)

  -- the last node that was put at a statement counts
  pub with_statement-with_statement : (ss : StatementsOf N) (k : ℕ) (u v : TreeOf N) → with_statement (with_statement ss k u) k v ≡ with_statement ss k v
  with_statement-with_statement no_statements k u v = refl
  with_statement-with_statement (more_statements c t ss) zero u v = refl
  with_statement-with_statement (more_statements c t ss) (suc k) u v = ap (more_statements c t) (with_statement-with_statement ss k u v)

  -- the node that is there is put there
  pub with_statement-nth : (ss : StatementsOf N) (k : ℕ) (c : TreeOf N) → nth (statement_trees ss) k ≡ Some c → with_statement ss k c ≡ ss
  with_statement-nth no_statements k c e = refl
  with_statement-nth (more_statements n t ss) zero c e = let same : t ≡ c = cc in ap (λ (u : TreeOf N). more_statements n u ss) (sym same)
  with_statement-nth (more_statements n t ss) (suc k) c e = ap (more_statements n t) (with_statement-nth ss k c e)

  -- the arguments after the change
  pub all_arguments-with_argument : (ms : MessagesOf N) (k : ℕ) (u : TreeOf N) → all_arguments (with_argument ms k u) ≡ with_nth (all_arguments ms) k u
  all_arguments-with_argument no_messages k u = refl
  all_arguments-with_argument (more_messages s args ms) k u =
      elim (cases_lt k (count args)) [
        | inl h ↦ rw (lt-ltb k (count args) h) (sym (with_nth-append_left args (all_arguments ms) k u h))
        | inr h ↦
            rw (le-ltb k (count args) h)
            (ap (append args) (all_arguments-with_argument ms (k - count args) u) ∙ sym (with_nth-append_right args (all_arguments ms) k (k - count args) u (omega arith)))
      ]

  -- the last tree that was put at an argument counts
  pub with_argument-with_argument : (ms : MessagesOf N) (k : ℕ) (u v : TreeOf N) → with_argument (with_argument ms k u) k v ≡ with_argument ms k v
  with_argument-with_argument no_messages k u v = refl
  with_argument-with_argument (more_messages s args ms) k u v =
      elim (cases_lt k (count args)) [
        | inl h ↦
            rw (lt-ltb k (count args) h, count-with_nth args k u, lt-ltb k (count args) h) (ap (λ (ts : TreesOf N). more_messages s ts ms) (with_nth-with_nth args k u v))
        | inr h ↦
            rw (le-ltb k (count args) h, le-ltb k (count args) h) (ap (more_messages s args) (with_argument-with_argument ms (k - count args) u v))
      ]

  -- the argument that is there is put there
  pub with_argument-nth : (ms : MessagesOf N) (k : ℕ) (c : TreeOf N) → nth (all_arguments ms) k ≡ Some c → with_argument ms k c ≡ ms
  with_argument-nth no_messages k c e = refl
  with_argument-nth (more_messages s args ms) k c e =
      elim (cases_lt k (count args)) [
        | inl h ↦
            rw (lt-ltb k (count args) h)
            (ap (λ (ts : TreesOf N). more_messages s ts ms) (with_nth-nth args k c (sym (nth-append_left args (all_arguments ms) k h) ∙ e)))
        | inr h ↦
            rw (le-ltb k (count args) h)
            (ap (more_messages s args) (with_argument-nth ms (k - count args) c (sym (nth-append_right args (all_arguments ms) k (k - count args) (omega arith)) ∙ e)))
      ]

  -- the nodes right below a node after the change
  pub children-with_child : (t : TreeOf N) (k : ℕ) (u : TreeOf N) → children (with_child t k u) ≡ with_nth (children t) k u
  children-with_child (var n) k u = refl
  children-with_child (literal l) k u = refl
  children-with_child (send r s args) zero u = refl
  children-with_child (send r s args) (suc k) u = refl
  children-with_child (cascade r ms) zero u = refl
  children-with_child (cascade r ms) (suc k) u = ap (more_trees r) (all_arguments-with_argument ms k u)
  children-with_child (assign n t) zero u = refl
  children-with_child (assign n t) (suc k) u = refl
  children-with_child (block ps ts ss e) k u = statement_trees-with_statement ss k u
  children-with_child (brace ts) k u = refl
  children-with_child (return t) zero u = refl
  children-with_child (return t) (suc k) u = refl

  -- a node is put one step below and found there
  pub child-with_child : (t : TreeOf N) (k : ℕ) (c u : TreeOf N) → child t k ≡ Some c → child (with_child t k u) k ≡ Some u
  child-with_child t k c u e = ap (λ (ts : TreesOf N). nth ts k) (children-with_child t k u) ∙ nth-with_nth (children t) k c u e

  -- the other steps lead to what they led to
  pub child-with_child_other : (t : TreeOf N) (j k : ℕ) (u : TreeOf N) → j ≢ k → child (with_child t k u) j ≡ child t j
  child-with_child_other t j k u apart = ap (λ (ts : TreesOf N). nth ts j) (children-with_child t k u) ∙ nth-with_nth_other (children t) j k u apart

  -- the last node that was put one step below counts
  pub with_child-with_child : (t : TreeOf N) (k : ℕ) (u v : TreeOf N) → with_child (with_child t k u) k v ≡ with_child t k v
  with_child-with_child (var n) k u v = refl
  with_child-with_child (literal l) k u v = refl
  with_child-with_child (send r s args) zero u v = refl
  with_child-with_child (send r s args) (suc k) u v = ap (send r s) (with_nth-with_nth args k u v)
  with_child-with_child (cascade r ms) zero u v = refl
  with_child-with_child (cascade r ms) (suc k) u v = ap (cascade r) (with_argument-with_argument ms k u v)
  with_child-with_child (assign n t) zero u v = refl
  with_child-with_child (assign n t) (suc k) u v = refl
  with_child-with_child (block ps ts ss e) k u v = ap (λ (us : StatementsOf N). block ps ts us e) (with_statement-with_statement ss k u v)
  with_child-with_child (brace ts) k u v = ap brace (with_nth-with_nth ts k u v)
  with_child-with_child (return t) zero u v = refl
  with_child-with_child (return t) (suc k) u v = refl

  -- the node that is there is put there
  pub with_child-child : (t : TreeOf N) (k : ℕ) (c : TreeOf N) → child t k ≡ Some c → with_child t k c ≡ t
  with_child-child (var n) k c e = refl
  with_child-child (literal l) k c e = refl
  with_child-child (send r s args) zero c e = let same : r ≡ c = cc in ap (λ (u : TreeOf N). send u s args) (sym same)
  with_child-child (send r s args) (suc k) c e = ap (send r s) (with_nth-nth args k c e)
  with_child-child (cascade r ms) zero c e = let same : r ≡ c = cc in ap (λ (u : TreeOf N). cascade u ms) (sym same)
  with_child-child (cascade r ms) (suc k) c e = ap (cascade r) (with_argument-nth ms k c e)
  with_child-child (assign n t) zero c e = let same : t ≡ c = cc in ap (assign n) (sym same)
  with_child-child (assign n t) (suc k) c e = refl
  with_child-child (block ps ts ss e) k c found = ap (λ (us : StatementsOf N). block ps ts us e) (with_statement-nth ss k c found)
  with_child-child (brace ts) k c e = ap brace (with_nth-nth ts k c e)
  with_child-child (return t) zero c e = let same : t ≡ c = cc in ap return (sym same)
  with_child-child (return t) (suc k) c e = refl

-- with the names changed
module _ {M N : Type 0} (f : M → N) where
  -- the tree of a number
  pub nth-map_trees : (ts : TreesOf M) (k : ℕ) → nth (map_trees f ts) k ≡ option_map (map_names f) (nth ts k)
  nth-map_trees no_trees k = refl
  nth-map_trees (more_trees t ts) zero = refl
  nth-map_trees (more_trees t ts) (suc k) = nth-map_trees ts k

  -- how many trees there are
  pub count-map_trees : (ts : TreesOf M) → count (map_trees f ts) ≡ count ts
  count-map_trees no_trees = refl
  count-map_trees (more_trees t ts) = ap (λ n. n + 1) (count-map_trees ts)

  -- the trees of both
  pub append-map_trees : (ts us : TreesOf M) → append (map_trees f ts) (map_trees f us) ≡ map_trees f (append ts us)
  append-map_trees no_trees us = refl
  append-map_trees (more_trees t ts) us = ap (more_trees (map_names f t)) (append-map_trees ts us)

  -- the arguments of all messages
  pub all_arguments-map_messages : (ms : MessagesOf M) → all_arguments (map_messages f ms) ≡ map_trees f (all_arguments ms)
  all_arguments-map_messages no_messages = refl
  all_arguments-map_messages (more_messages s args ms) = ap (append (map_trees f args)) (all_arguments-map_messages ms) ∙ append-map_trees args (all_arguments ms)

  -- the nodes of the statements
  pub statement_trees-map_statements : (ss : StatementsOf M) → statement_trees (map_statements f ss) ≡ map_trees f (statement_trees ss)
  statement_trees-map_statements no_statements = refl
  statement_trees-map_statements (more_statements c t ss) = ap (more_trees (map_names f t)) (statement_trees-map_statements ss)

  -- the nodes right below a node
  pub children-map_names : (t : TreeOf M) → children (map_names f t) ≡ map_trees f (children t)
  children-map_names (var n) = refl
  children-map_names (literal l) = refl
  children-map_names (send r s args) = refl
  children-map_names (cascade r ms) = ap (more_trees (map_names f r)) (all_arguments-map_messages ms)
  children-map_names (assign n t) = refl
  children-map_names (block ps ts ss e) = statement_trees-map_statements ss
  children-map_names (brace ts) = refl
  children-map_names (return t) = refl

  -- where one step leads
  pub child-map_names : (t : TreeOf M) (k : ℕ) → child (map_names f t) k ≡ option_map (map_names f) (child t k)
  child-map_names t k = ap (λ (ts : TreesOf N). nth ts k) (children-map_names t) ∙ nth-map_trees (children t) k

  -- a tree put at a number
  pub with_nth-map_trees : (ts : TreesOf M) (k : ℕ) (u : TreeOf M) → with_nth (map_trees f ts) k (map_names f u) ≡ map_trees f (with_nth ts k u)
  with_nth-map_trees no_trees k u = refl
  with_nth-map_trees (more_trees t ts) zero u = refl
  with_nth-map_trees (more_trees t ts) (suc k) u = ap (more_trees (map_names f t)) (with_nth-map_trees ts k u)

  -- a node put at a statement
  pub with_statement-map_statements : (ss : StatementsOf M) (k : ℕ) (u : TreeOf M) → with_statement (map_statements f ss) k (map_names f u) ≡ map_statements f (with_statement ss k u)
  with_statement-map_statements no_statements k u = refl
  with_statement-map_statements (more_statements c t ss) zero u = refl
  with_statement-map_statements (more_statements c t ss) (suc k) u = ap (more_statements c (map_names f t)) (with_statement-map_statements ss k u)

  -- a tree put at an argument
  pub with_argument-map_messages : (ms : MessagesOf M) (k : ℕ) (u : TreeOf M) → with_argument (map_messages f ms) k (map_names f u) ≡ map_messages f (with_argument ms k u)
  with_argument-map_messages no_messages k u = refl
  with_argument-map_messages (more_messages s args ms) k u =
      elim (cases_lt k (count args)) [
        | inl h ↦
            rw (count-map_trees args, lt-ltb k (count args) h)
            (ap (λ (ts : TreesOf N). more_messages (f s) ts (map_messages f ms)) (with_nth-map_trees args k u))
        | inr h ↦
            rw (count-map_trees args, le-ltb k (count args) h)
            (ap (more_messages (f s) (map_trees f args)) (with_argument-map_messages ms (k - count args) u))
      ]

  -- a node put one step below
  pub with_child-map_names : (t : TreeOf M) (k : ℕ) (u : TreeOf M) → with_child (map_names f t) k (map_names f u) ≡ map_names f (with_child t k u)
  with_child-map_names (var n) k u = refl
  with_child-map_names (literal l) k u = refl
  with_child-map_names (send r s args) zero u = refl
  with_child-map_names (send r s args) (suc k) u = ap (send (map_names f r) (f s)) (with_nth-map_trees args k u)
  with_child-map_names (cascade r ms) zero u = refl
  with_child-map_names (cascade r ms) (suc k) u = ap (cascade (map_names f r)) (with_argument-map_messages ms k u)
  with_child-map_names (assign n t) zero u = refl
  with_child-map_names (assign n t) (suc k) u = refl
  with_child-map_names (block ps ts ss e) k u = ap (λ (us : StatementsOf N). block (map f ps) (map f ts) us e) (with_statement-map_statements ss k u)
  with_child-map_names (brace ts) k u = ap brace (with_nth-map_trees ts k u)
  with_child-map_names (return t) zero u = refl
  with_child-map_names (return t) (suc k) u = refl
