-- A name that stands in place of a part, and the part again.
use Rattle.std.proofs.Common.{◌≡◌, ℕ, zero, suc, ◌+◌, ◌-◌, List, [], ◌∷◌, Option, Some, None, option_and_then, option_map, refl, ap, sym, ◌∙◌, inl, inr, subst, arith}
use Rattle.std.specs.Prelude.{unwrap_or}
use Rattle.std.proofs.lemmas.Bool.{lt-ltb, le-ltb, cases_lt}
use Rattle.tree_model.specs.Tree.{TreeOf, var, literal, send, cascade, assign, block, brace, return, TreesOf, no_trees, more_trees, MessagesOf, no_messages, more_messages, StatementsOf, no_statements, more_statements}
use Rattle.tree_model.specs.Path.{append, count, nth, all_arguments, statement_trees, children, child, part_at, with_nth, with_statement, with_argument, with_child, replaced}
use Rattle.tree_model.proofs.Children.{nth-append_left, nth-append_right}
use Rattle.command_model.specs.Walk.{Making, onward, rebuilt, rebuilt_trees, rebuilt_messages, rebuilt_statements}
use Rattle.code_command_laws.specs.Unread.{IsUnread, AreUnread, IsUnreadInMessages, IsUnreadInStatements, ChangesReadsOf}

-- what does not read the name stays
mutual
  pub rebuilt-unread : {N : Type 0} (x : N) (f : Making N) → ChangesReadsOf x f → (t : TreeOf N) → IsUnread x t → rebuilt f t ≡ t
  rebuilt-unread x f e (var n) u = e [] (var n) u
  rebuilt-unread x f e (literal l) u = e [] (literal l) tt
  rebuilt-unread x f e (send r s args) u =
      e [] (send (rebuilt (onward 0 f) r) s (rebuilt_trees f 1 args)) tt
      ∙ (λ i. send (rebuilt-unread x (onward 0 f) (λ path t. e (0 ∷ path) t) r u.0 i) s (rebuilt_trees-unread x f e 1 args u.1 i))
  rebuilt-unread x f e (cascade r ms) u =
      e [] (cascade (rebuilt (onward 0 f) r) (rebuilt_messages f 1 ms)) tt
      ∙ (λ i. cascade (rebuilt-unread x (onward 0 f) (λ path t. e (0 ∷ path) t) r u.0 i) (rebuilt_messages-unread x f e 1 ms u.1 i))
  rebuilt-unread x f e (assign n t) u =
      e [] (assign n (rebuilt (onward 0 f) t)) tt ∙ (λ i. assign n (rebuilt-unread x (onward 0 f) (λ path v. e (0 ∷ path) v) t u i))
  rebuilt-unread x f e (block ps ts ss tail) u =
      e [] (block ps ts (rebuilt_statements f 0 ss) tail) tt ∙ (λ i. block ps ts (rebuilt_statements-unread x f e 0 ss u i) tail)
  rebuilt-unread x f e (brace ts) u = e [] (brace (rebuilt_trees f 0 ts)) tt ∙ (λ i. brace (rebuilt_trees-unread x f e 0 ts u i))
  rebuilt-unread x f e (return t) u =
      e [] (return (rebuilt (onward 0 f) t)) tt ∙ (λ i. return (rebuilt-unread x (onward 0 f) (λ path v. e (0 ∷ path) v) t u i))

  rebuilt_trees-unread : {N : Type 0} (x : N) (f : Making N) → ChangesReadsOf x f → (k : ℕ) (ts : TreesOf N) → AreUnread x ts → rebuilt_trees f k ts ≡ ts
  rebuilt_trees-unread x f e k no_trees u = refl
  rebuilt_trees-unread x f e k (more_trees t ts) u =
      λ i. more_trees (rebuilt-unread x (onward k f) (λ path v. e (k ∷ path) v) t u.0 i) (rebuilt_trees-unread x f e (suc k) ts u.1 i)

  rebuilt_messages-unread : {N : Type 0} (x : N) (f : Making N) → ChangesReadsOf x f → (k : ℕ) (ms : MessagesOf N) → IsUnreadInMessages x ms → rebuilt_messages f k ms ≡ ms
  rebuilt_messages-unread x f e k no_messages u = refl
  rebuilt_messages-unread x f e k (more_messages s args ms) u =
      λ i. more_messages s (rebuilt_trees-unread x f e k args u.0 i) (rebuilt_messages-unread x f e (k + count args) ms u.1 i)

  rebuilt_statements-unread : {N : Type 0} (x : N) (f : Making N) → ChangesReadsOf x f → (k : ℕ) (ss : StatementsOf N) → IsUnreadInStatements x ss → rebuilt_statements f k ss ≡ ss
  rebuilt_statements-unread x f e k no_statements u = refl
  rebuilt_statements-unread x f e k (more_statements c t ss) u =
      λ i. more_statements c (rebuilt-unread x (onward k f) (λ path v. e (k ∷ path) v) t u.0 i) (rebuilt_statements-unread x f e (suc k) ss u.1 i)

module _ {N : Type 0} (x : N) (f : Making N) (e : ChangesReadsOf x f) (c v : TreeOf N) where
  -- the other trees stay, where what is put at one number becomes the tree that was there
  trees-refilled : (b j m : ℕ) (ts : TreesOf N) → m ≡ b + j → AreUnread x ts → nth ts j ≡ Some c → rebuilt (onward m f) v ≡ c → rebuilt_trees f b (with_nth ts j v) ≡ ts
  trees-refilled b j m no_trees at u there back = cc
  trees-refilled b zero m (more_trees t ts) at u there back =
      let here : b ≡ m = omega (arith, at) in
      let same : c ≡ t = cc in
      λ i. more_trees ((ap (λ k. rebuilt (onward k f) v) here ∙ back ∙ same) i) (rebuilt_trees-unread x f e (suc b) ts u.1 i)
  trees-refilled b (suc j) m (more_trees t ts) at u there back =
      λ i. more_trees (rebuilt-unread x (onward b f) (λ path w. e (b ∷ path) w) t u.0 i) (trees-refilled (suc b) j m ts (omega (arith, at)) u.1 there back i)

  -- statements
  statements-refilled : (b j m : ℕ) (ss : StatementsOf N) → m ≡ b + j → IsUnreadInStatements x ss → nth (statement_trees ss) j ≡ Some c → rebuilt (onward m f) v ≡ c
      → rebuilt_statements f b (with_statement ss j v) ≡ ss
  statements-refilled b j m no_statements at u there back = cc
  statements-refilled b zero m (more_statements d t ss) at u there back =
      let here : b ≡ m = omega (arith, at) in
      let same : c ≡ t = cc in
      λ i. more_statements d ((ap (λ k. rebuilt (onward k f) v) here ∙ back ∙ same) i) (rebuilt_statements-unread x f e (suc b) ss u.1 i)
  statements-refilled b (suc j) m (more_statements d t ss) at u there back =
      λ i. more_statements d (rebuilt-unread x (onward b f) (λ path w. e (b ∷ path) w) t u.0 i) (statements-refilled (suc b) j m ss (omega (arith, at)) u.1 there back i)

  -- arguments of messages
  messages-refilled : (b j m : ℕ) (ms : MessagesOf N) → m ≡ b + j → IsUnreadInMessages x ms → nth (all_arguments ms) j ≡ Some c → rebuilt (onward m f) v ≡ c
      → rebuilt_messages f b (with_argument ms j v) ≡ ms
  messages-refilled b j m no_messages at u there back = cc
  messages-refilled b j m (more_messages s args ms) at u there back =
      elim (cases_lt j (count args)) [
        | inl h ↦
            rw (lt-ltb j (count args) h)
            (λ i. more_messages s (trees-refilled b j m args at u.0 (sym (nth-append_left args (all_arguments ms) j h) ∙ there) back i)
            (rebuilt_messages-unread x f e (b + count (with_nth args j v)) ms u.1 i))
        | inr h ↦
            rw (le-ltb j (count args) h)
            (λ i. more_messages s (rebuilt_trees-unread x f e b args u.0 i)
            (messages-refilled (b + count args) (j - count args) m ms (omega (arith, at)) u.1
            (sym (nth-append_right args (all_arguments ms) j (j - count args) (omega arith)) ∙ there) back i))
      ]

  -- a node, where what is put at one step becomes the node that was there
  node-refilled : (t : TreeOf N) (k : ℕ) → child t k ≡ Some c → IsUnread x t → rebuilt (onward k f) v ≡ c → rebuilt f (with_child t k v) ≡ t
  node-refilled (var n) k there u back = cc
  node-refilled (literal l) k there u back = cc
  node-refilled (send r s args) zero there u back =
      let same : c ≡ r = cc in
      e [] (send (rebuilt (onward 0 f) v) s (rebuilt_trees f 1 args)) tt ∙ (λ i. send ((back ∙ same) i) s (rebuilt_trees-unread x f e 1 args u.1 i))
  node-refilled (send r s args) (suc j) there u back =
      e [] (send (rebuilt (onward 0 f) r) s (rebuilt_trees f 1 (with_nth args j v))) tt
      ∙ (λ i. send (rebuilt-unread x (onward 0 f) (λ path w. e (0 ∷ path) w) r u.0 i) s (trees-refilled 1 j (suc j) args (omega arith) u.1 there back i))
  node-refilled (cascade r ms) zero there u back =
      let same : c ≡ r = cc in
      e [] (cascade (rebuilt (onward 0 f) v) (rebuilt_messages f 1 ms)) tt ∙ (λ i. cascade ((back ∙ same) i) (rebuilt_messages-unread x f e 1 ms u.1 i))
  node-refilled (cascade r ms) (suc j) there u back =
      e [] (cascade (rebuilt (onward 0 f) r) (rebuilt_messages f 1 (with_argument ms j v))) tt
      ∙ (λ i. cascade (rebuilt-unread x (onward 0 f) (λ path w. e (0 ∷ path) w) r u.0 i) (messages-refilled 1 j (suc j) ms (omega arith) u.1 there back i))
  node-refilled (assign n t) zero there u back =
      let same : c ≡ t = cc in e [] (assign n (rebuilt (onward 0 f) v)) tt ∙ (λ i. assign n ((back ∙ same) i))
  node-refilled (assign n t) (suc j) there u back = cc
  node-refilled (block ps ts ss tail) k there u back =
      e [] (block ps ts (rebuilt_statements f 0 (with_statement ss k v)) tail) tt ∙ (λ i. block ps ts (statements-refilled 0 k k ss (omega arith) u there back i) tail)
  node-refilled (brace ts) k there u back =
      e [] (brace (rebuilt_trees f 0 (with_nth ts k v))) tt ∙ (λ i. brace (trees-refilled 0 k k ts (omega arith) u there back i))
  node-refilled (return t) zero there u back =
      let same : c ≡ t = cc in e [] (return (rebuilt (onward 0 f) v)) tt ∙ (λ i. return ((back ∙ same) i))
  node-refilled (return t) (suc j) there u back = cc

module _ {N : Type 0} (x : N) where
  -- of trees in order, of the arguments of messages, of statements
  unread-append : (ts us : TreesOf N) → AreUnread x ts → AreUnread x us → AreUnread x (append ts us)
  unread-append no_trees us a b = b
  unread-append (more_trees t ts) us a b = (a.0, unread-append ts us a.1 b)

  unread-arguments : (ms : MessagesOf N) → IsUnreadInMessages x ms → AreUnread x (all_arguments ms)
  unread-arguments no_messages u = tt
  unread-arguments (more_messages s args ms) u = unread-append args (all_arguments ms) u.0 (unread-arguments ms u.1)

  unread-statements : (ss : StatementsOf N) → IsUnreadInStatements x ss → AreUnread x (statement_trees ss)
  unread-statements no_statements u = tt
  unread-statements (more_statements c t ss) u = (u.0, unread-statements ss u.1)

  unread-children : (t : TreeOf N) → IsUnread x t → AreUnread x (children t)
  unread-children (var n) u = tt
  unread-children (literal l) u = tt
  unread-children (send r s args) u = (u.0, u.1)
  unread-children (cascade r ms) u = (u.0, unread-arguments ms u.1)
  unread-children (assign n t) u = (u, tt)
  unread-children (block ps ts ss tail) u = unread-statements ss u
  unread-children (brace ts) u = u
  unread-children (return t) u = (u, tt)

  unread-nth : (ts : TreesOf N) (k : ℕ) (c : TreeOf N) → AreUnread x ts → nth ts k ≡ Some c → IsUnread x c
  unread-nth no_trees k c u there = cc
  unread-nth (more_trees t ts) zero c u there = let same : t ≡ c = cc in subst (IsUnread x) same u.0
  unread-nth (more_trees t ts) (suc k) c u there = unread-nth ts k c u.1 there

  -- where the name stands in place of a part, and becomes that part, the tree is as it was
  pub refilled : (t : TreeOf N) (path : List ℕ) (part : TreeOf N) (f : Making N) → ChangesReadsOf x f → f path (var x) ≡ part → part_at t path ≡ Some part → IsUnread x t
      → rebuilt f (replaced t path (var x)) ≡ t
  refilled t [] part f e fills there u = let same : part ≡ t = cc in fills ∙ same
  refilled t (k ∷ ks) part f e fills there u =
      by (child t k) refl there (λ c. refilled c ks part (onward k f) (λ path w. e (k ∷ path) w) fills)
    where
      by : (o : Option (TreeOf N)) → child t k ≡ o → option_and_then (λ c. part_at c ks) o ≡ Some part
          → ((c : TreeOf N) → part_at c ks ≡ Some part → IsUnread x c → rebuilt (onward k f) (replaced c ks (var x)) ≡ c) → rebuilt f (replaced t (k ∷ ks) (var x)) ≡ t
      by None found at later = cc
      by (Some c) found at later =
          ap (λ (o : Option (TreeOf N)). rebuilt f (unwrap_or (option_map (λ d. with_child t k (replaced d ks (var x))) o) t)) found
          ∙ node-refilled x f e c (replaced c ks (var x)) t k found u (later c at (unread-nth (children t) k c (unread-children t u) found))
