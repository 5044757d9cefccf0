-- A walk that changes names in one block alone makes that block anew.
use Rattle.std.proofs.Common.{◌≡◌, ◌<◌, ℕ, zero, suc, ◌+◌, ◌-◌, List, [], ◌∷◌, ◌++◌, Bool, Option, Some, None, option_and_then, option_map, refl, sym, ap, ◌∙◌, arith, ◌≤◌, ◌⊎◌, inl, inr}
use Rattle.std.specs.Prelude.{unwrap_or, if◌then◌else◌}
use Rattle.std.proofs.lemmas.Bool.{lt-ltb, le-ltb, cases_lt}
use Rattle.tree_model.specs.Tree.{TreeOf, var, literal, send, cascade, assign, block, brace, return, TreesOf, no_trees, more_trees, MessagesOf, no_messages, more_messages, StatementsOf, no_statements, more_statements, SequenceOf}
use Rattle.tree_model.specs.Path.{append, count, nth, all_arguments, statement_trees, children, child, part_at, with_nth, with_statement, with_argument, with_child, replaced}
use Rattle.tree_model.proofs.Children.{nth-append_left, nth-append_right}
use Rattle.command_model.specs.Walk.{Making, onward, rebuilt, rebuilt_trees, rebuilt_messages, rebuilt_statements}
use Rattle.code_command_laws.specs.Round.{InBlock, this_block, block_below}
use Rattle.code_command_laws.proofs.PartRound.{block_with}

less-one : (i j : ℕ) → suc i ≡ suc j → i ≡ j
less-one i j e = omega (arith, e)

no-zero : (j : ℕ) → suc j ≡ 0 → ⊥
no-zero j e = omega (arith, e)

module _ {N : Type 0} where
  -- a node that is no name
  abbrev IsNoName : TreeOf N → Type 0
  IsNoName (var n) = ⊥
  IsNoName (literal l) = Unit {0}
  IsNoName (send r s args) = Unit {0}
  IsNoName (cascade r ms) = Unit {0}
  IsNoName (assign n t) = Unit {0}
  IsNoName (block ps ts ss e) = Unit {0}
  IsNoName (brace ts) = Unit {0}
  IsNoName (return t) = Unit {0}

  -- a walk that changes names alone
  abbrev pub ChangesNames : Making N → Type 0
  ChangesNames f = (path : List ℕ) (t : TreeOf N) → IsNoName t → f path t ≡ t

  -- the names below a node stay, and those below trees to which the steps from k on lead
  abbrev pub StayBelow : Making N → TreeOf N → Type 0
  StayBelow f t = (path : List ℕ) (n : N) → part_at t path ≡ Some (var n) → f path (var n) ≡ var n

  abbrev StayAmong : Making N → ℕ → TreesOf N → Type 0
  StayAmong f k ts = (j m : ℕ) (path : List ℕ) (n : N) → m ≡ k + j → option_and_then (λ c. part_at c path) (nth ts j) ≡ Some (var n) → f (m ∷ path) (var n) ≡ var n

  stay-children : (f : Making N) (t : TreeOf N) → StayBelow f t → StayAmong f 0 (children t)
  stay-children f t h j m path n e q = let here : m ≡ j = omega (arith, e) in ap (λ z. f (z ∷ path) (var n)) here ∙ h (j ∷ path) n q

  stay-first : (f : Making N) (k : ℕ) (t : TreeOf N) (ts : TreesOf N) → StayAmong f k (more_trees t ts) → StayBelow (onward k f) t
  stay-first f k t ts h path n q = h 0 k path n (omega arith) q

  stay-others : (f : Making N) (k : ℕ) (t : TreeOf N) (ts : TreesOf N) → StayAmong f k (more_trees t ts) → StayAmong f (suc k) ts
  stay-others f k t ts h j m path n e q = h (suc j) m path n (omega (arith, e)) q

  left-there : (ts us : TreesOf N) (j : ℕ) (c : TreeOf N) → nth ts j ≡ Some c → nth (append ts us) j ≡ Some c
  left-there no_trees us j c e = absurd (cc)
  left-there (more_trees t ts) us zero c e = e
  left-there (more_trees t ts) us (suc j) c e = left-there ts us j c e

  stay-left : (f : Making N) (k : ℕ) (ts us : TreesOf N) → StayAmong f k (append ts us) → StayAmong f k ts
  stay-left f k ts us h j m path n e q = by (nth ts j) refl q
    where
      by : (o : Option (TreeOf N)) → nth ts j ≡ o → option_and_then (λ c. part_at c path) o ≡ Some (var n) → f (m ∷ path) (var n) ≡ var n
      by None r q = absurd (cc)
      by (Some c) r q = h j m path n e (ap (option_and_then (λ z. part_at z path)) (left-there ts us j c r) ∙ q)

  stay-right : (f : Making N) (k : ℕ) (ts us : TreesOf N) → StayAmong f k (append ts us) → StayAmong f (k + count ts) us
  stay-right f k ts us h j m path n e q = h (count ts + j) m path n (omega (arith, e)) (ap (option_and_then (λ z. part_at z path)) (nth-append_right ts us (count ts + j) j refl) ∙ q)

  -- code whose names stay is made as it was
  mutual
    pub tree-stays : (f : Making N) → ChangesNames f → (t : TreeOf N) → StayBelow f t → rebuilt f t ≡ t
    tree-stays f c (var n) h = h [] n refl
    tree-stays f c (literal l) h = c [] (literal l) tt
    tree-stays f c (send r s args) h =
        let k = stay-children f (send r s args) h in
        c [] (send (rebuilt (onward 0 f) r) s (rebuilt_trees f 1 args)) tt ∙ (λ i. send (tree-stays (onward 0 f) (λ path t. c (0 ∷ path) t) r (stay-first f 0 r args k) i) s (trees-stay f c 1 args (stay-others f 0 r args k) i))
    tree-stays f c (cascade r ms) h =
        let k = stay-children f (cascade r ms) h in
        c [] (cascade (rebuilt (onward 0 f) r) (rebuilt_messages f 1 ms)) tt ∙ (λ i. cascade (tree-stays (onward 0 f) (λ path t. c (0 ∷ path) t) r (stay-first f 0 r (all_arguments ms) k) i) (messages-stay f c 1 ms (stay-others f 0 r (all_arguments ms) k) i))
    tree-stays f c (assign n t) h = c [] (assign n (rebuilt (onward 0 f) t)) tt ∙ ap (assign n) (tree-stays (onward 0 f) (λ path u. c (0 ∷ path) u) t (stay-first f 0 t no_trees (stay-children f (assign n t) h)))
    tree-stays f c (block ps ts ss e) h = c [] (block ps ts (rebuilt_statements f 0 ss) e) tt ∙ ap (λ z. block ps ts z e) (statements-stay f c 0 ss (stay-children f (block ps ts ss e) h))
    tree-stays f c (brace ts) h = c [] (brace (rebuilt_trees f 0 ts)) tt ∙ ap brace (trees-stay f c 0 ts (stay-children f (brace ts) h))
    tree-stays f c (return t) h = c [] (return (rebuilt (onward 0 f) t)) tt ∙ ap return (tree-stays (onward 0 f) (λ path u. c (0 ∷ path) u) t (stay-first f 0 t no_trees (stay-children f (return t) h)))

    trees-stay : (f : Making N) → ChangesNames f → (k : ℕ) (ts : TreesOf N) → StayAmong f k ts → rebuilt_trees f k ts ≡ ts
    trees-stay f c k no_trees h = refl
    trees-stay f c k (more_trees t ts) h = λ i. more_trees (tree-stays (onward k f) (λ path u. c (k ∷ path) u) t (stay-first f k t ts h) i) (trees-stay f c (suc k) ts (stay-others f k t ts h) i)

    messages-stay : (f : Making N) → ChangesNames f → (k : ℕ) (ms : MessagesOf N) → StayAmong f k (all_arguments ms) → rebuilt_messages f k ms ≡ ms
    messages-stay f c k no_messages h = refl
    messages-stay f c k (more_messages s args ms) h = λ i. more_messages s (trees-stay f c k args (stay-left f k args (all_arguments ms) h) i) (messages-stay f c (k + count args) ms (stay-right f k args (all_arguments ms) h) i)

    statements-stay : (f : Making N) → ChangesNames f → (k : ℕ) (ss : StatementsOf N) → StayAmong f k (statement_trees ss) → rebuilt_statements f k ss ≡ ss
    statements-stay f c k no_statements h = refl
    statements-stay f c k (more_statements n t ss) h = λ i. more_statements n (tree-stays (onward k f) (λ path u. c (k ∷ path) u) t (stay-first f k t (statement_trees ss) h) i) (statements-stay f c (suc k) ss (stay-others f k t (statement_trees ss) h) i)

  -- the names below the trees but the one of a number stay
  abbrev pub StayBut : Making N → ℕ → TreesOf N → ℕ → Type 0
  StayBut f k ts j = (i m : ℕ) (path : List ℕ) (n : N) → m ≡ k + i → (i ≡ j → ⊥) → option_and_then (λ c. part_at c path) (nth ts i) ≡ Some (var n) → f (m ∷ path) (var n) ≡ var n

  some-tree : {t c : TreeOf N} → Some t ≡ Some c → t ≡ c
  some-tree q = cc

  but-others : (f : Making N) (k : ℕ) (t : TreeOf N) (ts : TreesOf N) (j : ℕ) → StayBut f k (more_trees t ts) (suc j) → StayBut f (suc k) ts j
  but-others f k t ts j h i m path n e x q = h (suc i) m path n (omega (arith, e)) (λ z. x (less-one i j z)) q

  but-first : (f : Making N) (k : ℕ) (t : TreeOf N) (ts : TreesOf N) (j : ℕ) → StayBut f k (more_trees t ts) (suc j) → StayBelow (onward k f) t
  but-first f k t ts j h path n q = h 0 k path n (omega arith) (λ z. no-zero j (sym z)) q

  but-zero : (f : Making N) (k : ℕ) (t : TreeOf N) (ts : TreesOf N) → StayBut f k (more_trees t ts) 0 → StayAmong f (suc k) ts
  but-zero f k t ts h i m path n e q = h (suc i) m path n (omega (arith, e)) (λ z. no-zero i z) q

  trees-one : (f : Making N) → ChangesNames f → (k j m : ℕ) (ts : TreesOf N) (c u : TreeOf N) → m ≡ k + j → nth ts j ≡ Some c → rebuilt (onward m f) c ≡ u → StayBut f k ts j → rebuilt_trees f k ts ≡ with_nth ts j u
  trees-one f g k j m no_trees c u at e r h = absurd (cc)
  trees-one f g k zero m (more_trees t ts) c u at e r h =
      let here : k ≡ m = omega (arith, at) in
      λ i. more_trees ((ap (λ z. rebuilt (onward z f) t) here ∙ ap (rebuilt (onward m f)) (some-tree e) ∙ r) i) (trees-stay f g (suc k) ts (but-zero f k t ts h) i)
  trees-one f g k (suc j) m (more_trees t ts) c u at e r h =
      λ i. more_trees (tree-stays (onward k f) (λ path v. g (k ∷ path) v) t (but-first f k t ts j h) i) (trees-one f g (suc k) j m ts c u (omega (arith, at)) e r (but-others f k t ts j h) i)

  statements-one : (f : Making N) → ChangesNames f → (k j m : ℕ) (ss : StatementsOf N) (c u : TreeOf N) → m ≡ k + j → nth (statement_trees ss) j ≡ Some c → rebuilt (onward m f) c ≡ u → StayBut f k (statement_trees ss) j → rebuilt_statements f k ss ≡ with_statement ss j u
  statements-one f g k j m no_statements c u at e r h = absurd (cc)
  statements-one f g k zero m (more_statements d t ss) c u at e r h =
      let here : k ≡ m = omega (arith, at) in
      λ i. more_statements d ((ap (λ z. rebuilt (onward z f) t) here ∙ ap (rebuilt (onward m f)) (some-tree e) ∙ r) i) (statements-stay f g (suc k) ss (but-zero f k t (statement_trees ss) h) i)
  statements-one f g k (suc j) m (more_statements d t ss) c u at e r h =
      λ i. more_statements d (tree-stays (onward k f) (λ path v. g (k ∷ path) v) t (but-first f k t (statement_trees ss) j h) i) (statements-one f g (suc k) j m ss c u (omega (arith, at)) e r (but-others f k t (statement_trees ss) j h) i)

  but-left : (f : Making N) (k : ℕ) (ts us : TreesOf N) (j : ℕ) → StayBut f k (append ts us) j → StayBut f k ts j
  but-left f k ts us j h i m path n e x q = by (nth ts i) refl q
    where
      by : (o : Option (TreeOf N)) → nth ts i ≡ o → option_and_then (λ c. part_at c path) o ≡ Some (var n) → f (m ∷ path) (var n) ≡ var n
      by None r q = absurd (cc)
      by (Some c) r q = h i m path n e x (ap (option_and_then (λ z. part_at z path)) (left-there ts us i c r) ∙ q)

  but-right : (f : Making N) (k : ℕ) (ts us : TreesOf N) (j : ℕ) → j < count ts → StayBut f k (append ts us) j → StayAmong f (k + count ts) us
  but-right f k ts us j l h i m path n e q = h (count ts + i) m path n (omega (arith, e)) (λ z. apart (count ts) i j l z) (ap (option_and_then (λ z. part_at z path)) (nth-append_right ts us (count ts + i) i refl) ∙ q)
    where
      apart : (n i j : ℕ) → j < n → n + i ≡ j → ⊥
      apart n i j l z = omega (arith, l, z)

  but-far : (f : Making N) (k : ℕ) (ts us : TreesOf N) (j j' : ℕ) → j ≡ count ts + j' → StayBut f k (append ts us) j → StayBut f (k + count ts) us j'
  but-far f k ts us j j' at h i m path n e x q = h (count ts + i) m path n (omega (arith, e)) (λ z. x (same (count ts) i j j' at z)) (ap (option_and_then (λ z. part_at z path)) (nth-append_right ts us (count ts + i) i refl) ∙ q)
    where
      same : (n i j j' : ℕ) → j ≡ n + j' → n + i ≡ j → i ≡ j'
      same n i j j' a z = omega (arith, a, z)

  but-near : (f : Making N) (k : ℕ) (ts us : TreesOf N) (j : ℕ) → count ts ≤ j → StayBut f k (append ts us) j → StayAmong f k ts
  but-near f k ts us j l h i m path n e q = by (nth ts i) refl q
    where
      apart : (n i j : ℕ) → i < n → n ≤ j → i ≡ j → ⊥
      apart n i j l k z = omega (arith, l, k, z)

      within : (ts : TreesOf N) (i : ℕ) (c : TreeOf N) → nth ts i ≡ Some c → i < count ts
      within no_trees i c e = absurd (cc)
      within (more_trees t ts) zero c e = omega arith
      within (more_trees t ts) (suc i) c e = let g : i < count ts = within ts i c e in omega (arith, g)

      by : (o : Option (TreeOf N)) → nth ts i ≡ o → option_and_then (λ c. part_at c path) o ≡ Some (var n) → f (m ∷ path) (var n) ≡ var n
      by None r q = absurd (cc)
      by (Some c) r q = h i m path n e (λ z. apart (count ts) i j (within ts i c r) l z) (ap (option_and_then (λ z. part_at z path)) (left-there ts us i c r) ∙ q)

  messages-one : (f : Making N) → ChangesNames f → (k j m : ℕ) (ms : MessagesOf N) (c u : TreeOf N) → m ≡ k + j → nth (all_arguments ms) j ≡ Some c → rebuilt (onward m f) c ≡ u → StayBut f k (all_arguments ms) j → rebuilt_messages f k ms ≡ with_argument ms j u
  messages-one f g k j m no_messages c u at e r h = absurd (cc)
  messages-one f g k j m (more_messages s args ms) c u at e r h = by (cases_lt j (count args)) (messages-one f g (k + count args) (j - count args) m ms c u)
    where
      split : (n j : ℕ) → n ≤ j → j ≡ n + (j - n)
      split n j l = omega (arith, l)

      behind : (k n j m : ℕ) → n ≤ j → m ≡ k + j → m ≡ k + n + (j - n)
      behind k n j m l e = omega (arith, l, e)

      by : (j < count args) ⊎ (count args ≤ j) → (m ≡ k + count args + (j - count args) → nth (all_arguments ms) (j - count args) ≡ Some c → rebuilt (onward m f) c ≡ u → StayBut f (k + count args) (all_arguments ms) (j - count args) → rebuilt_messages f (k + count args) ms ≡ with_argument ms (j - count args) u) →
          rebuilt_messages f k (more_messages s args ms) ≡ with_argument (more_messages s args ms) j u
      by (inl l) ih =
          (λ i. more_messages s (trees-one f g k j m args c u at (sym (nth-append_left args (all_arguments ms) j l) ∙ e) r (but-left f k args (all_arguments ms) j h) i) (messages-stay f g (k + count args) ms (but-right f k args (all_arguments ms) j l h) i))
          ∙ ap (λ (z : Bool). if z then more_messages s (with_nth args j u) ms else more_messages s args (with_argument ms (j - count args) u)) (sym (lt-ltb j (count args) l))
      by (inr l) ih =
          (λ i. more_messages s (trees-stay f g k args (but-near f k args (all_arguments ms) j l h) i)
          (ih (behind k (count args) j m l at) (sym (nth-append_right args (all_arguments ms) j (j - count args) (split (count args) j l)) ∙ e) r (but-far f k args (all_arguments ms) j (j - count args) (split (count args) j l) h) i))
          ∙ ap (λ (z : Bool). if z then more_messages s (with_nth args j u) ms else more_messages s args (with_argument ms (j - count args) u)) (sym (le-ltb j (count args) l))

  -- a node of which one child is made anew
  pub node-one : (f : Making N) → ChangesNames f → (t : TreeOf N) (j : ℕ) (c u : TreeOf N) → child t j ≡ Some c → rebuilt (onward j f) c ≡ u → StayBut f 0 (children t) j → rebuilt f t ≡ with_child t j u
  node-one f g (var n) j c u e r h = absurd (cc)
  node-one f g (literal l) j c u e r h = absurd (cc)
  node-one f g (send q s args) zero c u e r h =
      g [] (send (rebuilt (onward 0 f) q) s (rebuilt_trees f 1 args)) tt ∙ (λ i. send ((ap (rebuilt (onward 0 f)) (some-tree e) ∙ r) i) s (trees-stay f g 1 args (but-zero f 0 q args h) i))
  node-one f g (send q s args) (suc j) c u e r h =
      g [] (send (rebuilt (onward 0 f) q) s (rebuilt_trees f 1 args)) tt
      ∙ (λ i. send (tree-stays (onward 0 f) (λ path v. g (0 ∷ path) v) q (but-first f 0 q args j h) i) s (trees-one f g 1 j (suc j) args c u (omega arith) e r (but-others f 0 q args j h) i))
  node-one f g (cascade q ms) zero c u e r h =
      g [] (cascade (rebuilt (onward 0 f) q) (rebuilt_messages f 1 ms)) tt ∙ (λ i. cascade ((ap (rebuilt (onward 0 f)) (some-tree e) ∙ r) i) (messages-stay f g 1 ms (but-zero f 0 q (all_arguments ms) h) i))
  node-one f g (cascade q ms) (suc j) c u e r h =
      g [] (cascade (rebuilt (onward 0 f) q) (rebuilt_messages f 1 ms)) tt
      ∙ (λ i. cascade (tree-stays (onward 0 f) (λ path v. g (0 ∷ path) v) q (but-first f 0 q (all_arguments ms) j h) i) (messages-one f g 1 j (suc j) ms c u (omega arith) e r (but-others f 0 q (all_arguments ms) j h) i))
  node-one f g (assign n t) zero c u e r h = g [] (assign n (rebuilt (onward 0 f) t)) tt ∙ ap (assign n) (ap (rebuilt (onward 0 f)) (some-tree e) ∙ r)
  node-one f g (assign n t) (suc j) c u e r h = absurd (cc)
  node-one f g (block ps ts ss d) j c u e r h = g [] (block ps ts (rebuilt_statements f 0 ss) d) tt ∙ ap (λ z. block ps ts z d) (statements-one f g 0 j j ss c u (omega arith) e r h)
  node-one f g (brace ts) j c u e r h = g [] (brace (rebuilt_trees f 0 ts)) tt ∙ ap brace (trees-one f g 0 j j ts c u (omega arith) e r h)
  node-one f g (return t) zero c u e r h = g [] (return (rebuilt (onward 0 f) t)) tt ∙ ap return (ap (rebuilt (onward 0 f)) (some-tree e) ∙ r)
  node-one f g (return t) (suc j) c u e r h = absurd (cc)

  -- the names on paths that do not pass the end of this one stay
  abbrev pub StayApart : Making N → TreeOf N → List ℕ → Type 0
  StayApart f t js = (path : List ℕ) (n : N) → part_at t path ≡ Some (var n) → ((rest : List ℕ) → path ≡ js ++ rest → ⊥) → f path (var n) ≡ var n

  pub rebuilt-block : {part : TreeOf N} {ps : List N} {b : SequenceOf N} {k : ℕ} {s : TreeOf N} {ks : List ℕ} {t : TreeOf N} {js : List ℕ} (f : Making N) → ChangesNames f → InBlock part ps b k s ks t js → StayApart f t js →
      rebuilt f t ≡ replaced t js (rebuilt (λ path u. f (js ++ path) u) (block_with ps b))
  rebuilt-block f g (this_block e p) h = refl
  rebuilt-block {ps = ps} {b = b} f g (block_below {t = t} {c = c} {j = j} {js = js} e p) h =
      node-one f g t j c (replaced c js (rebuilt (λ path u. f (j ∷ (js ++ path)) u) (block_with ps b))) e
      (rebuilt-block (onward j f) (λ path u. g (j ∷ path) u) p (λ path n q x. h (j ∷ path) n (ap (option_and_then (λ z. part_at z path)) e ∙ q) (λ rest z. x rest (tails z))))
      (λ i m path n at x q. h (m ∷ path) n (ap (λ z. option_and_then (λ w. part_at w path) (nth (children t) z)) (same m i at) ∙ q) (λ rest z. x (sym (same m i at) ∙ heads z)))
      ∙ sym (ap (λ o. unwrap_or (option_map (λ z. with_child t j (replaced z js (rebuilt (λ path u. f (j ∷ (js ++ path)) u) (block_with ps b)))) o) t) e)
    where
      same : (m i : ℕ) → m ≡ 0 + i → m ≡ i
      same m i e = omega (arith, e)

      tails : {xs ys : List ℕ} {y z : ℕ} → y ∷ xs ≡ z ∷ ys → xs ≡ ys
      tails q = cc

      heads : {xs ys : List ℕ} {y z : ℕ} → y ∷ xs ≡ z ∷ ys → y ≡ z
      heads q = cc
