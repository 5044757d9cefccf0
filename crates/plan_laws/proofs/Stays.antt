-- Trees in which nothing is renamed stay.
use Rattle.std.proofs.Common.{◌≡◌, ℕ, suc, ◌+◌, Bool, false, List, [], ◌∷◌, ◌++◌, refl, sym, ap, subst, ◌∙◌, arith}
use Rattle.std.specs.Prelude.{◌||◌, if◌then◌else◌, nat_eq}
use Rattle.std.specs.List.{list_any}
use Rattle.std.specs.Option.{option_map_or}
use Rattle.std.proofs.lemmas.Bool.{or_parts}
use Rattle.std.proofs.lemmas.List.Folds.{list_any-append}
use Rattle.tree_model.specs.Tree.{TreeOf, var, literal, send, cascade, assign, block, brace, return, TreesOf, no_trees, more_trees, MessagesOf, no_messages, more_messages, StatementsOf, no_statements, more_statements, SequenceOf}
use Rattle.tree_model.specs.Path.{count}
use Rattle.tree_model.specs.Nodes.{Placed, below_step, tree_nodes, trees_nodes, messages_nodes, statements_nodes, nodes}
use Rattle.image_model.specs.Uses.{name_used, has_message, is_sender}
use Rattle.rename_model.specs.Renamed.{NewName, beyond, renamed, renamed_trees, renamed_messages, renamed_statements, renamed_sequence}
use Rattle.rename_model.specs.SelectorRenamed.{sends_anew, trees_anew, messages_anew, statements_anew}

-- a test of nodes and their paths, one step deeper
abbrev pub Test : Type 0
Test = List ℕ → TreeOf ℕ → Bool

abbrev pub deeper : ℕ → Test → Test
deeper k f path t = f (k ∷ path) t

abbrev pub passes : Test → Placed ℕ → Bool
passes f e = f e.0 e.1

pub any-deeper : (f : Test) (k : ℕ) (es : List (Placed ℕ)) → list_any (passes f) (below_step k es) ≡ list_any (passes (deeper k f)) es
any-deeper f k [] = refl
any-deeper f k (e ∷ es) = ap (λ b. f (k ∷ e.0) e.1 || b) (any-deeper f k es)

-- no node passes: not one first node, nor one among others
pub first_fails : (f : Test) (k : ℕ) (es fs : List (Placed ℕ)) → list_any (passes f) (below_step k es ++ fs) ≡ false → (list_any (passes (deeper k f)) es ≡ false) × (list_any (passes f) fs ≡ false)
first_fails f k es fs h =
    let parts = or_parts (list_any (passes f) (below_step k es)) (list_any (passes f) fs) (sym (list_any-append (passes f) (below_step k es) fs) ∙ h) in
    (sym (any-deeper f k es) ∙ parts.0, parts.1)

pub both_fail : (f : Test) (es fs : List (Placed ℕ)) → list_any (passes f) (es ++ fs) ≡ false → (list_any (passes f) es ≡ false) × (list_any (passes f) fs ≡ false)
both_fail f es fs h = or_parts (list_any (passes f) es) (list_any (passes f) fs) (sym (list_any-append (passes f) es fs) ∙ h)

-- the next number
next : (k : ℕ) → k + 1 ≡ suc k
next k = omega arith

-- no node passes among those that are numbered on from the next number
on_from : (f : Test) (k : ℕ) (ts : TreesOf ℕ) → list_any (passes f) (trees_nodes (k + 1) ts) ≡ false → list_any (passes f) (trees_nodes (suc k) ts) ≡ false
on_from f k ts h = subst (λ (j : ℕ). list_any (passes f) (trees_nodes j ts) ≡ false) (next k) h

statements_on_from : (f : Test) (k : ℕ) (ss : StatementsOf ℕ) → list_any (passes f) (statements_nodes (k + 1) ss) ≡ false → list_any (passes f) (statements_nodes (suc k) ss) ≡ false
statements_on_from f k ss h = subst (λ (j : ℕ). list_any (passes f) (statements_nodes j ss) ≡ false) (next k) h

-- whether the name that a node uses changes
abbrev pub changes : (List ℕ → ℕ → Bool) → Test
changes bad path t = option_map_or (bad path) (name_used t) false

-- where a test says that names do not change, they stay
abbrev pub Stays : (List ℕ → ℕ → Bool) → NewName ℕ → Type 0
Stays bad to = (path : List ℕ) (n : ℕ) → bad path n ≡ false → to path n ≡ n

-- where no name changes the tree stays
mutual
  tree_stays : (t : TreeOf ℕ) (bad : List ℕ → ℕ → Bool) (to : NewName ℕ) → Stays bad to → list_any (passes (changes bad)) (tree_nodes t) ≡ false → renamed to t ≡ t
  tree_stays (var n) bad to s h = ap var (s [] n (or_parts (bad [] n) false h).0)
  tree_stays (literal l) bad to s h = refl
  tree_stays (send r u xs) bad to s h =
      let k = first_fails (changes bad) 0 (tree_nodes r) (trees_nodes 1 xs) h in
      λ i. send (tree_stays r (λ p. bad (0 ∷ p)) (beyond 0 to) (λ p. s (0 ∷ p)) k.0 i) u (trees_stay xs bad to 1 s k.1 i)
  tree_stays (cascade r ms) bad to s h =
      let k = first_fails (changes bad) 0 (tree_nodes r) (messages_nodes 1 ms) h in
      λ i. cascade (tree_stays r (λ p. bad (0 ∷ p)) (beyond 0 to) (λ p. s (0 ∷ p)) k.0 i) (messages_stay ms bad to 1 s k.1 i)
  tree_stays (assign n t) bad to s h =
      let k = or_parts (bad [] n) (list_any (passes (changes bad)) (below_step 0 (tree_nodes t))) h in
      λ i. assign (s [] n k.0 i) (tree_stays t (λ p. bad (0 ∷ p)) (beyond 0 to) (λ p. s (0 ∷ p)) (sym (any-deeper (changes bad) 0 (tree_nodes t)) ∙ k.1) i)
  tree_stays (block ps ds ss c) bad to s h = λ i. block ps ds (statements_stay ss bad to 0 s h i) c
  tree_stays (brace ts) bad to s h = ap brace (trees_stay ts bad to 0 s h)
  tree_stays (return t) bad to s h = ap return (tree_stays t (λ p. bad (0 ∷ p)) (beyond 0 to) (λ p. s (0 ∷ p)) (sym (any-deeper (changes bad) 0 (tree_nodes t)) ∙ h))

  trees_stay : (ts : TreesOf ℕ) (bad : List ℕ → ℕ → Bool) (to : NewName ℕ) (k : ℕ) → Stays bad to → list_any (passes (changes bad)) (trees_nodes k ts) ≡ false → renamed_trees to k ts ≡ ts
  trees_stay no_trees bad to k s h = refl
  trees_stay (more_trees t ts) bad to k s h =
      let l = first_fails (changes bad) k (tree_nodes t) (trees_nodes (k + 1) ts) h in
      λ i. more_trees (tree_stays t (λ p. bad (k ∷ p)) (beyond k to) (λ p. s (k ∷ p)) l.0 i) (trees_stay ts bad to (suc k) s (on_from (changes bad) k ts l.1) i)

  messages_stay : (ms : MessagesOf ℕ) (bad : List ℕ → ℕ → Bool) (to : NewName ℕ) (k : ℕ) → Stays bad to → list_any (passes (changes bad)) (messages_nodes k ms) ≡ false → renamed_messages to k ms ≡ ms
  messages_stay no_messages bad to k s h = refl
  messages_stay (more_messages u xs ms) bad to k s h =
      let l = both_fail (changes bad) (trees_nodes k xs) (messages_nodes (k + count xs) ms) h in
      λ i. more_messages u (trees_stay xs bad to k s l.0 i) (messages_stay ms bad to (k + count xs) s l.1 i)

  pub statements_stay : (ss : StatementsOf ℕ) (bad : List ℕ → ℕ → Bool) (to : NewName ℕ) (k : ℕ) → Stays bad to → list_any (passes (changes bad)) (statements_nodes k ss) ≡ false → renamed_statements to k ss ≡ ss
  statements_stay no_statements bad to k s h = refl
  statements_stay (more_statements c t ss) bad to k s h =
      let l = first_fails (changes bad) k (tree_nodes t) (statements_nodes (k + 1) ss) h in
      λ i. more_statements c (tree_stays t (λ p. bad (k ∷ p)) (beyond k to) (λ p. s (k ∷ p)) l.0 i) (statements_stay ss bad to (suc k) s (statements_on_from (changes bad) k ss l.1) i)

-- a sequence stays
pub sequence_stays : (b : SequenceOf ℕ) (bad : List ℕ → ℕ → Bool) (to : NewName ℕ) → Stays bad to → list_any (λ e. option_map_or (bad e.0) (name_used e.1) false) (nodes b) ≡ false → renamed_sequence to b ≡ b
sequence_stays b bad to s h = λ i. record b { statements = statements_stay b.statements bad to 0 s h i }

-- where no node sends the selector the tree stays
module _ (s t : ℕ) where
  abbrev to : ℕ → ℕ
  to u = if nat_eq s u then t else u

  abbrev sends : Test
  sends path r = is_sender nat_eq s r

  kept : (u : ℕ) → nat_eq s u ≡ false → to u ≡ u
  kept u q = ap (λ b. if b then t else u) q

  mutual
    tree_sent_same : (r : TreeOf ℕ) → list_any (passes sends) (tree_nodes r) ≡ false → sends_anew to r ≡ r
    tree_sent_same (var n) h = refl
    tree_sent_same (literal l) h = refl
    tree_sent_same (send r u xs) h =
        let p = or_parts (nat_eq s u) (list_any (passes sends) (below_step 0 (tree_nodes r) ++ trees_nodes 1 xs)) h in
        let k = first_fails sends 0 (tree_nodes r) (trees_nodes 1 xs) p.1 in
        λ i. send (tree_sent_same r k.0 i) (kept u p.0 i) (trees_sent_same xs 1 k.1 i)
    tree_sent_same (cascade r ms) h =
        let p = or_parts (has_message nat_eq s ms) (list_any (passes sends) (below_step 0 (tree_nodes r) ++ messages_nodes 1 ms)) h in
        let k = first_fails sends 0 (tree_nodes r) (messages_nodes 1 ms) p.1 in
        λ i. cascade (tree_sent_same r k.0 i) (messages_sent_same ms 1 p.0 k.1 i)
    tree_sent_same (assign n r) h = ap (assign n) (tree_sent_same r (sym (any-deeper sends 0 (tree_nodes r)) ∙ h))
    tree_sent_same (block ps ds ss c) h = λ i. block ps ds (statements_sent_same ss 0 h i) c
    tree_sent_same (brace ts) h = ap brace (trees_sent_same ts 0 h)
    tree_sent_same (return r) h = ap return (tree_sent_same r (sym (any-deeper sends 0 (tree_nodes r)) ∙ h))

    trees_sent_same : (ts : TreesOf ℕ) (k : ℕ) → list_any (passes sends) (trees_nodes k ts) ≡ false → trees_anew to ts ≡ ts
    trees_sent_same no_trees k h = refl
    trees_sent_same (more_trees r ts) k h = let l = first_fails sends k (tree_nodes r) (trees_nodes (k + 1) ts) h in λ i. more_trees (tree_sent_same r l.0 i) (trees_sent_same ts (k + 1) l.1 i)

    messages_sent_same : (ms : MessagesOf ℕ) (k : ℕ) → has_message nat_eq s ms ≡ false → list_any (passes sends) (messages_nodes k ms) ≡ false → messages_anew to ms ≡ ms
    messages_sent_same no_messages k e h = refl
    messages_sent_same (more_messages u xs ms) k e h =
        let p = or_parts (nat_eq s u) (has_message nat_eq s ms) e in
        let l = both_fail sends (trees_nodes k xs) (messages_nodes (k + count xs) ms) h in
        λ i. more_messages (kept u p.0 i) (trees_sent_same xs k l.0 i) (messages_sent_same ms (k + count xs) p.1 l.1 i)

    pub statements_sent_same : (ss : StatementsOf ℕ) (k : ℕ) → list_any (passes sends) (statements_nodes k ss) ≡ false → statements_anew to ss ≡ ss
    statements_sent_same no_statements k h = refl
    statements_sent_same (more_statements c r ss) k h = let l = first_fails sends k (tree_nodes r) (statements_nodes (k + 1) ss) h in λ i. more_statements c (tree_sent_same r l.0 i) (statements_sent_same ss (k + 1) l.1 i)
