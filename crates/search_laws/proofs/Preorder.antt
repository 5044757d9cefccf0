-- The nodes of a sequence are in preorder, and a part of them that is in order is that order with some left out.
use Rattle.std.proofs.Common.{◌≡◌, ◌⊎◌, inl, inr, ℕ, zero, suc, ◌+◌, ◌<◌, List, [], ◌∷◌, ◌++◌, refl, sym, ap, subst, ◌∙◌, arith}
use Rattle.std.specs.Prelude.{Contains}
use Rattle.std.specs.List.{AllByRecursion}
use Rattle.tree_model.specs.Tree.{TreeOf, var, literal, send, cascade, assign, block, brace, return, TreesOf, no_trees, more_trees, MessagesOf, no_messages, more_messages, StatementsOf, no_statements, more_statements}
use Rattle.tree_model.specs.Path.{count}
use Rattle.tree_model.specs.Nodes.{Placed, below_step, tree_nodes, trees_nodes, messages_nodes, statements_nodes}
use Rattle.search_laws.specs.Preorder.{paths_of, ComesBefore, IsAscending, EachOnce, IsPartInOrder}
use Rattle.search_laws.proofs.Sorted.{all-turned, StartsFrom, Sorted, Span, From, span-from, none-from, none-span, glued-from, glued-span, below-span}

pub before-under : (k : ℕ) (p q : List ℕ) → ComesBefore p q → ComesBefore (k ∷ p) (k ∷ q)
before-under k p q h = inr (refl, h)

pub before-apart : (j k : ℕ) (p q : List ℕ) → j < k → ComesBefore (j ∷ p) (k ∷ q)
before-apart j k p q h = inl h

-- no two come before each other
pub not-both : (p q : List ℕ) → ComesBefore p q → ComesBefore q p → ⊥
not-both [] [] h g = h
not-both [] (k ∷ q) h g = g
not-both (j ∷ p) [] h g = h
not-both (j ∷ p) (k ∷ q) (inl h) (inl g) = omega (arith, h, g)
not-both (j ∷ p) (k ∷ q) (inl h) (inr g) = let e = g.0 in omega (arith, h, e)
not-both (j ∷ p) (k ∷ q) (inr h) (inl g) = let e = h.0 in omega (arith, g, e)
not-both (j ∷ p) (k ∷ q) (inr h) (inr g) = not-both p q h.1 g.1

-- the node itself comes before all that have a step
pub first-before : (k : ℕ) (p : List ℕ) → StartsFrom k p → ComesBefore [] p
first-before k [] h = h
first-before k (j ∷ p) h = tt

module _ {N : Type 0} where
  -- the node itself, and nodes below it
  headed : (t : TreeOf N) (es : List (Placed N)) → From {N = N} ComesBefore 0 es → Sorted {N = N} ComesBefore (([], t) ∷ es)
  headed t es h = (all-turned _ _ (λ (e : Placed N) s. first-before 0 e.0 s) es h.starts, h.order)

  mutual
    pub tree-sorted : (t : TreeOf N) → Sorted {N = N} ComesBefore (tree_nodes t)
    tree-sorted (var n) = (tt, tt)
    tree-sorted (literal l) = (tt, tt)
    tree-sorted (send r s args) =
        headed (send r s args) (below_step 0 (tree_nodes r) ++ trees_nodes 1 args)
        (glued-from ComesBefore before-apart 0 1 (below_step 0 (tree_nodes r)) (trees_nodes 1 args) (omega arith) (below-span ComesBefore before-under 0 (tree_nodes r) (tree-sorted r)) (span-from ComesBefore 1 (1 + count args) (trees_nodes 1 args) (trees-span 1 args)))
    tree-sorted (cascade r ms) =
        headed (cascade r ms) (below_step 0 (tree_nodes r) ++ messages_nodes 1 ms)
        (glued-from ComesBefore before-apart 0 1 (below_step 0 (tree_nodes r)) (messages_nodes 1 ms) (omega arith) (below-span ComesBefore before-under 0 (tree_nodes r) (tree-sorted r)) (messages-from 1 ms))
    tree-sorted (assign n t) = headed (assign n t) (below_step 0 (tree_nodes t)) (span-from ComesBefore 0 1 (below_step 0 (tree_nodes t)) (below-span ComesBefore before-under 0 (tree_nodes t) (tree-sorted t)))
    tree-sorted (block ps ts ss e) = headed (block ps ts ss e) (statements_nodes 0 ss) (statements-from 0 ss)
    tree-sorted (brace ts) = headed (brace ts) (trees_nodes 0 ts) (span-from ComesBefore 0 (0 + count ts) (trees_nodes 0 ts) (trees-span 0 ts))
    tree-sorted (return t) = headed (return t) (below_step 0 (tree_nodes t)) (span-from ComesBefore 0 1 (below_step 0 (tree_nodes t)) (below-span ComesBefore before-under 0 (tree_nodes t) (tree-sorted t)))

    trees-span : (k : ℕ) (ts : TreesOf N) → Span {N = N} ComesBefore k (k + count ts) (trees_nodes k ts)
    trees-span k no_trees = none-span ComesBefore k (k + 0)
    trees-span k (more_trees t ts) =
        let at : k + 1 + count ts ≡ k + (count ts + 1) = omega arith in
        subst (λ l. Span {N = N} ComesBefore k l (below_step k (tree_nodes t) ++ trees_nodes (k + 1) ts)) at
        (glued-span ComesBefore before-apart k (k + 1) (k + 1 + count ts) (below_step k (tree_nodes t)) (trees_nodes (k + 1) ts) (omega arith) (omega arith)
        (below-span ComesBefore before-under k (tree_nodes t) (tree-sorted t)) (trees-span (k + 1) ts))

    messages-from : (k : ℕ) (ms : MessagesOf N) → From {N = N} ComesBefore k (messages_nodes k ms)
    messages-from k no_messages = none-from ComesBefore k
    messages-from k (more_messages s args ms) =
        glued-from ComesBefore before-apart k (k + count args) (trees_nodes k args) (messages_nodes (k + count args) ms) (omega arith) (trees-span k args) (messages-from (k + count args) ms)

    pub statements-from : (k : ℕ) (ss : StatementsOf N) → From {N = N} ComesBefore k (statements_nodes k ss)
    statements-from k no_statements = none-from ComesBefore k
    statements-from k (more_statements c t ss) =
        glued-from ComesBefore before-apart k (k + 1) (below_step k (tree_nodes t)) (statements_nodes (k + 1) ss) (omega arith)
        (below-span ComesBefore before-under k (tree_nodes t) (tree-sorted t)) (statements-from (k + 1) ss)

  path-all : (p : List ℕ) (es : List (Placed N)) → AllByRecursion (λ (e : Placed N). ComesBefore p e.0) es → AllByRecursion (ComesBefore p) (paths_of es)
  path-all p [] a = tt
  path-all p (e ∷ es) a = (a.0, path-all p es a.1)

  pub ascending : (es : List (Placed N)) → Sorted {N = N} ComesBefore es → IsAscending (paths_of es)
  ascending [] a = tt
  ascending (e ∷ es) a = (path-all e.0 es a.0, ascending es a.1)

-- one of the paths
abbrev pub IsOneOf : List (List ℕ) → List ℕ → Type 0
IsOneOf [] p = ⊥
IsOneOf (q ∷ qs) p = (p ≡ q) ⊎ IsOneOf qs p

pub contained : {N : Type 0} (es : List (Placed N)) (e : Placed N) → Contains es e → IsOneOf (paths_of es) e.0
contained [] e (k, within, is) = absurd (omega (arith, within))
contained (f ∷ es) e (zero, within, is) = inl (ap (λ x. x.0) (sym is))
contained (f ∷ es) e (suc k, within, is) = inr (contained es e (k, omega (arith, within), is))

-- what comes before one of the paths, and behind all of them
never : (p : List ℕ) (qs : List (List ℕ)) → AllByRecursion (ComesBefore p) qs → (q : List ℕ) → ComesBefore q p → IsOneOf qs q → ⊥
never p [] a q h i = i
never p (x ∷ qs) a q h (inl e) = not-both p q (subst (ComesBefore p) (sym e) a.0) h
never p (x ∷ qs) a q h (inr i) = never p qs a.1 q h i

-- those that are behind the first are among the others
behind : (p q : List ℕ) (qs : List (List ℕ)) → p ≡ q → (ps : List (List ℕ)) → AllByRecursion (ComesBefore p) ps → AllByRecursion (IsOneOf (q ∷ qs)) ps → AllByRecursion (IsOneOf qs) ps
behind p q qs e [] a i = tt
behind p q qs e (x ∷ ps) a (inl f, rest) = let h : ComesBefore p p = subst (ComesBefore p) (f ∙ sym e) a.0 in absurd (not-both p p h h)
behind p q qs e (x ∷ ps) a (inr i, rest) = (i, behind p q qs e ps a.1 rest)

later : (p q : List ℕ) (qs : List (List ℕ)) → AllByRecursion (ComesBefore q) qs → IsOneOf qs p → (ps : List (List ℕ)) → AllByRecursion (ComesBefore p) ps → AllByRecursion (IsOneOf (q ∷ qs)) ps → AllByRecursion (IsOneOf qs) ps
later p q qs b i [] a h = tt
later p q qs b i (x ∷ ps) a (inl f, rest) = absurd (never q qs b p (subst (ComesBefore p) f a.0) i)
later p q qs b i (x ∷ ps) a (inr h, rest) = (h, later p q qs b i ps a.1 rest)

-- some of the paths of an order, in that order
pub part-in-order : (ps qs : List (List ℕ)) → IsAscending ps → IsAscending qs → AllByRecursion (IsOneOf qs) ps → IsPartInOrder ps qs
part-in-order [] qs a b h = tt
part-in-order (p ∷ ps) [] a b h = h.0
part-in-order (p ∷ ps) (q ∷ qs) a b (inl e, rest) = inl (e, part-in-order ps qs a.1 b.1 (behind p q qs e ps a.0 rest))
part-in-order (p ∷ ps) (q ∷ qs) a b (inr i, rest) = inr (part-in-order (p ∷ ps) qs a b.1 (i, later p q qs b.0 i ps a.0 rest))

-- what is in order stands there once
pub each-once : (ps : List (List ℕ)) → IsAscending ps → EachOnce ps
each-once [] a = tt
each-once (p ∷ ps) a = (all-turned _ _ (λ q h e. let same : ComesBefore p p = subst (ComesBefore p) (sym e) h in not-both p p same same) ps a.0, each-once ps a.1)
