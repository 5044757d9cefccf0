-- What a search finds is in preorder.
use Rattle.std.proofs.Common.{◌≡◌, inl, inr, ℕ, zero, suc, List, [], ◌∷◌, ◌++◌, Some, None, refl}
use Rattle.std.specs.Prelude.{map}
use Rattle.std.specs.List.{AllByRecursion}
use Rattle.tree_model.specs.Tree.{TreeOf, SequenceOf}
use Rattle.tree_model.specs.Measure.{height}
use Rattle.tree_model.specs.Nodes.{Placed}
use Rattle.pattern_model.specs.Patterns.{PatternOf}
use Rattle.pattern_model.specs.Words.{PatternWordsOf}
use Rattle.pattern_model.specs.MatchTree.{FoundOf, numbered_statements, match_places}
use Rattle.pattern_model.specs.Search.{placed_children, searched_in, found_among, found_by, found_within, found, all_matches}
use Rattle.search_laws.specs.Preorder.{ComesBefore, IsAscending}
use Rattle.search_laws.proofs.Sorted.{all-append, StartsFrom, Sorted}
use Rattle.search_laws.proofs.MatchParts.{IsLeftOf, statements-onward, children-onward, searched-onward}

-- behind a common beginning the order is the same
behind-same : (r p q : List ℕ) → ComesBefore p q → ComesBefore (r ++ p) (r ++ q)
behind-same [] p q h = h
behind-same (k ∷ r) p q h = inr (refl, behind-same r p q h)

-- what is behind a path further to the left comes before
behind-left : (a b p q : List ℕ) → IsLeftOf a b → ComesBefore (a ++ p) (b ++ q)
behind-left [] b p q h = absurd h
behind-left (j ∷ a) [] p q h = absurd h
behind-left (j ∷ a) (k ∷ b) p q (inl h) = inl h
behind-left (j ∷ a) (k ∷ b) p q (inr h) = inr (h.0, behind-left a b p q h.1)

-- lists of paths
ascending-append : (ps qs : List (List ℕ)) → IsAscending ps → IsAscending qs → AllByRecursion (λ p. AllByRecursion (ComesBefore p) qs) ps → IsAscending (ps ++ qs)
ascending-append [] qs a b c = b
ascending-append (p ∷ ps) qs a b c = (all-append (ComesBefore p) ps qs a.0 c.0, ascending-append ps qs a.1 b c.1)

all-behind : (r p : List ℕ) (qs : List (List ℕ)) → AllByRecursion (ComesBefore p) qs → AllByRecursion (ComesBefore (r ++ p)) (map (λ q. r ++ q) qs)
all-behind r p [] a = tt
all-behind r p (q ∷ qs) a = (behind-same r p q a.0, all-behind r p qs a.1)

ascending-behind : (r : List ℕ) (ps : List (List ℕ)) → IsAscending ps → IsAscending (map (λ q. r ++ q) ps)
ascending-behind r [] a = tt
ascending-behind r (p ∷ ps) a = (all-behind r p ps a.0, ascending-behind r ps a.1)

module _ {N : Type 0} (search : TreeOf N → List (List ℕ)) where
  -- what is found in a part comes behind what is further to the left
  left-one : (a b p : List ℕ) → IsLeftOf a b → (qs : List (List ℕ)) → AllByRecursion (ComesBefore (a ++ p)) (map (λ q. b ++ q) qs)
  left-one a b p h [] = tt
  left-one a b p h (q ∷ qs) = (behind-left a b p q h, left-one a b p h qs)

  left-all : (a p : List ℕ) (es : List (Placed N)) → AllByRecursion (λ (f : Placed N). IsLeftOf a f.0) es → AllByRecursion (ComesBefore (a ++ p)) (found_among search es)
  left-all a p [] h = tt
  left-all a p (e ∷ es) h = all-append (ComesBefore (a ++ p)) (map (λ q. e.0 ++ q) (search e.1)) (found_among search es) (left-one a e.0 p h.0 (search e.1)) (left-all a p es h.1)

  left-each : (a : List ℕ) (es : List (Placed N)) → AllByRecursion (λ (f : Placed N). IsLeftOf a f.0) es → (ps : List (List ℕ)) → AllByRecursion (λ p. AllByRecursion (ComesBefore p) (found_among search es)) (map (λ q. a ++ q) ps)
  left-each a es h [] = tt
  left-each a es h (p ∷ ps) = (left-all a p es h, left-each a es h ps)

  pub among-ascending : ((t : TreeOf N) → IsAscending (search t)) → (es : List (Placed N)) → Sorted {N = N} IsLeftOf es → IsAscending (found_among search es)
  among-ascending each [] h = tt
  among-ascending each (e ∷ es) h =
      ascending-append (map (λ q. e.0 ++ q) (search e.1)) (found_among search es) (ascending-behind e.0 (search e.1) (each e.1)) (among-ascending each es h.1) (left-each e.0 es h.0 (search e.1))

  -- nothing of it is the node itself
  below-one : (k : ℕ) (a : List ℕ) → StartsFrom k a → (qs : List (List ℕ)) → AllByRecursion (ComesBefore []) (map (λ q. a ++ q) qs)
  below-one k [] h qs = absurd h
  below-one k (j ∷ a) h [] = tt
  below-one k (j ∷ a) h (q ∷ qs) = (tt, below-one k (j ∷ a) h qs)

  below-all : (es : List (Placed N)) → AllByRecursion (λ (e : Placed N). StartsFrom 0 e.0) es → AllByRecursion (ComesBefore []) (found_among search es)
  below-all [] h = tt
  below-all (e ∷ es) h = all-append (ComesBefore []) (map (λ q. e.0 ++ q) (search e.1)) (found_among search es) (below-one 0 e.0 h.0 (search e.1)) (below-all es h.1)

  pub by-ascending : (w : PatternWordsOf N) (p : PatternOf N) → ((t : TreeOf N) → IsAscending (search t)) → (t : TreeOf N) (o : FoundOf N) → match_places w p t ≡ o → IsAscending (found_by search p t o)
  by-ascending w p each t None e = among-ascending each (placed_children t) (children-onward t).order
  by-ascending w p each t (Some xs) e =
      let onward = searched-onward w p t xs e in
      (below-all (searched_in p t xs) onward.starts, among-ascending each (searched_in p t xs) onward.order)

module _ {N : Type 0} (w : PatternWordsOf N) (p : PatternOf N) where
  within-ascending : (n : ℕ) (t : TreeOf N) → IsAscending (found_within w p n t)
  within-ascending zero t = tt
  within-ascending (suc n) t = by-ascending (found_within w p n) w p (within-ascending n) t (match_places w p t) refl

  pub found-ascending : (t : TreeOf N) → IsAscending (found w p t)
  found-ascending t = within-ascending (height t) t

  pub matches-ascending : (b : SequenceOf N) → IsAscending (all_matches w p b)
  matches-ascending b = among-ascending (found w p) found-ascending (numbered_statements 0 b.statements) (statements-onward 0 b.statements).order
