-- Bindings, and what a search finds, go along with a change of names.
use Rattle.std.proofs.Common.{◌≡◌, refl, sym, ap, ◌∙◌, ℕ, zero, suc, List, [], ◌∷◌, ◌++◌, map, Some, None}
use Rattle.std.specs.Prelude.{Bool, true, false, not, ◌&&◌, ◌||◌, cond, filter, option_map, option_and_then}
use Rattle.std.specs.List.{list_all, list_any}
use Rattle.tree_model.specs.Tree.{TreeOf, SequenceOf, map_names, map_sequence}
use Rattle.tree_model.specs.Measure.{height}
use Rattle.tree_model.specs.Path.{children}
use Rattle.tree_model.specs.Nodes.{Placed, map_placed}
use Rattle.tree_model.proofs.Children.{children-map_names}
use Rattle.tree_model.proofs.Measures.{height-map_names}
use Rattle.pattern_model.specs.Patterns.{MetaOf, PatternOf, meta, var_like}
use Rattle.pattern_model.specs.Bindings.{BoundOf, a_part, a_run, a_selector, a_keyword, a_message, BindingOf, same_meta}
use Rattle.pattern_model.specs.Words.{PatternWordsOf}
use Rattle.pattern_model.specs.Named.{map_meta, map_pattern, map_bound, map_binding, asked_through}
use Rattle.pattern_model.specs.MatchTree.{PlaceOf, FoundOf, where_holds, numbered, numbered_statements, places, same_bound, agree, bindings_of, match_places, match_tree}
use Rattle.pattern_model.specs.Search.{doubled_parts, placed_children, searched_in, found_among, found_by, found_within, found, all_matches}
use Rattle.same_trees.proofs.Named.{tree_mapped, trees_mapped, statements_mapped}
use Rattle.pattern_laws.proofs.PlacesMapped.{map_place, map_found, where_mapped, numbered_mapped, numbered_statements_mapped, places_mapped}

module _ {M N : Type 0} (f : M → N) (w : PatternWordsOf N) where
  -- the words, asked through the change
  abbrev v : PatternWordsOf M
  v = asked_through f w

  bound_mapped : (a b : BoundOf M) → same_bound w (map_bound f a) (map_bound f b) ≡ same_bound v a b
  bound_mapped (a_part t) (a_part u) = tree_mapped f w.tests.same t u
  bound_mapped (a_run ss) (a_run rs) = statements_mapped f w.tests.same ss rs
  bound_mapped (a_selector s) (a_selector u) = refl
  bound_mapped (a_keyword k) (a_keyword l) = refl
  bound_mapped (a_message s ts) (a_message u us) = ap (λ b. w.tests.same (f s) (f u) && b) (trees_mapped f w.tests.same ts us)
  bound_mapped a b = refl

  all_mapped : (x : PlaceOf M) (ys : List (PlaceOf M))
      → list_all (λ y. not (same_meta w.tests.same (map_meta f x.meta) y.meta) || same_bound w (map_bound f x.bound) y.bound) (map (map_place f) ys)
      ≡ list_all (λ y. not (same_meta v.tests.same x.meta y.meta) || same_bound v x.bound y.bound) ys
  all_mapped x [] = refl
  all_mapped x (y ∷ ys) = λ i. (not (same_meta v.tests.same x.meta y.meta) || bound_mapped x.bound y.bound i) && all_mapped x ys i

  agree_mapped : (xs : List (PlaceOf M)) → agree w (map (map_place f) xs) ≡ agree v xs
  agree_mapped [] = refl
  agree_mapped (x ∷ xs) = λ i. all_mapped x xs i && agree_mapped xs i

  any_mapped : (m : MetaOf M) (ys : List (PlaceOf M))
      → list_any (λ n. same_meta w.tests.same (map_meta f m) n && n.doubled) (map (λ (y : PlaceOf N). y.meta) (map (map_place f) ys))
      ≡ list_any (λ n. same_meta v.tests.same m n && n.doubled) (map (λ (y : PlaceOf M). y.meta) ys)
  any_mapped m [] = refl
  any_mapped m (y ∷ ys) = ap (λ b. (same_meta v.tests.same m y.meta && y.meta.doubled) || b) (any_mapped m ys)

  kept_mapped : (m : MetaOf M) (bs : List (BindingOf M))
      → filter (λ b. not (same_meta w.tests.same (map_meta f m) b.meta)) (map (map_binding f) bs) ≡ map (map_binding f) (filter (λ b. not (same_meta v.tests.same m b.meta)) bs)
  kept_mapped m [] = refl
  kept_mapped m (b ∷ bs) = by (same_meta v.tests.same m b.meta) (kept_mapped m bs)
    where
      rest : List (BindingOf M)
      rest = filter (λ b. not (same_meta v.tests.same m b.meta)) bs

      by : (t : Bool) → filter (λ b. not (same_meta w.tests.same (map_meta f m) b.meta)) (map (map_binding f) bs) ≡ map (map_binding f) rest
          → cond (not t) (map_binding f b ∷ filter (λ b. not (same_meta w.tests.same (map_meta f m) b.meta)) (map (map_binding f) bs)) (filter (λ b. not (same_meta w.tests.same (map_meta f m) b.meta)) (map (map_binding f) bs)) ≡ map (map_binding f) (cond (not t) (b ∷ rest) rest)
      by true e = e
      by false e = ap (λ (cs : List (BindingOf N)). map_binding f b ∷ cs) e

  bindings_mapped : (xs : List (PlaceOf M)) → bindings_of w (map (map_place f) xs) ≡ map (map_binding f) (bindings_of v xs)
  bindings_mapped [] = refl
  bindings_mapped (x ∷ xs) =
      let others = ap (filter (λ b. not (same_meta w.tests.same (map_meta f x.meta) b.meta))) (bindings_mapped xs) ∙ kept_mapped x.meta (bindings_of v xs) in
      λ i. record { meta = record { kind = x.meta.kind; name = f x.meta.name; doubled = x.meta.doubled || any_mapped x.meta xs i }; bound = map_bound f x.bound } ∷ others i

  pub match_places_mapped : (p : PatternOf M) (t : TreeOf M) → match_places w (map_pattern f p) (map_names f t) ≡ map_found f (match_places v p t)
  match_places_mapped p t = ap (λ o. option_and_then (λ xs. where_holds (agree w xs) (Some xs)) o) (places_mapped f w p t) ∙ by (places v p t)
    where
      by : (o : FoundOf M) → option_and_then (λ xs. where_holds (agree w xs) (Some xs)) (map_found f o) ≡ map_found f (option_and_then (λ xs. where_holds (agree v xs) (Some xs)) o)
      by None = refl
      by (Some xs) = ap (λ b. where_holds b (Some (map (map_place f) xs))) (agree_mapped xs) ∙ where_mapped f (agree v xs) (Some xs)

  -- the bindings of a match
  pub match_mapped : (p : PatternOf M) (t : TreeOf M) → match_tree w (map_pattern f p) (map_names f t) ≡ option_map (map (map_binding f)) (match_tree v p t)
  match_mapped p t = ap (option_map (bindings_of w)) (match_places_mapped p t) ∙ by (match_places v p t)
    where
      by : (o : FoundOf M) → option_map (bindings_of w) (map_found f o) ≡ option_map (map (map_binding f)) (option_map (bindings_of v) o)
      by None = refl
      by (Some xs) = ap (λ (bs : List (BindingOf N)). Some bs) (bindings_mapped xs)

  placed_append : (es ds : List (Placed M)) → map_placed f (es ++ ds) ≡ map_placed f es ++ map_placed f ds
  placed_append [] ds = refl
  placed_append (e ∷ es) ds = ap (λ (xs : List (Placed N)). (e.0, map_names f e.1) ∷ xs) (placed_append es ds)

  doubled_mapped : (xs : List (PlaceOf M)) → doubled_parts (map (map_place f) xs) ≡ map_placed f (doubled_parts xs)
  doubled_mapped [] = refl
  doubled_mapped (x ∷ xs) = by x.meta.doubled (doubled_mapped xs)
    where
      by : (b : Bool) → doubled_parts (map (map_place f) xs) ≡ map_placed f (doubled_parts xs) → cond b (map_placed f x.parts) [] ++ doubled_parts (map (map_place f) xs) ≡ map_placed f (cond b x.parts [] ++ doubled_parts xs)
      by true e = ap (λ (ds : List (Placed N)). map_placed f x.parts ++ ds) e ∙ sym (placed_append x.parts (doubled_parts xs))
      by false e = e

  children_mapped : (t : TreeOf M) → placed_children (map_names f t) ≡ map_placed f (placed_children t)
  children_mapped t = ap (numbered 0) (children-map_names f t) ∙ numbered_mapped f 0 (children t)

  searched_mapped : (p : PatternOf M) (t : TreeOf M) (xs : List (PlaceOf M)) → searched_in (map_pattern f p) (map_names f t) (map (map_place f) xs) ≡ map_placed f (searched_in p t xs)
  searched_mapped (meta m) t xs = by m.doubled
    where
      by : (b : Bool) → cond b (placed_children (map_names f t)) [] ≡ map_placed f (cond b (placed_children t) [])
      by true = children_mapped t
      by false = refl
  searched_mapped (var_like n) t xs = doubled_mapped xs
  searched_mapped p t xs = doubled_mapped xs

  among_mapped : (s : TreeOf N → List (List ℕ)) (r : TreeOf M → List (List ℕ)) → ((t : TreeOf M) → s (map_names f t) ≡ r t) → (es : List (Placed M)) → found_among s (map_placed f es) ≡ found_among r es
  among_mapped s r h [] = refl
  among_mapped s r h (e ∷ es) = λ i. map (λ path. e.0 ++ path) (h e.1 i) ++ among_mapped s r h es i

  by_mapped : (p : PatternOf M) (s : TreeOf N → List (List ℕ)) (r : TreeOf M → List (List ℕ)) → ((t : TreeOf M) → s (map_names f t) ≡ r t) → (t : TreeOf M) (o : FoundOf M) → found_by s (map_pattern f p) (map_names f t) (map_found f o) ≡ found_by r p t o
  by_mapped p s r h t None = ap (found_among s) (children_mapped t) ∙ among_mapped s r h (placed_children t)
  by_mapped p s r h t (Some xs) = ap (λ (ps : List (List ℕ)). [] ∷ ps) (ap (found_among s) (searched_mapped p t xs) ∙ among_mapped s r h (searched_in p t xs))

  within_mapped : (p : PatternOf M) (n : ℕ) (t : TreeOf M) → found_within w (map_pattern f p) n (map_names f t) ≡ found_within v p n t
  within_mapped p zero t = refl
  within_mapped p (suc n) t =
      ap (found_by (found_within w (map_pattern f p) n) (map_pattern f p) (map_names f t)) (match_places_mapped p t)
      ∙ by_mapped p (found_within w (map_pattern f p) n) (found_within v p n) (within_mapped p n) t (match_places v p t)

  -- what a search finds
  pub search_mapped : (p : PatternOf M) (b : SequenceOf M) → all_matches w (map_pattern f p) (map_sequence f b) ≡ all_matches v p b
  search_mapped p b =
      ap (found_among (found w (map_pattern f p))) (numbered_statements_mapped f 0 b.statements)
      ∙ among_mapped (found w (map_pattern f p)) (found v p) (λ t. ap (λ n. found_within w (map_pattern f p) n (map_names f t)) (height-map_names f t) ∙ within_mapped p (height t) t) (numbered_statements 0 b.statements)
