-- A match goes along with a change of names, where names are asked through the change.
use Rattle.std.proofs.Common.{◌≡◌, refl, sym, ap, ◌∙◌, ℕ, zero, suc, ◌+◌, ◌-◌, List, [], ◌∷◌, ◌++◌, map, Option, Some, None}
use Rattle.std.specs.Prelude.{Bool, true, false, ◌&&◌, option_map, option_and_then}
use Rattle.std.specs.Cmp.Lexicographic.{pointwise}
use Rattle.std.specs.Option.{option_map_or}
use Rattle.rb_base.specs.Names.{text_eq}
use Rattle.tree_model.specs.Tree.{TreeOf, var, literal, send, cascade, assign, block, brace, return, TreesOf, no_trees, more_trees, MessagesOf, no_messages, more_messages, StatementsOf, no_statements, more_statements, map_names, map_trees, map_messages, map_statements}
use Rattle.tree_model.specs.Path.{count}
use Rattle.tree_model.specs.Nodes.{Placed, below_step, map_placed}
use Rattle.tree_model.proofs.Children.{count-map_trees}
use Rattle.pattern_model.specs.declared.kinds.MetaKind.{MetaKind}
use Rattle.pattern_model.specs.declared.kinds.MetaKind.TheVariants.{Name, Constant, Expression, StatementList}
use Rattle.pattern_model.specs.Patterns.{MetaOf, KeywordLike, this_keyword, any_keyword, SelectorLike, this_selector, any_unary, of_keywords, any_message, PatternOf, meta, var_like, literal_like, send_like, cascade_like, assign_like, block_like, brace_like, return_like, PatternsOf, no_patterns, more_patterns, MessagesLike, no_messages_like, more_messages_like, StatementsLike, no_statements_like, more_statements_like, list_kind, list_meta, count_like}
use Rattle.same_trees.specs.SameTrees.{same_literal}
use Rattle.pattern_model.specs.Bindings.{a_part, a_run, a_selector, a_message}
use Rattle.pattern_model.specs.Words.{PatternWordsOf}
use Rattle.pattern_model.specs.Named.{map_meta, map_keyword, map_selector, map_pattern, map_patterns, map_messages_like, map_statements_like, map_bound, asked_through}
use Rattle.pattern_model.specs.Matches.{may_stand}
use Rattle.pattern_model.specs.MatchTree.{PlaceOf, FoundOf, placed, both, where_holds, stepped, deeper, numbered, numbered_statements, count_statements, first_statements, other_statements, keyword_places, message_places, one_statement, places, trees_places, places_in_turn, messages_places, statements_places}
use Rattle.same_trees.proofs.Named.{names_mapped, literal_mapped}

module _ {M N : Type 0} (f : M → N) where
  -- a place, and the places of a match, with each name changed
  abbrev pub map_place : PlaceOf M → PlaceOf N
  map_place x = record { meta = map_meta f x.meta; bound = map_bound f x.bound; parts = map_placed f x.parts }

  abbrev pub map_found : FoundOf M → FoundOf N
  map_found o = option_map (map map_place) o

  places_append : (xs ys : List (PlaceOf M)) → map map_place (xs ++ ys) ≡ map map_place xs ++ map map_place ys
  places_append [] ys = refl
  places_append (x ∷ xs) ys = ap (λ (zs : List (PlaceOf N)). map_place x ∷ zs) (places_append xs ys)

  both_mapped : (a b : FoundOf M) → both (map_found a) (map_found b) ≡ map_found (both a b)
  both_mapped (Some xs) (Some ys) = ap (λ (zs : List (PlaceOf N)). Some zs) (sym (places_append xs ys))
  both_mapped (Some xs) None = refl
  both_mapped None b = refl

  pub where_mapped : (b : Bool) (o : FoundOf M) → where_holds b (map_found o) ≡ map_found (where_holds b o)
  where_mapped true o = refl
  where_mapped false o = refl

  step_mapped : (k : ℕ) (es : List (Placed M)) → below_step k (map_placed f es) ≡ map_placed f (below_step k es)
  step_mapped k [] = refl
  step_mapped k (e ∷ es) = ap (λ (ds : List (Placed N)). (k ∷ e.0, map_names f e.1) ∷ ds) (step_mapped k es)

  stepped_mapped : (k : ℕ) (xs : List (PlaceOf M)) → map (stepped k) (map map_place xs) ≡ map map_place (map (stepped k) xs)
  stepped_mapped k [] = refl
  stepped_mapped k (x ∷ xs) =
      λ i. record { meta = map_meta f x.meta; bound = map_bound f x.bound; parts = step_mapped k x.parts i } ∷ stepped_mapped k xs i

  deeper_mapped : (k : ℕ) (o : FoundOf M) → deeper k (map_found o) ≡ map_found (deeper k o)
  deeper_mapped k None = refl
  deeper_mapped k (Some xs) = ap (λ (zs : List (PlaceOf N)). Some zs) (stepped_mapped k xs)

  pub numbered_mapped : (k : ℕ) (ts : TreesOf M) → numbered k (map_trees f ts) ≡ map_placed f (numbered k ts)
  numbered_mapped k no_trees = refl
  numbered_mapped k (more_trees t ts) = ap (λ (ds : List (Placed N)). (k ∷ [], map_names f t) ∷ ds) (numbered_mapped (k + 1) ts)

  pub numbered_statements_mapped : (k : ℕ) (ss : StatementsOf M) → numbered_statements k (map_statements f ss) ≡ map_placed f (numbered_statements k ss)
  numbered_statements_mapped k no_statements = refl
  numbered_statements_mapped k (more_statements c t ss) = ap (λ (ds : List (Placed N)). (k ∷ [], map_names f t) ∷ ds) (numbered_statements_mapped (k + 1) ss)

  count_statements_mapped : (ss : StatementsOf M) → count_statements (map_statements f ss) ≡ count_statements ss
  count_statements_mapped no_statements = refl
  count_statements_mapped (more_statements c t ss) = ap (λ (n : ℕ). n + 1) (count_statements_mapped ss)

  count_like_mapped : (ss : StatementsLike M) → count_like (map_statements_like f ss) ≡ count_like ss
  count_like_mapped no_statements_like = refl
  count_like_mapped (more_statements_like c p ss) = ap (λ (n : ℕ). n + 1) (count_like_mapped ss)

  first_mapped : (k : ℕ) (ss : StatementsOf M) → first_statements k (map_statements f ss) ≡ map_statements f (first_statements k ss)
  first_mapped zero no_statements = refl
  first_mapped zero (more_statements c t ss) = refl
  first_mapped (suc k) no_statements = refl
  first_mapped (suc k) (more_statements c t ss) = ap (more_statements c (map_names f t)) (first_mapped k ss)

  others_mapped : (k : ℕ) (ss : StatementsOf M) → other_statements k (map_statements f ss) ≡ map_statements f (other_statements k ss)
  others_mapped zero no_statements = refl
  others_mapped zero (more_statements c t ss) = refl
  others_mapped (suc k) no_statements = refl
  others_mapped (suc k) (more_statements c t ss) = others_mapped k ss

  list_kind_mapped : (k : MetaKind) (m : MetaOf M) → list_kind k (map_meta f m) ≡ option_map (map_meta f) (list_kind k m)
  list_kind_mapped StatementList m = refl
  list_kind_mapped k m = refl

  pub list_meta_mapped : (p : PatternOf M) → list_meta (map_pattern f p) ≡ option_map (map_meta f) (list_meta p)
  list_meta_mapped (meta m) = list_kind_mapped m.kind m
  list_meta_mapped p = refl

  stand_mapped : (pseudo : N → Bool) (k : MetaKind) (t : TreeOf M) → may_stand pseudo k (map_names f t) ≡ may_stand (λ n. pseudo (f n)) k t
  stand_mapped pseudo Name (var n) = refl
  stand_mapped pseudo Name t = refl
  stand_mapped pseudo Constant (literal l) = refl
  stand_mapped pseudo Constant t = refl
  stand_mapped pseudo Expression (return t) = refl
  stand_mapped pseudo Expression t = refl
  stand_mapped pseudo k t = refl

module _ {M N : Type 0} (f : M → N) (w : PatternWordsOf N) where
  keyword_mapped : (x : KeywordLike M) (y : List ℕ) → keyword_places (map_keyword f x) y ≡ map_found f (keyword_places x y)
  keyword_mapped (this_keyword k) y = where_mapped f (text_eq k y) (Some [])
  keyword_mapped (any_keyword m) y = refl

  message_mapped : (k : ℕ) (s : SelectorLike M) (u : M) (ts : TreesOf M) (a : FoundOf N) (b : FoundOf M) (c : List (KeywordLike N) → List (List ℕ) → FoundOf N) (d : List (KeywordLike M) → List (List ℕ) → FoundOf M)
      → a ≡ map_found f b
      → ((xs : List (KeywordLike M)) (ys : List (List ℕ)) → c (map (map_keyword f) xs) ys ≡ map_found f (d xs ys))
      → message_places w k (map_selector f s) (f u) (map_trees f ts) a c ≡ map_found f (message_places (asked_through f w) k s u ts b d)
  message_mapped k (this_selector n) u ts a b c d e g = ap (where_holds (w.tests.same (f n) (f u))) e ∙ where_mapped f (w.tests.same (f n) (f u)) b
  message_mapped k (any_unary m) u ts a b c d e g =
      ap (λ o. where_holds (w.is_unary (f u)) (both (placed (map_meta f m) (a_selector (f u)) []) o)) e
      ∙ (ap (where_holds (w.is_unary (f u))) (both_mapped f (placed m (a_selector u) []) b)
      ∙ where_mapped f (w.is_unary (f u)) (both (placed m (a_selector u) []) b))
  message_mapped k (of_keywords xs) u ts a b c d e g = by (w.keywords (f u))
    where
      by : (o : Option (List (List ℕ))) → option_and_then (c (map (map_keyword f) xs)) o ≡ map_found f (option_and_then (d xs) o)
      by None = refl
      by (Some ys) = g xs ys
  message_mapped k (any_message m) u ts a b c d e g =
      λ i. Some (record { meta = map_meta f m; bound = a_message (f u) (map_trees f ts); parts = numbered_mapped f k ts i } ∷ [])

  statement_mapped : (k : ℕ) (o : Option (MetaOf M)) (run rs : StatementsOf M) (a : FoundOf N) (b : FoundOf M) (c : TreeOf N → StatementsOf N → FoundOf N) (d : TreeOf M → StatementsOf M → FoundOf M)
      → a ≡ map_found f b → ((t : TreeOf M) (us : StatementsOf M) → c (map_names f t) (map_statements f us) ≡ map_found f (d t us))
      → option_map_or (λ m. both (placed m (a_run (map_statements f run)) (numbered_statements k (map_statements f run))) a) (option_map (map_meta f) o) (one_statement w c (map_statements f rs))
      ≡ map_found f (option_map_or (λ m. both (placed m (a_run run) (numbered_statements k run)) b) o (one_statement (asked_through f w) d rs))
  statement_mapped k (Some m) run rs a b c d e g =
      (λ i. both (Some (record { meta = map_meta f m; bound = a_run (map_statements f run); parts = numbered_statements_mapped f k run i } ∷ [])) (e i))
      ∙ both_mapped f (placed m (a_run run) (numbered_statements k run)) b
  statement_mapped k None run no_statements a b c d e g = refl
  statement_mapped k None run (more_statements n t us) a b c d e g = g t us

  mutual
    pub places_mapped : (p : PatternOf M) (t : TreeOf M) → places w (map_pattern f p) (map_names f t) ≡ map_found f (places (asked_through f w) p t)
    places_mapped (meta m) t =
        ap (λ b. where_holds b (placed (map_meta f m) (a_part (map_names f t)) (([], map_names f t) ∷ []))) (stand_mapped f w.tests.is_pseudo m.kind t)
        ∙ where_mapped f (may_stand (λ n. w.tests.is_pseudo (f n)) m.kind t) (placed m (a_part t) (([], t) ∷ []))
    places_mapped (var_like n) (var k) = where_mapped f (w.tests.same (f n) (f k)) (Some [])
    places_mapped (literal_like x) (literal y) =
        ap (λ b. where_holds b (Some [])) (literal_mapped f w.tests.same x y) ∙ where_mapped f (same_literal (λ m n. w.tests.same (f m) (f n)) x y) (Some [])
    places_mapped (send_like r s ps) (send t u ts) =
        (λ i. both (down 0 r t (places_mapped r t) i) (message_mapped 1 s u ts (trees_places w 1 (map_patterns f ps) (map_trees f ts)) (trees_places (asked_through f w) 1 ps ts)
        (places_in_turn w 1 (map_patterns f ps) (map_trees f ts)) (places_in_turn (asked_through f w) 1 ps ts) (trees_placed 1 ps ts) (λ xs ys. turn_placed 1 ps ts xs ys) i))
        ∙ both_mapped f (deeper 0 (places (asked_through f w) r t)) (message_places (asked_through f w) 1 s u ts (trees_places (asked_through f w) 1 ps ts) (places_in_turn (asked_through f w) 1 ps ts))
      where
        down : (k : ℕ) (p : PatternOf M) (t : TreeOf M) → places w (map_pattern f p) (map_names f t) ≡ map_found f (places (asked_through f w) p t) → deeper k (places w (map_pattern f p) (map_names f t)) ≡ map_found f (deeper k (places (asked_through f w) p t))
        down k p t e = ap (deeper k) e ∙ deeper_mapped f k (places (asked_through f w) p t)
    places_mapped (cascade_like r ms) (cascade t us) =
        (λ i. both ((ap (deeper 0) (places_mapped r t) ∙ deeper_mapped f 0 (places (asked_through f w) r t)) i) (messages_placed 1 ms us i))
        ∙ both_mapped f (deeper 0 (places (asked_through f w) r t)) (messages_places (asked_through f w) 1 ms us)
    places_mapped (assign_like n p) (assign k t) =
        ap (where_holds (w.tests.same (f n) (f k))) (ap (deeper 0) (places_mapped p t) ∙ deeper_mapped f 0 (places (asked_through f w) p t))
        ∙ where_mapped f (w.tests.same (f n) (f k)) (deeper 0 (places (asked_through f w) p t))
    places_mapped (block_like ps ts ss e) (block qs us rs g) =
        (λ i. where_holds (names_mapped f w.tests.same ps qs i && names_mapped f w.tests.same ts us i) (statements_placed 0 ss rs i))
        ∙ where_mapped f (pointwise (λ m n. w.tests.same (f m) (f n)) ps qs && pointwise (λ m n. w.tests.same (f m) (f n)) ts us) (statements_places (asked_through f w) 0 ss rs)
    places_mapped (brace_like ps) (brace ts) = trees_placed 0 ps ts
    places_mapped (return_like p) (return t) = ap (deeper 0) (places_mapped p t) ∙ deeper_mapped f 0 (places (asked_through f w) p t)
    places_mapped p t = refl

    trees_placed : (k : ℕ) (ps : PatternsOf M) (ts : TreesOf M) → trees_places w k (map_patterns f ps) (map_trees f ts) ≡ map_found f (trees_places (asked_through f w) k ps ts)
    trees_placed k no_patterns no_trees = refl
    trees_placed k (more_patterns p ps) (more_trees t ts) =
        (λ i. both ((ap (deeper k) (places_mapped p t) ∙ deeper_mapped f k (places (asked_through f w) p t)) i) (trees_placed (k + 1) ps ts i))
        ∙ both_mapped f (deeper k (places (asked_through f w) p t)) (trees_places (asked_through f w) (k + 1) ps ts)
    trees_placed k ps ts = refl

    turn_placed : (k : ℕ) (ps : PatternsOf M) (ts : TreesOf M) (xs : List (KeywordLike M)) (ys : List (List ℕ)) → places_in_turn w k (map_patterns f ps) (map_trees f ts) (map (map_keyword f) xs) ys ≡ map_found f (places_in_turn (asked_through f w) k ps ts xs ys)
    turn_placed k no_patterns no_trees [] [] = refl
    turn_placed k (more_patterns p ps) (more_trees t ts) (x ∷ xs) (y ∷ ys) =
        (λ i. both (keyword_mapped x y i) (both ((ap (deeper k) (places_mapped p t) ∙ deeper_mapped f k (places (asked_through f w) p t)) i) (turn_placed (k + 1) ps ts xs ys i)))
        ∙ (ap (both (map_found f (keyword_places x y))) (both_mapped f (deeper k (places (asked_through f w) p t)) (places_in_turn (asked_through f w) (k + 1) ps ts xs ys))
        ∙ both_mapped f (keyword_places x y) (both (deeper k (places (asked_through f w) p t)) (places_in_turn (asked_through f w) (k + 1) ps ts xs ys)))
    turn_placed k ps ts xs ys = refl

    messages_placed : (k : ℕ) (ms : MessagesLike M) (us : MessagesOf M) → messages_places w k (map_messages_like f ms) (map_messages f us) ≡ map_found f (messages_places (asked_through f w) k ms us)
    messages_placed k no_messages_like no_messages = refl
    messages_placed k (more_messages_like s ps ms) (more_messages u ts us) =
        (λ i. both
        (message_mapped k s u ts (trees_places w k (map_patterns f ps) (map_trees f ts)) (trees_places (asked_through f w) k ps ts) (places_in_turn w k (map_patterns f ps) (map_trees f ts)) (places_in_turn (asked_through f w) k ps ts) (trees_placed k ps ts) (λ xs ys. turn_placed k ps ts xs ys) i)
        (messages_places w (k + count-map_trees f ts i) (map_messages_like f ms) (map_messages f us)))
        ∙ (ap (both (map_found f (message_places (asked_through f w) k s u ts (trees_places (asked_through f w) k ps ts) (places_in_turn (asked_through f w) k ps ts)))) (messages_placed (k + count ts) ms us)
        ∙ both_mapped f (message_places (asked_through f w) k s u ts (trees_places (asked_through f w) k ps ts) (places_in_turn (asked_through f w) k ps ts)) (messages_places (asked_through f w) (k + count ts) ms us))
    messages_placed k ms us = refl

    statements_placed : (k : ℕ) (ss : StatementsLike M) (rs : StatementsOf M) → statements_places w k (map_statements_like f ss) (map_statements f rs) ≡ map_found f (statements_places (asked_through f w) k ss rs)
    statements_placed k no_statements_like no_statements = refl
    statements_placed k no_statements_like (more_statements c t rs) = refl
    statements_placed k (more_statements_like c p ss) rs =
        let n : ℕ = count_statements rs - count_like ss in
        let many : count_statements (map_statements f rs) - count_like (map_statements_like f ss) ≡ n = λ i. count_statements_mapped f rs i - count_like_mapped f ss i in
        (λ i. option_map_or
        (λ m. both (placed m (a_run (first_statements (many i) (map_statements f rs))) (numbered_statements k (first_statements (many i) (map_statements f rs)))) (statements_places w (k + many i) (map_statements_like f ss) (other_statements (many i) (map_statements f rs))))
        (list_meta_mapped f p i)
        (one_statement w (λ t us. both (deeper k (places w (map_pattern f p) t)) (statements_places w (k + 1) (map_statements_like f ss) us)) (map_statements f rs)))
        ∙ ((λ i. option_map_or
        (λ m. both (placed m (a_run (first_mapped f n rs i)) (numbered_statements k (first_mapped f n rs i))) (statements_places w (k + n) (map_statements_like f ss) (others_mapped f n rs i)))
        (option_map (map_meta f) (list_meta p))
        (one_statement w (λ t us. both (deeper k (places w (map_pattern f p) t)) (statements_places w (k + 1) (map_statements_like f ss) us)) (map_statements f rs)))
        ∙ statement_mapped k (list_meta p) (first_statements n rs) rs
        (statements_places w (k + n) (map_statements_like f ss) (map_statements f (other_statements n rs)))
        (statements_places (asked_through f w) (k + n) ss (other_statements n rs))
        (λ t us. both (deeper k (places w (map_pattern f p) t)) (statements_places w (k + 1) (map_statements_like f ss) us))
        (λ t us. both (deeper k (places (asked_through f w) p t)) (statements_places (asked_through f w) (k + 1) ss us))
        (statements_placed (k + n) ss (other_statements n rs))
        (λ t us.
        (λ i. both ((ap (deeper k) (places_mapped p t) ∙ deeper_mapped f k (places (asked_through f w) p t)) i) (statements_placed (k + 1) ss us i))
        ∙ both_mapped f (deeper k (places (asked_through f w) p t)) (statements_places (asked_through f w) (k + 1) ss us)))
