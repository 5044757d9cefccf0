-- The paths of the parts at the places of a match lead to these parts.
use Rattle.std.proofs.Common.{◌≡◌, refl, ap, ◌∙◌, ℕ, zero, suc, ◌+◌, ◌-◌, List, [], ◌∷◌, map, Option, Some, None, arith}
use Rattle.std.specs.Prelude.{Bool, true, false, ◌&&◌, option_and_then}
use Rattle.std.specs.Cmp.Lexicographic.{pointwise}
use Rattle.std.specs.List.{AllByRecursion}
use Rattle.std.specs.Option.{option_map_or}
use Rattle.rb_base.specs.Names.{text_eq}
use Rattle.tree_model.specs.Tree.{TreeOf, var, literal, send, cascade, assign, block, brace, return, TreesOf, no_trees, more_trees, MessagesOf, no_messages, more_messages, StatementsOf, no_statements, more_statements}
use Rattle.tree_model.specs.Path.{count, append, nth, all_arguments, statement_trees, children, child, part_at}
use Rattle.tree_model.specs.Nodes.{Placed, below_step}
use Rattle.pattern_model.specs.Patterns.{MetaOf, KeywordLike, this_keyword, any_keyword, SelectorLike, this_selector, any_unary, of_keywords, any_message, PatternOf, meta, var_like, literal_like, send_like, cascade_like, assign_like, block_like, brace_like, return_like, PatternsOf, no_patterns, more_patterns, MessagesLike, no_messages_like, more_messages_like, StatementsLike, no_statements_like, more_statements_like, list_meta, count_like}
use Rattle.same_trees.specs.SameTrees.{same_literal}
use Rattle.pattern_model.specs.Bindings.{a_part, a_run, a_selector}
use Rattle.pattern_model.specs.Words.{PatternWordsOf}
use Rattle.pattern_model.specs.Matches.{may_stand}
use Rattle.pattern_model.specs.MatchTree.{PlaceOf, FoundOf, placed, both, where_holds, stepped, deeper, numbered, numbered_statements, count_statements, first_statements, other_statements, keyword_places, message_places, one_statement, places, trees_places, places_in_turn, messages_places, statements_places}
use Rattle.pattern_laws.proofs.Found.{all_append}

module _ {N : Type 0} (t : TreeOf N) where
  -- these trees stand right below the node, from a step on
  abbrev pub AreBelow : ℕ → TreesOf N → Type 0
  AreBelow k ts = (i : ℕ) (u : TreeOf N) → nth ts i ≡ Some u → child t (k + i) ≡ Some u

  -- the paths lead to the parts
  abbrev pub AreLed : List (Placed N) → Type 0
  AreLed es = AllByRecursion (λ e. part_at t e.0 ≡ Some e.1) es

  abbrev pub IsLed : FoundOf N → Type 0
  IsLed None = Unit {0}
  IsLed (Some xs) = AllByRecursion (λ x. AreLed x.parts) xs

  pub all_below : AreBelow 0 (children t)
  all_below i u e = let same : 0 + i ≡ i = omega arith in ap (λ k. child t k) same ∙ e

  first_below : (k : ℕ) (u : TreeOf N) (us : TreesOf N) → AreBelow k (more_trees u us) → child t k ≡ Some u
  first_below k u us h = let same : k ≡ k + 0 = omega arith in ap (λ j. child t j) same ∙ h 0 u refl

  others_below : (k : ℕ) (u : TreeOf N) (us : TreesOf N) → AreBelow k (more_trees u us) → AreBelow (k + 1) us
  others_below k u us h i v e = let same : k + 1 + i ≡ k + suc i = omega arith in ap (λ j. child t j) same ∙ h (suc i) v e

  front_below : (k : ℕ) (ts us : TreesOf N) → AreBelow k (append ts us) → AreBelow k ts
  front_below k ts us h i v e = h i v (by ts i e)
    where
      by : (ts : TreesOf N) (i : ℕ) → nth ts i ≡ Some v → nth (append ts us) i ≡ Some v
      by no_trees i e = let bad : ⊥ = cc in absurd bad
      by (more_trees u ts) zero e = e
      by (more_trees u ts) (suc i) e = by ts i e

  back_below : (k : ℕ) (ts us : TreesOf N) → AreBelow k (append ts us) → AreBelow (k + count ts) us
  back_below k no_trees us h = λ i v e. let same : k + 0 + i ≡ k + i = omega arith in ap (λ j. child t j) same ∙ h i v e
  back_below k (more_trees u ts) us h = λ i v e.
      let same : k + (count ts + 1) + i ≡ k + 1 + count ts + i = omega arith in
      ap (λ j. child t j) same ∙ back_below (k + 1) ts us (others_below k u (append ts us) h) i v e

  run_below : (k n : ℕ) (ss : StatementsOf N) → AreBelow k (statement_trees ss) → AreBelow k (statement_trees (first_statements n ss))
  run_below k n ss h i v e = h i v (by n ss i e)
    where
      by : (n : ℕ) (ss : StatementsOf N) (i : ℕ) → nth (statement_trees (first_statements n ss)) i ≡ Some v → nth (statement_trees ss) i ≡ Some v
      by zero no_statements i e = e
      by (suc n) no_statements i e = e
      by zero (more_statements c u ss) i e = let bad : ⊥ = cc in absurd bad
      by (suc n) (more_statements c u ss) zero e = e
      by (suc n) (more_statements c u ss) (suc i) e = by n ss i e

  rest_below : (k n : ℕ) (ss : StatementsOf N) → AreBelow k (statement_trees ss) → AreBelow (k + n) (statement_trees (other_statements n ss))
  rest_below k zero no_statements h = λ i v e. let bad : ⊥ = cc in absurd bad
  rest_below k (suc n) no_statements h = λ i v e. let bad : ⊥ = cc in absurd bad
  rest_below k zero (more_statements c u ss) h = λ i v e. let same : k + 0 + i ≡ k + i = omega arith in ap (λ j. child t j) same ∙ h i v e
  rest_below k (suc n) (more_statements c u ss) h = λ i v e.
      let same : k + suc n + i ≡ k + 1 + n + i = omega arith in
      ap (λ j. child t j) same ∙ rest_below (k + 1) n ss (others_below k u (statement_trees ss) h) i v e

  -- trees and statements with their steps
  pub numbered_led : (k : ℕ) (ts : TreesOf N) → AreBelow k ts → AreLed (numbered k ts)
  numbered_led k no_trees h = tt
  numbered_led k (more_trees u us) h =
      (ap (λ o. option_and_then (λ (c : TreeOf N). Some c) o) (first_below k u us h), numbered_led (k + 1) us (others_below k u us h))

  statements_led : (k : ℕ) (ss : StatementsOf N) → AreBelow k (statement_trees ss) → AreLed (numbered_statements k ss)
  statements_led k no_statements h = tt
  statements_led k (more_statements c u ss) h =
      (ap (λ o. option_and_then (λ (c : TreeOf N). Some c) o) (first_below k u (statement_trees ss) h), statements_led (k + 1) ss (others_below k u (statement_trees ss) h))

  led_both : (a b : FoundOf N) → IsLed a → IsLed b → IsLed (both a b)
  led_both (Some xs) (Some ys) h g = all_append (λ (x : PlaceOf N). AreLed x.parts) xs ys h g
  led_both (Some xs) None h g = tt
  led_both None b h g = tt

  led_where : (b : Bool) (o : FoundOf N) → IsLed o → IsLed (where_holds b o)
  led_where true o h = h
  led_where false o h = tt

module _ {N : Type 0} (t u : TreeOf N) (k : ℕ) (below : child t k ≡ Some u) where
  -- one step deeper
  step_led : (es : List (Placed N)) → AreLed u es → AreLed t (below_step k es)
  step_led [] h = tt
  step_led (e ∷ es) h = (ap (λ o. option_and_then (λ c. part_at c e.0) o) below ∙ h.0, step_led es h.1)

  stepped_led : (xs : List (PlaceOf N)) → AllByRecursion (λ x. AreLed u x.parts) xs → AllByRecursion (λ x. AreLed t x.parts) (map (stepped k) xs)
  stepped_led [] h = tt
  stepped_led (x ∷ xs) h = (step_led x.parts h.0, stepped_led xs h.1)

  led_deeper : (o : FoundOf N) → IsLed u o → IsLed t (deeper k o)
  led_deeper None h = tt
  led_deeper (Some xs) h = stepped_led xs h

module _ {N : Type 0} (w : PatternWordsOf N) where
  message_led : (t : TreeOf N) (k : ℕ) (s : SelectorLike N) (x : N) (ts : TreesOf N) (arguments : FoundOf N) (in_turn : List (KeywordLike N) → List (List ℕ) → FoundOf N)
      → AreBelow t k ts → IsLed t arguments → ((xs : List (KeywordLike N)) (ys : List (List ℕ)) → IsLed t (in_turn xs ys))
      → IsLed t (message_places w k s x ts arguments in_turn)
  message_led t k (this_selector n) x ts arguments in_turn h plain keyed = led_where t (w.tests.same n x) arguments plain
  message_led t k (any_unary m) x ts arguments in_turn h plain keyed =
      led_where t (w.is_unary x) (both (placed m (a_selector x) []) arguments) (led_both t (placed m (a_selector x) []) arguments (tt, tt) plain)
  message_led t k (of_keywords xs) x ts arguments in_turn h plain keyed = by (w.keywords x)
    where
      by : (o : Option (List (List ℕ))) → IsLed t (option_and_then (in_turn xs) o)
      by None = tt
      by (Some ys) = keyed xs ys
  message_led t k (any_message m) x ts arguments in_turn h plain keyed = (numbered_led t k ts h, tt)

  keyword_led : (t : TreeOf N) (x : KeywordLike N) (y : List ℕ) → IsLed t (keyword_places x y)
  keyword_led t (this_keyword k) y = led_where t (text_eq k y) (Some []) tt
  keyword_led t (any_keyword m) y = (tt, tt)

  statement_led : (t : TreeOf N) (k : ℕ) (o : Option (MetaOf N)) (run rs : StatementsOf N) (others : FoundOf N) (one : TreeOf N → StatementsOf N → FoundOf N)
      → AreBelow t k (statement_trees run) → AreBelow t k (statement_trees rs) → IsLed t others
      → ((u : TreeOf N) (us : StatementsOf N) → child t k ≡ Some u → AreBelow t (k + 1) (statement_trees us) → IsLed t (one u us))
      → IsLed t (option_map_or (λ m. both (placed m (a_run run) (numbered_statements k run)) others) o (one_statement w one rs))
  statement_led t k (Some m) run rs others one g h behind first =
      led_both t (placed m (a_run run) (numbered_statements k run)) others (statements_led t k run g, tt) behind
  statement_led t k None run no_statements others one g h behind first = tt
  statement_led t k None run (more_statements c u us) others one g h behind first =
      first u us (first_below t k u (statement_trees us) h) (others_below t k u (statement_trees us) h)

  mutual
    pub led : (p : PatternOf N) (t : TreeOf N) → IsLed t (places w p t)
    led (meta m) t = led_where t (may_stand w.tests.is_pseudo m.kind t) (placed m (a_part t) (([], t) ∷ [])) ((refl, tt), tt)
    led (var_like n) (var k) = led_where (var k) (w.tests.same n k) (Some []) tt
    led (literal_like x) (literal y) = led_where (literal y) (same_literal w.tests.same x y) (Some []) tt
    led (send_like r s ps) (send u x ts) =
        let t : TreeOf N = send u x ts in
        let args : AreBelow t 1 ts = others_below t 0 u ts (all_below t) in
        led_both t (deeper 0 (places w r u)) (message_places w 1 s x ts (trees_places w 1 ps ts) (places_in_turn w 1 ps ts))
        (led_deeper t u 0 refl (places w r u) (led r u))
        (message_led t 1 s x ts (trees_places w 1 ps ts) (places_in_turn w 1 ps ts) args (trees_led ps t 1 ts args) (λ xs ys. turn_led ps t 1 ts xs ys args))
    led (cascade_like r ms) (cascade u us) =
        let t : TreeOf N = cascade u us in
        led_both t (deeper 0 (places w r u)) (messages_places w 1 ms us) (led_deeper t u 0 refl (places w r u) (led r u))
        (messages_led ms t 1 us (others_below t 0 u (all_arguments us) (all_below t)))
    led (assign_like n p) (assign k u) =
        led_where (assign k u) (w.tests.same n k) (deeper 0 (places w p u)) (led_deeper (assign k u) u 0 refl (places w p u) (led p u))
    led (block_like ps ts ss e) (block qs us rs f) =
        led_where (block qs us rs f) (pointwise w.tests.same ps qs && pointwise w.tests.same ts us) (statements_places w 0 ss rs)
        (statements_led_in ss (block qs us rs f) 0 rs (all_below (block qs us rs f)))
    led (brace_like ps) (brace ts) = trees_led ps (brace ts) 0 ts (all_below (brace ts))
    led (return_like p) (return u) = led_deeper (return u) u 0 refl (places w p u) (led p u)
    led p t = tt

    trees_led : (ps : PatternsOf N) (t : TreeOf N) (k : ℕ) (ts : TreesOf N) → AreBelow t k ts → IsLed t (trees_places w k ps ts)
    trees_led no_patterns t k no_trees h = tt
    trees_led (more_patterns p ps) t k (more_trees u ts) h =
        led_both t (deeper k (places w p u)) (trees_places w (k + 1) ps ts) (led_deeper t u k (first_below t k u ts h) (places w p u) (led p u))
        (trees_led ps t (k + 1) ts (others_below t k u ts h))
    trees_led ps t k ts h = tt

    turn_led : (ps : PatternsOf N) (t : TreeOf N) (k : ℕ) (ts : TreesOf N) (xs : List (KeywordLike N)) (ys : List (List ℕ)) → AreBelow t k ts → IsLed t (places_in_turn w k ps ts xs ys)
    turn_led no_patterns t k no_trees [] [] h = tt
    turn_led (more_patterns p ps) t k (more_trees u ts) (x ∷ xs) (y ∷ ys) h =
        led_both t (keyword_places x y) (both (deeper k (places w p u)) (places_in_turn w (k + 1) ps ts xs ys)) (keyword_led t x y)
        (led_both t (deeper k (places w p u)) (places_in_turn w (k + 1) ps ts xs ys) (led_deeper t u k (first_below t k u ts h) (places w p u) (led p u))
        (turn_led ps t (k + 1) ts xs ys (others_below t k u ts h)))
    turn_led ps t k ts xs ys h = tt

    messages_led : (ms : MessagesLike N) (t : TreeOf N) (k : ℕ) (us : MessagesOf N) → AreBelow t k (all_arguments us) → IsLed t (messages_places w k ms us)
    messages_led no_messages_like t k no_messages h = tt
    messages_led (more_messages_like s ps ms) t k (more_messages x ts us) h =
        let args : AreBelow t k ts = front_below t k ts (all_arguments us) h in
        led_both t (message_places w k s x ts (trees_places w k ps ts) (places_in_turn w k ps ts)) (messages_places w (k + count ts) ms us)
        (message_led t k s x ts (trees_places w k ps ts) (places_in_turn w k ps ts) args (trees_led ps t k ts args) (λ xs ys. turn_led ps t k ts xs ys args))
        (messages_led ms t (k + count ts) us (back_below t k ts (all_arguments us) h))
    messages_led ms t k us h = tt

    statements_led_in : (ss : StatementsLike N) (t : TreeOf N) (k : ℕ) (rs : StatementsOf N) → AreBelow t k (statement_trees rs) → IsLed t (statements_places w k ss rs)
    statements_led_in no_statements_like t k no_statements h = tt
    statements_led_in no_statements_like t k (more_statements c u rs) h = tt
    statements_led_in (more_statements_like c p ss) t k rs h =
        let n : ℕ = count_statements rs - count_like ss in
        statement_led t k (list_meta p) (first_statements n rs) rs
        (statements_places w (k + n) ss (other_statements n rs))
        (λ u us. both (deeper k (places w p u)) (statements_places w (k + 1) ss us))
        (run_below t k n rs h) h
        (statements_led_in ss t (k + n) (other_statements n rs) (rest_below t k n rs h))
        (λ u us a b.
        led_both t (deeper k (places w p u)) (statements_places w (k + 1) ss us) (led_deeper t u k a (places w p u) (led p u))
        (statements_led_in ss t (k + 1) us b))
