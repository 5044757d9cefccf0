-- What stands for metavariables in a node is no higher than the node, and lower where the pattern is more than a metavariable.
use Rattle.std.proofs.Common.{ℕ, zero, suc, ◌+◌, ◌-◌, ◌≤◌, List, [], ◌∷◌, map, Option, Some, None, arith}
use Rattle.std.specs.Prelude.{Bool, true, false, ◌&&◌, option_and_then}
use Rattle.std.specs.Cmp.Lexicographic.{pointwise}
use Rattle.std.specs.List.{AllByRecursion}
use Rattle.std.specs.Option.{option_map_or}
use Rattle.rb_base.specs.Names.{text_eq}
use Rattle.tree_model.specs.Tree.{LiteralOf, number, str, symbol, char, array, bytes, word, TreeOf, var, literal, send, cascade, assign, block, brace, return, TreesOf, no_trees, more_trees, MessagesOf, no_messages, more_messages, StatementsOf, no_statements, more_statements}
use Rattle.tree_model.specs.Measure.{literal_height, height, trees_height, messages_height, statements_height}
use Rattle.tree_model.specs.Path.{count, append, all_arguments, statement_trees, children}
use Rattle.tree_model.specs.Nodes.{Placed, below_step}
use Rattle.pattern_model.specs.Patterns.{MetaOf, KeywordLike, this_keyword, any_keyword, SelectorLike, this_selector, any_unary, of_keywords, any_message, PatternOf, meta, var_like, literal_like, send_like, cascade_like, assign_like, block_like, brace_like, return_like, PatternsOf, no_patterns, more_patterns, MessagesLike, no_messages_like, more_messages_like, StatementsLike, no_statements_like, more_statements_like, list_meta, count_like}
use Rattle.same_trees.specs.SameTrees.{same_literal}
use Rattle.pattern_model.specs.Bindings.{BoundOf, a_part, a_run, a_selector, a_keyword, a_message}
use Rattle.pattern_model.specs.Words.{PatternWordsOf}
use Rattle.pattern_model.specs.Matches.{may_stand}
use Rattle.pattern_model.specs.MatchTree.{PlaceOf, FoundOf, placed, both, where_holds, stepped, deeper, numbered, numbered_statements, count_statements, first_statements, other_statements, keyword_places, message_places, one_statement, places, trees_places, places_in_turn, messages_places, statements_places}
use Rattle.pattern_laws.proofs.Found.{all_append}

module _ {N : Type 0} where
  -- how high what is bound is
  abbrev pub bound_height : BoundOf N → ℕ
  bound_height (a_part t) = height t
  bound_height (a_run ss) = statements_height ss
  bound_height (a_selector s) = 0
  bound_height (a_keyword k) = 0
  bound_height (a_message s ts) = trees_height ts

  -- each node is no higher than n
  abbrev pub AreWithin : ℕ → List (Placed N) → Type 0
  AreWithin n es = AllByRecursion (λ e. height e.1 ≤ n) es

  abbrev pub IsPlaceWithin : ℕ → PlaceOf N → Type 0
  IsPlaceWithin n x = (bound_height x.bound ≤ n) × AreWithin n x.parts

  -- what stands at each place of a match, if there is one, is no higher than n
  abbrev pub IsWithin : ℕ → FoundOf N → Type 0
  IsWithin n None = Unit {0}
  IsWithin n (Some xs) = AllByRecursion (IsPlaceWithin n) xs

  within_both : (n : ℕ) (a b : FoundOf N) → IsWithin n a → IsWithin n b → IsWithin n (both a b)
  within_both n (Some xs) (Some ys) h g = all_append (IsPlaceWithin n) xs ys h g
  within_both n (Some xs) None h g = tt
  within_both n None b h g = tt

  within_where : (n : ℕ) (b : Bool) (o : FoundOf N) → IsWithin n o → IsWithin n (where_holds b o)
  within_where n true o h = h
  within_where n false o h = tt

  within_step : (n k : ℕ) (es : List (Placed N)) → AreWithin n es → AreWithin n (below_step k es)
  within_step n k [] h = tt
  within_step n k (e ∷ es) h = (h.0, within_step n k es h.1)

  within_stepped : (n k : ℕ) (xs : List (PlaceOf N)) → AllByRecursion (IsPlaceWithin n) xs → AllByRecursion (IsPlaceWithin n) (map (stepped k) xs)
  within_stepped n k [] h = tt
  within_stepped n k (x ∷ xs) h = ((h.0.0, within_step n k x.parts h.0.1), within_stepped n k xs h.1)

  within_deeper : (n k : ℕ) (o : FoundOf N) → IsWithin n o → IsWithin n (deeper k o)
  within_deeper n k None h = tt
  within_deeper n k (Some xs) h = within_stepped n k xs h

  -- trees and statements with their steps
  pub numbered_within : (n k : ℕ) (ts : TreesOf N) → trees_height ts ≤ n → AreWithin n (numbered k ts)
  numbered_within n k no_trees h = tt
  numbered_within n k (more_trees t ts) h =
      let a : height t ≤ n = omega (arith, h) in
      let b : trees_height ts ≤ n = omega (arith, h) in
      (a, numbered_within n (k + 1) ts b)

  pub statements_within : (n k : ℕ) (ss : StatementsOf N) → statements_height ss ≤ n → AreWithin n (numbered_statements k ss)
  statements_within n k no_statements h = tt
  statements_within n k (more_statements c t ss) h =
      let a : height t ≤ n = omega (arith, h) in
      let b : statements_height ss ≤ n = omega (arith, h) in
      (a, statements_within n (k + 1) ss b)

  first_within : (n k : ℕ) (ss : StatementsOf N) → statements_height ss ≤ n → statements_height (first_statements k ss) ≤ n
  first_within n zero no_statements h = h
  first_within n zero (more_statements c t ss) h = omega arith
  first_within n (suc k) no_statements h = h
  first_within n (suc k) (more_statements c t ss) h =
      let b : statements_height ss ≤ n = omega (arith, h) in
      let g = first_within n k ss b in
      omega (arith, h, g)

  others_within : (n k : ℕ) (ss : StatementsOf N) → statements_height ss ≤ n → statements_height (other_statements k ss) ≤ n
  others_within n zero no_statements h = h
  others_within n zero (more_statements c t ss) h = h
  others_within n (suc k) no_statements h = h
  others_within n (suc k) (more_statements c t ss) h = let b : statements_height ss ≤ n = omega (arith, h) in others_within n k ss b

  -- the nodes right below a node are lower
  trees_append : (n : ℕ) (ts us : TreesOf N) → trees_height ts ≤ n → trees_height us ≤ n → trees_height (append ts us) ≤ n
  trees_append n no_trees us h g = g
  trees_append n (more_trees t ts) us h g =
      let b : trees_height ts ≤ n = omega (arith, h) in
      let f = trees_append n ts us b g in
      omega (arith, h, f)

  arguments_within : (n : ℕ) (ms : MessagesOf N) → messages_height ms ≤ n → trees_height (all_arguments ms) ≤ n
  arguments_within n no_messages h = h
  arguments_within n (more_messages s ts ms) h =
      let a : trees_height ts ≤ n = omega (arith, h) in
      let b : messages_height ms ≤ n = omega (arith, h) in
      trees_append n ts (all_arguments ms) a (arguments_within n ms b)

  statement_trees_within : (n : ℕ) (ss : StatementsOf N) → statements_height ss ≤ n → trees_height (statement_trees ss) ≤ n
  statement_trees_within n no_statements h = h
  statement_trees_within n (more_statements c t ss) h =
      let b : statements_height ss ≤ n = omega (arith, h) in
      let f = statement_trees_within n ss b in
      omega (arith, h, f)

  pub children_within : (n : ℕ) (t : TreeOf N) → height t ≤ n + 1 → trees_height (children t) ≤ n
  children_within n (var x) h = omega arith
  children_within n (literal l) h = omega arith
  children_within n (send r s ts) h = omega (arith, h)
  children_within n (cascade r ms) h =
      let b : messages_height ms ≤ n = omega (arith, h) in
      let f = arguments_within n ms b in
      omega (arith, h, f)
  children_within n (assign x t) h = omega (arith, h)
  children_within n (block ps ts ss e) h = let b : statements_height ss ≤ n = omega (arith, h) in statement_trees_within n ss b
  children_within n (brace ts) h = omega (arith, h)
  children_within n (return t) h = omega (arith, h)

  -- a node has a height
  literal_high : (l : LiteralOf N) → 1 ≤ literal_height l
  literal_high (number t) = omega arith
  literal_high (str t) = omega arith
  literal_high (symbol t) = omega arith
  literal_high (char b) = omega arith
  literal_high (array ls) = omega arith
  literal_high (bytes ls) = omega arith
  literal_high (word n) = omega arith

  pub high : (t : TreeOf N) → 1 ≤ height t
  high (var n) = omega arith
  high (literal l) = literal_high l
  high (send r s ts) = omega arith
  high (cascade r ms) = omega arith
  high (assign n t) = omega arith
  high (block ps ts ss e) = omega arith
  high (brace ts) = omega arith
  high (return t) = omega arith

  -- how high a node may be for a pattern so that what stands in it is no higher than n
  abbrev pub IsLowFor : ℕ → PatternOf N → TreeOf N → Type 0
  IsLowFor n (meta m) t = height t ≤ n
  IsLowFor n p t = height t ≤ n + 1

  low : (n : ℕ) (p : PatternOf N) (t : TreeOf N) → height t ≤ n → IsLowFor n p t
  low n (meta m) t h = h
  low n (var_like x) t h = omega (arith, h)
  low n p t h = omega (arith, h)

module _ {N : Type 0} (w : PatternWordsOf N) (n : ℕ) where
  message_within : (k : ℕ) (s : SelectorLike N) (u : N) (ts : TreesOf N) (arguments : FoundOf N) (in_turn : List (KeywordLike N) → List (List ℕ) → FoundOf N)
      → trees_height ts ≤ n → IsWithin n arguments → ((xs : List (KeywordLike N)) (ys : List (List ℕ)) → IsWithin n (in_turn xs ys))
      → IsWithin n (message_places w k s u ts arguments in_turn)
  message_within k (this_selector x) u ts arguments in_turn h plain keyed = within_where n (w.tests.same x u) arguments plain
  message_within k (any_unary m) u ts arguments in_turn h plain keyed =
      within_where n (w.is_unary u) (both (placed m (a_selector u) []) arguments) (within_both n (placed m (a_selector u) []) arguments ((omega arith, tt), tt) plain)
  message_within k (of_keywords xs) u ts arguments in_turn h plain keyed = by (w.keywords u)
    where
      by : (o : Option (List (List ℕ))) → IsWithin n (option_and_then (in_turn xs) o)
      by None = tt
      by (Some ys) = keyed xs ys
  message_within k (any_message m) u ts arguments in_turn h plain keyed = ((h, numbered_within n k ts h), tt)

  keyword_within : (x : KeywordLike N) (y : List ℕ) → IsWithin n (keyword_places x y)
  keyword_within (this_keyword k) y = within_where n (text_eq k y) (Some []) tt
  keyword_within (any_keyword m) y = ((omega arith, tt), tt)

  statement_within : (k : ℕ) (o : Option (MetaOf N)) (run rs : StatementsOf N) (others : FoundOf N) (one : TreeOf N → StatementsOf N → FoundOf N)
      → statements_height run ≤ n → statements_height rs ≤ n → IsWithin n others
      → ((t : TreeOf N) (us : StatementsOf N) → height t ≤ n → statements_height us ≤ n → IsWithin n (one t us))
      → IsWithin n (option_map_or (λ m. both (placed m (a_run run) (numbered_statements k run)) others) o (one_statement w one rs))
  statement_within k (Some m) run rs others one g h behind first =
      within_both n (placed m (a_run run) (numbered_statements k run)) others ((g, statements_within n k run g), tt) behind
  statement_within k None run no_statements others one g h behind first = tt
  statement_within k None run (more_statements c t us) others one g h behind first =
      let a : height t ≤ n = omega (arith, h) in
      let b : statements_height us ≤ n = omega (arith, h) in
      first t us a b

  mutual
    pub within : (p : PatternOf N) (t : TreeOf N) → IsLowFor n p t → IsWithin n (places w p t)
    within (meta m) t h =
        within_where n (may_stand w.tests.is_pseudo m.kind t) (placed m (a_part t) (([], t) ∷ [])) ((h, (h, tt)), tt)
    within (var_like x) (var k) h = within_where n (w.tests.same x k) (Some []) tt
    within (literal_like x) (literal y) h = within_where n (same_literal w.tests.same x y) (Some []) tt
    within (send_like r s ps) (send t u ts) h =
        let a : height t ≤ n = omega (arith, h) in
        let b : trees_height ts ≤ n = omega (arith, h) in
        within_both n (deeper 0 (places w r t)) (message_places w 1 s u ts (trees_places w 1 ps ts) (places_in_turn w 1 ps ts))
        (within_deeper n 0 (places w r t) (within r t (low n r t a)))
        (message_within 1 s u ts (trees_places w 1 ps ts) (places_in_turn w 1 ps ts) b (trees_in 1 ps ts b) (λ xs ys. turn_in 1 ps ts xs ys b))
    within (cascade_like r ms) (cascade t us) h =
        let a : height t ≤ n = omega (arith, h) in
        let b : messages_height us ≤ n = omega (arith, h) in
        within_both n (deeper 0 (places w r t)) (messages_places w 1 ms us)
        (within_deeper n 0 (places w r t) (within r t (low n r t a))) (messages_in 1 ms us b)
    within (assign_like x p) (assign k t) h =
        let a : height t ≤ n = omega (arith, h) in
        within_where n (w.tests.same x k) (deeper 0 (places w p t)) (within_deeper n 0 (places w p t) (within p t (low n p t a)))
    within (block_like ps ts ss e) (block qs us rs f) h =
        let a : statements_height rs ≤ n = omega (arith, h) in
        within_where n (pointwise w.tests.same ps qs && pointwise w.tests.same ts us) (statements_places w 0 ss rs) (statements_in 0 ss rs a)
    within (brace_like ps) (brace ts) h = let a : trees_height ts ≤ n = omega (arith, h) in trees_in 0 ps ts a
    within (return_like p) (return t) h =
        let a : height t ≤ n = omega (arith, h) in within_deeper n 0 (places w p t) (within p t (low n p t a))
    within p t h = tt

    trees_in : (k : ℕ) (ps : PatternsOf N) (ts : TreesOf N) → trees_height ts ≤ n → IsWithin n (trees_places w k ps ts)
    trees_in k no_patterns no_trees h = tt
    trees_in k (more_patterns p ps) (more_trees t ts) h =
        let a : height t ≤ n = omega (arith, h) in
        let b : trees_height ts ≤ n = omega (arith, h) in
        within_both n (deeper k (places w p t)) (trees_places w (k + 1) ps ts) (within_deeper n k (places w p t) (within p t (low n p t a))) (trees_in (k + 1) ps ts b)
    trees_in k ps ts h = tt

    turn_in : (k : ℕ) (ps : PatternsOf N) (ts : TreesOf N) (xs : List (KeywordLike N)) (ys : List (List ℕ)) → trees_height ts ≤ n → IsWithin n (places_in_turn w k ps ts xs ys)
    turn_in k no_patterns no_trees [] [] h = tt
    turn_in k (more_patterns p ps) (more_trees t ts) (x ∷ xs) (y ∷ ys) h =
        let a : height t ≤ n = omega (arith, h) in
        let b : trees_height ts ≤ n = omega (arith, h) in
        within_both n (keyword_places x y) (both (deeper k (places w p t)) (places_in_turn w (k + 1) ps ts xs ys)) (keyword_within x y)
        (within_both n (deeper k (places w p t)) (places_in_turn w (k + 1) ps ts xs ys) (within_deeper n k (places w p t) (within p t (low n p t a))) (turn_in (k + 1) ps ts xs ys b))
    turn_in k ps ts xs ys h = tt

    messages_in : (k : ℕ) (ms : MessagesLike N) (us : MessagesOf N) → messages_height us ≤ n → IsWithin n (messages_places w k ms us)
    messages_in k no_messages_like no_messages h = tt
    messages_in k (more_messages_like s ps ms) (more_messages u ts us) h =
        let a : trees_height ts ≤ n = omega (arith, h) in
        let b : messages_height us ≤ n = omega (arith, h) in
        within_both n (message_places w k s u ts (trees_places w k ps ts) (places_in_turn w k ps ts)) (messages_places w (k + count ts) ms us)
        (message_within k s u ts (trees_places w k ps ts) (places_in_turn w k ps ts) a (trees_in k ps ts a) (λ xs ys. turn_in k ps ts xs ys a))
        (messages_in (k + count ts) ms us b)
    messages_in k ms us h = tt

    statements_in : (k : ℕ) (ss : StatementsLike N) (rs : StatementsOf N) → statements_height rs ≤ n → IsWithin n (statements_places w k ss rs)
    statements_in k no_statements_like no_statements h = tt
    statements_in k no_statements_like (more_statements c t rs) h = tt
    statements_in k (more_statements_like c p ss) rs h =
        let m : ℕ = count_statements rs - count_like ss in
        statement_within k (list_meta p) (first_statements m rs) rs
        (statements_places w (k + m) ss (other_statements m rs))
        (λ t us. both (deeper k (places w p t)) (statements_places w (k + 1) ss us))
        (first_within n m rs h) h
        (statements_in (k + m) ss (other_statements m rs) (others_within n m rs h))
        (λ t us a b.
        within_both n (deeper k (places w p t)) (statements_places w (k + 1) ss us)
        (within_deeper n k (places w p t) (within p t (low n p t a))) (statements_in (k + 1) ss us b))
