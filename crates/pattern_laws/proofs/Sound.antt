-- Where what is bound agrees with a match, it fills the pattern to the node.
use Rattle.std.proofs.Common.{◌≡◌, refl, sym, ap, ◌∙◌, ℕ, zero, suc, ◌+◌, ◌-◌, List, [], ◌∷◌, map, Option, Some, None}
use Rattle.std.specs.Prelude.{◌&&◌, option_and_then}
use Rattle.std.specs.Cmp.Lexicographic.{pointwise}
use Rattle.std.specs.Option.{option_map_or}
use Rattle.std.proofs.lemmas.Bool.{and_parts}
use Rattle.rb_base.specs.Names.{text_eq}
use Rattle.tree_model.specs.Tree.{Notes, TreeOf, var, literal, send, cascade, assign, block, brace, return, TreesOf, no_trees, more_trees, MessagesOf, no_messages, more_messages, StatementsOf, no_statements, more_statements}
use Rattle.tree_model.specs.Bare.{bare, bare_trees, bare_messages, bare_statements}
use Rattle.tree_model.specs.Path.{count}
use Rattle.pattern_model.specs.Patterns.{MetaOf, KeywordLike, this_keyword, any_keyword, SelectorLike, this_selector, any_unary, of_keywords, any_message, PatternOf, meta, var_like, literal_like, send_like, cascade_like, assign_like, block_like, brace_like, return_like, PatternsOf, no_patterns, more_patterns, MessagesLike, no_messages_like, more_messages_like, StatementsLike, no_statements_like, more_statements_like, list_meta, count_like}
use Rattle.same_trees.specs.SameTrees.{same_literal}
use Rattle.pattern_model.specs.Bindings.{BoundOf, a_part, a_run, a_selector, a_keyword, a_message, bare_bound}
use Rattle.pattern_model.specs.Words.{PatternWordsOf, AreWords}
use Rattle.pattern_model.specs.Fill.{part_in, run_in, selector_in, keyword_in, arguments_in, append_statements, EndedOf, noted, block_of, keyword_filled, selector_filled, arguments_filled, filled, trees_filled, messages_filled, statements_filled}
use Rattle.pattern_model.specs.Matches.{may_stand}
use Rattle.pattern_model.specs.MatchTree.{FoundOf, placed, both, deeper, numbered_statements, count_statements, first_statements, other_statements, keyword_places, message_places, one_statement, places, trees_places, places_in_turn, messages_places, statements_places}
use Rattle.same_trees.proofs.Told.{pointwise_told, text_told, literal_told}
use Rattle.pattern_laws.proofs.Found.{IsAgreed, agreed_both, agreed_where, agreed_deeper}

module _ {N : Type 0} where
  -- what is in a bound has no comments where the bound has none
  pub part_bare : (n : N) (b : BoundOf N) → part_in n (bare_bound b) ≡ bare (part_in n b)
  part_bare n (a_part t) = refl
  part_bare n b = refl

  pub run_bare : (b : BoundOf N) → run_in (bare_bound b) ≡ bare_statements (run_in b)
  run_bare (a_run ss) = refl
  run_bare b = refl

  pub selector_bare : (n : N) (b : BoundOf N) → selector_in n (bare_bound b) ≡ selector_in n b
  selector_bare n (a_selector s) = refl
  selector_bare n (a_message s ts) = refl
  selector_bare n b = refl

  pub keyword_bare : (b : BoundOf N) → keyword_in (bare_bound b) ≡ keyword_in b
  keyword_bare (a_keyword k) = refl
  keyword_bare b = refl

  pub arguments_bare : (b : BoundOf N) → arguments_in (bare_bound b) ≡ bare_trees (arguments_in b)
  arguments_bare (a_message s ts) = refl
  arguments_bare b = refl

  -- statements before others, without comments
  pub bare-append : (ss rs : StatementsOf N) → bare_statements (append_statements ss rs) ≡ append_statements (bare_statements ss) (bare_statements rs)
  bare-append no_statements rs = refl
  bare-append (more_statements c t ss) rs = ap (more_statements [] (bare t)) (bare-append ss rs)

  -- more comments in front do not count
  pub bare-noted : (c : Notes) (ss : StatementsOf N) (e : Notes) → bare_statements (noted c ss e).0 ≡ bare_statements ss
  bare-noted c no_statements e = refl
  bare-noted c (more_statements d t ss) e = refl

  -- the first statements and the others
  pub append-first : (k : ℕ) (ss : StatementsOf N) → append_statements (first_statements k ss) (other_statements k ss) ≡ ss
  append-first zero no_statements = refl
  append-first zero (more_statements c t ss) = refl
  append-first (suc k) no_statements = refl
  append-first (suc k) (more_statements c t ss) = ap (more_statements c t) (append-first k ss)

  -- a block without comments
  pub bare-block_of : (ps ts : List N) (e : EndedOf N) → bare (block_of ps ts e) ≡ block ps ts (bare_statements e.0) []
  bare-block_of ps ts e = refl

module _ {N : Type 0} (w : PatternWordsOf N) (joined : List (List ℕ) → N) (known : AreWords w joined) (bound : MetaOf N → BoundOf N) where
  -- a keyword
  keyword_sound : (k : KeywordLike N) (x : List ℕ) → IsAgreed bound (keyword_places k x) → keyword_filled bound joined k ≡ x
  keyword_sound (this_keyword k) x h = text_told k x (agreed_where bound (text_eq k x) (Some []) h).0
  keyword_sound (any_keyword m) x h = sym (keyword_bare (bound m)) ∙ ap keyword_in h.0

  -- a message, by what is known of its arguments
  message_sound : (k : ℕ) (s : SelectorLike N) (u : N) (ts given : TreesOf N) (arguments : FoundOf N) (in_turn : List (KeywordLike N) → List (List ℕ) → FoundOf N)
      → (IsAgreed bound arguments → bare_trees given ≡ bare_trees ts)
      → ((ks : List (KeywordLike N)) (xs : List (List ℕ)) → IsAgreed bound (in_turn ks xs) → (map (keyword_filled bound joined) ks ≡ xs) × (bare_trees given ≡ bare_trees ts))
      → IsAgreed bound (message_places w k s u ts arguments in_turn)
      → (selector_filled bound joined s ≡ u) × (bare_trees (arguments_filled bound joined s given) ≡ bare_trees ts)
  message_sound k (this_selector n) u ts given arguments in_turn plain keyed h =
      let g = agreed_where bound (w.tests.same n u) arguments h in (known.told n u g.0, plain g.1)
  message_sound k (any_unary m) u ts given arguments in_turn plain keyed h =
      let g = agreed_where bound (w.is_unary u) (both (placed m (a_selector u) []) arguments) h in
      let p = agreed_both bound (placed m (a_selector u) []) arguments g.1 in
      (sym (selector_bare m.name (bound m)) ∙ ap (selector_in m.name) p.0.0, plain p.1)
  message_sound k (of_keywords ks) u ts given arguments in_turn plain keyed h = by (w.keywords u) refl h
    where
      by : (o : Option (List (List ℕ))) → w.keywords u ≡ o → IsAgreed bound (option_and_then (in_turn ks) o) → (joined (map (keyword_filled bound joined) ks) ≡ u) × (bare_trees given ≡ bare_trees ts)
      by None e a = absurd a
      by (Some xs) e a = let g = keyed ks xs a in (ap joined g.0 ∙ known.is_joined u xs e, g.1)
  message_sound k (any_message m) u ts given arguments in_turn plain keyed h =
      (sym (selector_bare m.name (bound m)) ∙ ap (selector_in m.name) h.0, sym (arguments_bare (bound m)) ∙ ap arguments_in h.0)

  -- a statement, or a list of them, by what is known of the others
  statement_sound : (k : ℕ) (c : Notes) (t : TreeOf N) (rest : EndedOf N) (o : Option (MetaOf N)) (n : ℕ) (rs : StatementsOf N) (others : FoundOf N) (one : TreeOf N → StatementsOf N → FoundOf N)
      → (IsAgreed bound others → bare_statements rest.0 ≡ bare_statements (other_statements n rs))
      → ((u : TreeOf N) (us : StatementsOf N) → IsAgreed bound (one u us) → (bare t ≡ bare u) × (bare_statements rest.0 ≡ bare_statements us))
      → IsAgreed bound (option_map_or (λ m. both (placed m (a_run (first_statements n rs)) (numbered_statements k (first_statements n rs))) others) o (one_statement w one rs))
      → bare_statements (noted c (option_map_or (λ m. append_statements (run_in (bound m)) rest.0) o (more_statements [] t rest.0)) rest.1).0 ≡ bare_statements rs
  statement_sound k c t rest (Some m) n rs others one behind first h =
      let g = agreed_both bound (placed m (a_run (first_statements n rs)) (numbered_statements k (first_statements n rs))) others h in
      let a = sym (run_bare (bound m)) ∙ ap run_in g.0.0 in
      let b = behind g.1 in
      bare-noted c (append_statements (run_in (bound m)) rest.0) rest.1
      ∙ (bare-append (run_in (bound m)) rest.0
      ∙ ((λ i. append_statements (a i) (b i))
      ∙ (sym (bare-append (first_statements n rs) (other_statements n rs))
      ∙ ap bare_statements (append-first n rs))))
  statement_sound k c t rest None n no_statements others one behind first h = absurd h
  statement_sound k c t rest None n (more_statements d u us) others one behind first h =
      let g = first u us h in λ i. more_statements [] (g.0 i) (g.1 i)

  -- a pattern
  mutual
    pub sound : (p : PatternOf N) (t : TreeOf N) → IsAgreed bound (places w p t) → bare (filled bound joined p) ≡ bare t
    sound (meta m) t h =
        let g = agreed_where bound (may_stand w.tests.is_pseudo m.kind t) (placed m (a_part t) (([], t) ∷ [])) h in
        sym (part_bare m.name (bound m)) ∙ ap (part_in m.name) g.1.0
    sound (var_like n) (var k) h = ap var (known.told n k (agreed_where bound (w.tests.same n k) (Some []) h).0)
    sound (literal_like l) (literal k) h =
        ap literal (literal_told w.tests.same known.told l k (agreed_where bound (same_literal w.tests.same l k) (Some []) h).0)
    sound (send_like r s ps) (send t u ts) h =
        let g = agreed_both bound (deeper 0 (places w r t)) (message_places w 1 s u ts (trees_places w 1 ps ts) (places_in_turn w 1 ps ts)) h in
        let a = sound r t (agreed_deeper bound 0 (places w r t) g.0) in
        let b = message_sound 1 s u ts (trees_filled bound joined ps) (trees_places w 1 ps ts) (places_in_turn w 1 ps ts) (trees_sound 1 ps ts) (turn_sound 1 ps ts) g.1 in
        λ i. send (a i) (b.0 i) (b.1 i)
    sound (cascade_like r ms) (cascade t us) h =
        let g = agreed_both bound (deeper 0 (places w r t)) (messages_places w 1 ms us) h in
        let a = sound r t (agreed_deeper bound 0 (places w r t) g.0) in
        let b = messages_sound 1 ms us g.1 in
        λ i. cascade (a i) (b i)
    sound (assign_like n p) (assign k t) h =
        let g = agreed_where bound (w.tests.same n k) (deeper 0 (places w p t)) h in
        let a = known.told n k g.0 in
        let b = sound p t (agreed_deeper bound 0 (places w p t) g.1) in
        λ i. assign (a i) (b i)
    sound (block_like ps ts ss e) (block qs us rs f) h =
        let g = agreed_where bound (pointwise w.tests.same ps qs && pointwise w.tests.same ts us) (statements_places w 0 ss rs) h in
        let n = and_parts (pointwise w.tests.same ps qs) (pointwise w.tests.same ts us) g.0 in
        let a = pointwise_told w.tests.same known.told ps qs n.0 in
        let b = pointwise_told w.tests.same known.told ts us n.1 in
        let d = statements_sound 0 ss e rs g.1 in
        λ i. block (a i) (b i) (d i) []
    sound (brace_like ps) (brace ts) h = ap brace (trees_sound 0 ps ts h)
    sound (return_like p) (return t) h = ap return (sound p t (agreed_deeper bound 0 (places w p t) h))
    sound p t h = absurd h

    trees_sound : (k : ℕ) (ps : PatternsOf N) (ts : TreesOf N) → IsAgreed bound (trees_places w k ps ts) → bare_trees (trees_filled bound joined ps) ≡ bare_trees ts
    trees_sound k no_patterns no_trees h = refl
    trees_sound k (more_patterns p ps) (more_trees t ts) h =
        let g = agreed_both bound (deeper k (places w p t)) (trees_places w (k + 1) ps ts) h in
        let a = sound p t (agreed_deeper bound k (places w p t) g.0) in
        let b = trees_sound (k + 1) ps ts g.1 in
        λ i. more_trees (a i) (b i)
    trees_sound k ps ts h = absurd h

    turn_sound : (k : ℕ) (ps : PatternsOf N) (ts : TreesOf N) (xs : List (KeywordLike N)) (ys : List (List ℕ)) → IsAgreed bound (places_in_turn w k ps ts xs ys)
        → (map (keyword_filled bound joined) xs ≡ ys) × (bare_trees (trees_filled bound joined ps) ≡ bare_trees ts)
    turn_sound k no_patterns no_trees [] [] h = (refl, refl)
    turn_sound k (more_patterns p ps) (more_trees t ts) (x ∷ xs) (y ∷ ys) h =
        let g = agreed_both bound (keyword_places x y) (both (deeper k (places w p t)) (places_in_turn w (k + 1) ps ts xs ys)) h in
        let f = agreed_both bound (deeper k (places w p t)) (places_in_turn w (k + 1) ps ts xs ys) g.1 in
        let a = keyword_sound x y g.0 in
        let b = sound p t (agreed_deeper bound k (places w p t) f.0) in
        let d = turn_sound (k + 1) ps ts xs ys f.1 in
        (λ i. a i ∷ d.0 i, λ i. more_trees (b i) (d.1 i))
    turn_sound k ps ts xs ys h = absurd h

    messages_sound : (k : ℕ) (ms : MessagesLike N) (us : MessagesOf N) → IsAgreed bound (messages_places w k ms us) → bare_messages (messages_filled bound joined ms) ≡ bare_messages us
    messages_sound k no_messages_like no_messages h = refl
    messages_sound k (more_messages_like s ps ms) (more_messages u ts us) h =
        let g = agreed_both bound (message_places w k s u ts (trees_places w k ps ts) (places_in_turn w k ps ts)) (messages_places w (k + count ts) ms us) h in
        let b = message_sound k s u ts (trees_filled bound joined ps) (trees_places w k ps ts) (places_in_turn w k ps ts) (trees_sound k ps ts) (turn_sound k ps ts) g.0 in
        let d = messages_sound (k + count ts) ms us g.1 in
        λ i. more_messages (b.0 i) (b.1 i) (d i)
    messages_sound k ms us h = absurd h

    statements_sound : (k : ℕ) (ss : StatementsLike N) (e : Notes) (rs : StatementsOf N) → IsAgreed bound (statements_places w k ss rs) → bare_statements (statements_filled bound joined ss e).0 ≡ bare_statements rs
    statements_sound k no_statements_like e no_statements h = refl
    statements_sound k no_statements_like e (more_statements c t rs) h = absurd h
    statements_sound k (more_statements_like c p ss) e rs h =
        let n : ℕ = count_statements rs - count_like ss in
        statement_sound k c (filled bound joined p) (statements_filled bound joined ss e) (list_meta p) n rs
        (statements_places w (k + n) ss (other_statements n rs))
        (λ t us. both (deeper k (places w p t)) (statements_places w (k + 1) ss us))
        (λ h. statements_sound (k + n) ss e (other_statements n rs) h)
        (λ t us h.
        let g = agreed_both bound (deeper k (places w p t)) (statements_places w (k + 1) ss us) h in
        (sound p t (agreed_deeper bound k (places w p t) g.0), statements_sound (k + 1) ss e us g.1))
        h
