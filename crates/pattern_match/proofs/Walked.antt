-- Lists of patterns that are walked through beside lists of nodes.
use Rattle.std.proofs.Common.{◌≡◌, ℕ, zero, suc, ◌+◌, ◌-◌, ◌<◌, ◌≤◌, List, [], ◌∷◌, length, get_or, take, drop, map, refl, sym, ap, ◌∙◌, arith, Some, None, length-drop}
use Rattle.std.specs.Prelude.{option_and_then}
use Rattle.std.specs.Option.{option_map_or}
use Rattle.std.proofs.lemmas.List.{drop_more, drop_all}
use Rattle.tree_model.specs.Tree.{TreeOf, trees_of, StatementsOf, more_statements}
use Rattle.tree_model.specs.Path.{count}
use Rattle.st_tree.specs.View.{messages_of, statements_of}
use Rattle.st_tree.specs.declared.tree.Message.{Message}
use Rattle.st_tree.specs.declared.tree.Statement.{Statement}
use Rattle.st_tree.proofs.Places.{count-trees_of}
use Rattle.pattern_model.specs.Patterns.{MetaOf, PatternOf, KeywordLike, SelectorLike, of_keywords, StatementsLike, list_meta, count_like}
use Rattle.pattern_model.specs.Bindings.{a_run}
use Rattle.pattern_model.specs.Words.{PatternWordsOf}
use Rattle.pattern_model.specs.MatchTree.{FoundOf, placed, both, deeper, numbered_statements, count_statements, first_statements, other_statements, keyword_places, message_places, one_statement, places, trees_places, places_in_turn, messages_places, statements_places}
use Rattle.patterns.specs.View.{keyword_of, selector_of, patterns_of, messages_from, statements_from}
use Rattle.patterns.specs.declared.tree.PatternKeyword.{PatternKeyword}
use Rattle.patterns.specs.declared.tree.PatternMessage.{PatternMessage}
use Rattle.patterns.specs.declared.tree.PatternStatement.{PatternStatement}

no_both : {N : Type 0} (a b : FoundOf N) → b ≡ None → both a b ≡ None
no_both None b e = refl
no_both (Some xs) b e = ap (both (Some xs)) e

-- one more item is cut off
cut_off : {X : Type 0} (xs : List X) (x : X) (i : ℕ) → i < length xs → x ≡ get_or xs i x → drop i xs ≡ x ∷ drop (i + 1) xs
cut_off xs x i h e = drop_more xs i x h ∙ ap (λ y. y ∷ drop (i + 1) xs) (sym e)

-- nothing is left
nothing : {X : Type 0} (xs : List X) → length xs ≡ 0 → xs ≡ []
nothing [] e = refl
nothing (x ∷ xs) e = absurd (omega (arith, e))

module _ (w : PatternWordsOf ℕ) where
  module _ (ps : List (PatternOf ℕ)) (k i : ℕ) where
    pub trees_next : (p : PatternOf ℕ) (ts others : List (TreeOf ℕ)) (t : TreeOf ℕ) → i < length ps → p ≡ get_or ps i p → ts ≡ t ∷ others
        → trees_places w k (patterns_of (drop i ps)) (trees_of ts) ≡ both (deeper k (places w p t)) (trees_places w (k + 1) (patterns_of (drop (i + 1) ps)) (trees_of others))
    trees_next p ts others t h e is = λ j. trees_places w k (patterns_of (cut_off ps p i h e j)) (trees_of (is j))

    pub trees_short : (p : PatternOf ℕ) (ts : List (TreeOf ℕ)) → i < length ps → p ≡ get_or ps i p → length ts ≡ 0 → trees_places w k (patterns_of (drop i ps)) (trees_of ts) ≡ None
    trees_short p ts h e none = λ j. trees_places w k (patterns_of (cut_off ps p i h e j)) (trees_of (nothing ts none j))

    pub trees_end : (ts : List (TreeOf ℕ)) → length ps ≤ i → length ts ≡ 0 → trees_places w k (patterns_of (drop i ps)) (trees_of ts) ≡ Some []
    trees_end ts h none = λ j. trees_places w k (patterns_of (drop_all i ps h j)) (trees_of (nothing ts none j))

    pub trees_left : (ts : List (TreeOf ℕ)) → length ps ≤ i → 0 < length ts → trees_places w k (patterns_of (drop i ps)) (trees_of ts) ≡ None
    trees_left [] h some = absurd (omega (arith, some))
    trees_left (t ∷ ts) h some = λ j. trees_places w k (patterns_of (drop_all i ps h j)) (trees_of (t ∷ ts))

  -- arguments behind keywords
  pub turn_next : (ps : List (PatternOf ℕ)) (ts : List (TreeOf ℕ)) (xs : List PatternKeyword) (ys : List (List ℕ)) (p : PatternOf ℕ) (t : TreeOf ℕ) (x : PatternKeyword) (y : List ℕ) (k i : ℕ)
      → i < length ps → p ≡ get_or ps i p → i < length ts → t ≡ get_or ts i t → i < length xs → x ≡ get_or xs i x → i < length ys → y ≡ get_or ys i y
      → places_in_turn w k (patterns_of (drop i ps)) (trees_of (drop i ts)) (map keyword_of (drop i xs)) (drop i ys)
      ≡ both (keyword_places (keyword_of x) y) (both (deeper k (places w p t)) (places_in_turn w (k + 1) (patterns_of (drop (i + 1) ps)) (trees_of (drop (i + 1) ts)) (map keyword_of (drop (i + 1) xs)) (drop (i + 1) ys)))
  turn_next ps ts xs ys p t x y k i lp ip lt it lx ix ly iy =
      λ j. places_in_turn w k (patterns_of (cut_off ps p i lp ip j)) (trees_of (cut_off ts t i lt it j)) (map keyword_of (cut_off xs x i lx ix j)) (cut_off ys y i ly iy j)

  pub turn_end : (ps : List (PatternOf ℕ)) (ts : List (TreeOf ℕ)) (xs : List PatternKeyword) (ys : List (List ℕ)) (k i : ℕ) → length ps ≤ i → length ts ≤ i → length xs ≤ i → length ys ≤ i
      → places_in_turn w k (patterns_of (drop i ps)) (trees_of (drop i ts)) (map keyword_of (drop i xs)) (drop i ys) ≡ Some []
  turn_end ps ts xs ys k i lp lt lx ly =
      λ j. places_in_turn w k (patterns_of (drop_all i ps lp j)) (trees_of (drop_all i ts lt j)) (map keyword_of (drop_all i xs lx j)) (drop_all i ys ly j)

  -- whether lists are all as long
  abbrev pub AsLong : List (PatternOf ℕ) → List (TreeOf ℕ) → List PatternKeyword → List (List ℕ) → Type 0
  AsLong ps ts xs ys = (length xs ≡ length ts) × (length ps ≡ length ts) × (length ys ≡ length ts)

  pub turn_apart : (ps : List (PatternOf ℕ)) (ts : List (TreeOf ℕ)) (xs : List PatternKeyword) (ys : List (List ℕ)) (k : ℕ) → (AsLong ps ts xs ys → ⊥) → places_in_turn w k (patterns_of ps) (trees_of ts) (map keyword_of xs) ys ≡ None
  turn_apart [] [] [] [] k h = absurd (h (refl, refl, refl))
  turn_apart [] [] [] (y ∷ ys) k h = refl
  turn_apart [] [] (x ∷ xs) ys k h = refl
  turn_apart [] (t ∷ ts) xs ys k h = refl
  turn_apart (p ∷ ps) [] xs ys k h = refl
  turn_apart (p ∷ ps) (t ∷ ts) [] ys k h = refl
  turn_apart (p ∷ ps) (t ∷ ts) (x ∷ xs) [] k h = refl
  turn_apart (p ∷ ps) (t ∷ ts) (x ∷ xs) (y ∷ ys) k h =
      no_both (keyword_places (keyword_of x) y) _ (no_both (deeper k (places w p t)) _ (turn_apart ps ts xs ys (k + 1) (λ e. h (ap suc e.0, ap suc e.1, ap suc e.2))))

  -- a selector of keywords, whose lists are not as long
  pub keywords_apart : (sel : SelectorLike ℕ) (xs : List PatternKeyword) (s : ℕ) (ps : List (PatternOf ℕ)) (ts : List (TreeOf ℕ)) (ys : List (List ℕ)) (k : ℕ) → sel ≡ of_keywords (map keyword_of xs) → w.keywords s ≡ Some ys → (AsLong ps ts xs ys → ⊥)
      → message_places w k sel s (trees_of ts) (trees_places w k (patterns_of ps) (trees_of ts)) (places_in_turn w k (patterns_of ps) (trees_of ts)) ≡ None
  keywords_apart sel xs s ps ts ys k e h apart =
      let turn : List (KeywordLike ℕ) → List (List ℕ) → FoundOf ℕ = places_in_turn w k (patterns_of ps) (trees_of ts) in
      ap (λ z. message_places w k z s (trees_of ts) (trees_places w k (patterns_of ps) (trees_of ts)) turn) e
      ∙ ap (option_and_then (turn (map keyword_of xs))) h
      ∙ turn_apart ps ts xs ys k apart

  -- one message
  abbrev pub one_message : ℕ → PatternMessage → Message → FoundOf ℕ
  one_message k p m =
      message_places w k (selector_of p.selector) m.selector (trees_of m.arguments) (trees_places w k (patterns_of p.arguments.items) (trees_of m.arguments)) (places_in_turn w k (patterns_of p.arguments.items) (trees_of m.arguments))

  module _ (ps : List PatternMessage) (k i : ℕ) where
    pub messages_next : (p : PatternMessage) (ms others : List Message) (m : Message) (j : ℕ) → i < length ps → p ≡ get_or ps i p → ms ≡ m ∷ others → j ≡ k + length m.arguments
        → messages_places w k (messages_from (drop i ps)) (messages_of ms) ≡ both (one_message k p m) (messages_places w j (messages_from (drop (i + 1) ps)) (messages_of others))
    messages_next p ms others m j h e is next =
        let later : k + count (trees_of m.arguments) ≡ j = ap (λ n. k + n) (count-trees_of m.arguments) ∙ sym next in
        (λ l. messages_places w k (messages_from (cut_off ps p i h e l)) (messages_of (is l)))
        ∙ (λ l. both (one_message k p m) (messages_places w (later l) (messages_from (drop (i + 1) ps)) (messages_of others)))

    pub messages_short : (p : PatternMessage) (ms : List Message) → i < length ps → p ≡ get_or ps i p → length ms ≡ 0 → messages_places w k (messages_from (drop i ps)) (messages_of ms) ≡ None
    messages_short p ms h e none = λ j. messages_places w k (messages_from (cut_off ps p i h e j)) (messages_of (nothing ms none j))

    pub messages_end : (ms : List Message) → length ps ≤ i → length ms ≡ 0 → messages_places w k (messages_from (drop i ps)) (messages_of ms) ≡ Some []
    messages_end ms h none = λ j. messages_places w k (messages_from (drop_all i ps h j)) (messages_of (nothing ms none j))

    pub messages_left : (ms : List Message) → length ps ≤ i → 0 < length ms → messages_places w k (messages_from (drop i ps)) (messages_of ms) ≡ None
    messages_left [] h some = absurd (omega (arith, some))
    messages_left (m ∷ ms) h some = λ j. messages_places w k (messages_from (drop_all i ps h j)) (messages_of (m ∷ ms))

-- lists of statements are counted and cut as lists are
count-statements : (rs : List Statement) → count_statements (statements_of rs) ≡ length rs
count-statements [] = refl
count-statements (r ∷ rs) = let e = count-statements rs in omega (arith, e)

count-like : (ss : List PatternStatement) → count_like (statements_from ss) ≡ length ss
count-like [] = refl
count-like (s ∷ ss) = let e = count-like ss in omega (arith, e)

first-take : (n : ℕ) (rs : List Statement) → first_statements n (statements_of rs) ≡ statements_of (take n rs)
first-take zero [] = refl
first-take (suc n) [] = refl
first-take zero (r ∷ rs) = refl
first-take (suc n) (r ∷ rs) = ap (more_statements r.comments r.node) (first-take n rs)

other-drop : (n : ℕ) (rs : List Statement) → other_statements n (statements_of rs) ≡ statements_of (drop n rs)
other-drop zero [] = refl
other-drop (suc n) [] = refl
other-drop zero (r ∷ rs) = refl
other-drop (suc n) (r ∷ rs) = other-drop n rs

length-drop_one : {X : Type 0} (i : ℕ) (xs : List X) → length (drop (i + 1) xs) ≡ length xs - (i + 1)
length-drop_one i xs = length-drop (i + 1) xs

module _ (w : PatternWordsOf ℕ) (ps : List PatternStatement) (k i : ℕ) where
  -- a list of statements takes as many as the others leave
  pub statements_run : (p : PatternStatement) (m : MetaOf ℕ) (rs run others : List Statement) (n j : ℕ) → i < length ps → p ≡ get_or ps i p → Some m ≡ list_meta p.node
      → n ≡ length rs - (length ps - (i + 1)) → run ≡ take n rs → others ≡ drop n rs → j ≡ k + n
      → statements_places w k (statements_from (drop i ps)) (statements_of rs)
      ≡ both (placed m (a_run (statements_of run)) (numbered_statements k (statements_of run))) (statements_places w j (statements_from (drop (i + 1) ps)) (statements_of others))
  statements_run p m rs run others n j h e is many front back next =
      let ss : StatementsLike ℕ = statements_from (drop (i + 1) ps) in
      let all : StatementsOf ℕ = statements_of rs in
      let later : ℕ = count_statements all - count_like ss in
      let step : later ≡ n = (λ l. count-statements rs l - (count-like (drop (i + 1) ps) ∙ length-drop_one i ps) l) ∙ sym many in
      let f : MetaOf ℕ → FoundOf ℕ = λ x. both (placed x (a_run (first_statements later all)) (numbered_statements k (first_statements later all))) (statements_places w (k + later) ss (other_statements later all)) in
      let d : FoundOf ℕ = one_statement w (λ t us. both (deeper k (places w p.node t)) (statements_places w (k + 1) ss us)) all in
      let a : first_statements later all ≡ statements_of run = ap (λ x. first_statements x all) step ∙ first-take n rs ∙ ap (λ (x : List Statement). statements_of x) (sym front) in
      let b : other_statements later all ≡ statements_of others = ap (λ x. other_statements x all) step ∙ other-drop n rs ∙ ap (λ (x : List Statement). statements_of x) (sym back) in
      let c : k + later ≡ j = ap (λ x. k + x) step ∙ sym next in
      (λ l. statements_places w k (statements_from (cut_off ps p i h e l)) all)
      ∙ ap (λ o. option_map_or f o d) (sym is)
      ∙ (λ l. both (placed m (a_run (a l)) (numbered_statements k (a l))) (statements_places w (c l) ss (b l)))

  -- any other takes one
  pub statements_one : (p : PatternStatement) (rs others : List Statement) (r : Statement) → i < length ps → p ≡ get_or ps i p → None ≡ list_meta p.node → rs ≡ r ∷ others
      → statements_places w k (statements_from (drop i ps)) (statements_of rs) ≡ both (deeper k (places w p.node r.node)) (statements_places w (k + 1) (statements_from (drop (i + 1) ps)) (statements_of others))
  statements_one p rs others r h e is cut =
      let ss : StatementsLike ℕ = statements_from (drop (i + 1) ps) in
      let all : StatementsOf ℕ = statements_of (r ∷ others) in
      let later : ℕ = count_statements all - count_like ss in
      let f : MetaOf ℕ → FoundOf ℕ = λ x. both (placed x (a_run (first_statements later all)) (numbered_statements k (first_statements later all))) (statements_places w (k + later) ss (other_statements later all)) in
      let d : FoundOf ℕ = one_statement w (λ t us. both (deeper k (places w p.node t)) (statements_places w (k + 1) ss us)) all in
      (λ l. statements_places w k (statements_from (cut_off ps p i h e l)) (statements_of (cut l))) ∙ ap (λ o. option_map_or f o d) (sym is)

  pub statements_short : (p : PatternStatement) (rs : List Statement) → i < length ps → p ≡ get_or ps i p → None ≡ list_meta p.node → length rs ≡ 0 → statements_places w k (statements_from (drop i ps)) (statements_of rs) ≡ None
  statements_short p rs h e is none =
      let ss : StatementsLike ℕ = statements_from (drop (i + 1) ps) in
      let all : StatementsOf ℕ = statements_of [] in
      let later : ℕ = count_statements all - count_like ss in
      let f : MetaOf ℕ → FoundOf ℕ = λ x. both (placed x (a_run (first_statements later all)) (numbered_statements k (first_statements later all))) (statements_places w (k + later) ss (other_statements later all)) in
      let d : FoundOf ℕ = one_statement w (λ t us. both (deeper k (places w p.node t)) (statements_places w (k + 1) ss us)) all in
      (λ l. statements_places w k (statements_from (cut_off ps p i h e l)) (statements_of (nothing rs none l))) ∙ ap (λ o. option_map_or f o d) (sym is)

  pub statements_end : (rs : List Statement) → length ps ≤ i → length rs ≡ 0 → statements_places w k (statements_from (drop i ps)) (statements_of rs) ≡ Some []
  statements_end rs h none = λ j. statements_places w k (statements_from (drop_all i ps h j)) (statements_of (nothing rs none j))

  pub statements_left : (rs : List Statement) → length ps ≤ i → 0 < length rs → statements_places w k (statements_from (drop i ps)) (statements_of rs) ≡ None
  statements_left [] h some = absurd (omega (arith, some))
  statements_left (r ∷ rs) h some = λ j. statements_places w k (statements_from (drop_all i ps h j)) (statements_of (r ∷ rs))
