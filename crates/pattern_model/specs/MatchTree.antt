-- What stands at each metavariable of a pattern in a node, and the bindings that this makes.
use Rattle.std.specs.Prelude.{ℕ, zero, suc, ◌+◌, ◌-◌, if◌then◌else◌, Bool, true, false, not, ◌&&◌, ◌||◌, List, [], ◌∷◌, ◌++◌, map, filter, Option, Some, None, option_map, option_and_then}
use Rattle.std.specs.List.{list_all}
use Rattle.std.specs.Option.{option_map_or}
use Rattle.std.specs.Cmp.Lexicographic.{pointwise}
use Rattle.rb_base.specs.Names.{text_eq}
use Rattle.tree_model.specs.Tree.{TreeOf, var, literal, send, cascade, assign, block, brace, return, TreesOf, no_trees, more_trees, MessagesOf, no_messages, more_messages, StatementsOf, no_statements, more_statements}
use Rattle.tree_model.specs.Path.{count}
use Rattle.tree_model.specs.Nodes.{Placed, below_step}
use Rattle.pattern_model.specs.Patterns.{MetaOf, KeywordLike, this_keyword, any_keyword, SelectorLike, this_selector, any_unary, of_keywords, any_message, PatternOf, meta, var_like, literal_like, send_like, cascade_like, assign_like, block_like, brace_like, return_like, PatternsOf, no_patterns, more_patterns, MessagesLike, no_messages_like, more_messages_like, StatementsLike, no_statements_like, more_statements_like, list_meta, count_like}
use Rattle.same_trees.specs.SameTrees.{same_literal, same_tree, same_trees, same_statements}
use Rattle.pattern_model.specs.Bindings.{BoundOf, a_part, a_run, a_selector, a_keyword, a_message, BindingOf, same_meta, doubled_by}
use Rattle.pattern_model.specs.Words.{PatternWordsOf}
use Rattle.pattern_model.specs.Matches.{may_stand}

-- a place of a metavariable: what stands there, and the nodes of which it is made, with their paths
pub record PlaceOf (N : Type 0) : Type 0 where
  pub meta : MetaOf N
  pub bound : BoundOf N
  pub parts : List (Placed N)

-- the places of a match, where there is one
abbrev pub FoundOf : Type 0 → Type 0
FoundOf N = Option (List (PlaceOf N))

-- one place
abbrev pub placed : {N : Type 0} → MetaOf N → BoundOf N → List (Placed N) → FoundOf N
placed m b parts = Some (record { meta = m; bound = b; parts = parts } ∷ [])

-- the places of both matches, where both are there
abbrev pub both : {N : Type 0} → FoundOf N → FoundOf N → FoundOf N
both (Some xs) (Some ys) = Some (xs ++ ys)
both (Some xs) None = None
both None o = None

-- the match, where a test holds
abbrev pub where_holds : {N : Type 0} → Bool → FoundOf N → FoundOf N
where_holds b o = if b then o else None

-- the match, one step deeper
abbrev pub stepped : {N : Type 0} → ℕ → PlaceOf N → PlaceOf N
stepped k x = record x { parts = below_step k x.parts }

abbrev pub deeper : {N : Type 0} → ℕ → FoundOf N → FoundOf N
deeper k o = option_map (map (stepped k)) o

-- the trees with their steps, which go up from k
abbrev pub numbered : {N : Type 0} → ℕ → TreesOf N → List (Placed N)
numbered k no_trees = []
numbered k (more_trees t ts) = (k ∷ [], t) ∷ numbered (k + 1) ts

abbrev pub numbered_statements : {N : Type 0} → ℕ → StatementsOf N → List (Placed N)
numbered_statements k no_statements = []
numbered_statements k (more_statements c t ss) = (k ∷ [], t) ∷ numbered_statements (k + 1) ss

-- how many statements there are, the first k of them, and the others
abbrev pub count_statements : {N : Type 0} → StatementsOf N → ℕ
count_statements no_statements = 0
count_statements (more_statements c t ss) = count_statements ss + 1

abbrev pub first_statements : {N : Type 0} → ℕ → StatementsOf N → StatementsOf N
first_statements k no_statements = no_statements
first_statements zero (more_statements c t ss) = no_statements
first_statements (suc k) (more_statements c t ss) = more_statements c t (first_statements k ss)

abbrev pub other_statements : {N : Type 0} → ℕ → StatementsOf N → StatementsOf N
other_statements k no_statements = no_statements
other_statements zero (more_statements c t ss) = more_statements c t ss
other_statements (suc k) (more_statements c t ss) = other_statements k ss

-- a keyword and what stands for it
abbrev pub keyword_places : {N : Type 0} → KeywordLike N → List ℕ → FoundOf N
keyword_places (this_keyword k) x = where_holds (text_eq k x) (Some [])
keyword_places (any_keyword m) x = placed m (a_keyword x) []

-- a message and its arguments, whose steps go up from k: the places in the arguments, and in each keyword and its argument
abbrev pub message_places : {N : Type 0} → PatternWordsOf N → ℕ → SelectorLike N → N → TreesOf N → FoundOf N → (List (KeywordLike N) → List (List ℕ) → FoundOf N) → FoundOf N
message_places w k (this_selector n) s ts arguments in_turn = where_holds (w.tests.same n s) arguments
message_places w k (any_unary m) s ts arguments in_turn = where_holds (w.is_unary s) (both (placed m (a_selector s) []) arguments)
message_places w k (of_keywords ks) s ts arguments in_turn = option_and_then (in_turn ks) (w.keywords s)
message_places w k (any_message m) s ts arguments in_turn = placed m (a_message s ts) (numbered k ts)

module _ {N : Type 0} (w : PatternWordsOf N) where
  -- the first statement, and the others
  abbrev pub one_statement : (TreeOf N → StatementsOf N → FoundOf N) → StatementsOf N → FoundOf N
  one_statement f no_statements = None
  one_statement f (more_statements c t ss) = f t ss

  -- the places of a pattern's metavariables in a node, in the order of the text, if all else is equal
  abbrev mutual
    pub places : PatternOf N → TreeOf N → FoundOf N
    places (meta m) t = where_holds (may_stand w.tests.is_pseudo m.kind t) (placed m (a_part t) (([], t) ∷ []))
    places (var_like n) (var k) = where_holds (w.tests.same n k) (Some [])
    places (literal_like l) (literal k) = where_holds (same_literal w.tests.same l k) (Some [])
    places (send_like r s ps) (send t u ts) =
        both (deeper 0 (places r t)) (message_places w 1 s u ts (trees_places 1 ps ts) (places_in_turn 1 ps ts))
    places (cascade_like r ms) (cascade t us) = both (deeper 0 (places r t)) (messages_places 1 ms us)
    places (assign_like n p) (assign k t) = where_holds (w.tests.same n k) (deeper 0 (places p t))
    places (block_like ps ts ss e) (block qs us rs f) =
        where_holds (pointwise w.tests.same ps qs && pointwise w.tests.same ts us) (statements_places 0 ss rs)
    places (brace_like ps) (brace ts) = trees_places 0 ps ts
    places (return_like p) (return t) = deeper 0 (places p t)
    places p t = None

    pub trees_places : ℕ → PatternsOf N → TreesOf N → FoundOf N
    trees_places k no_patterns no_trees = Some []
    trees_places k (more_patterns p ps) (more_trees t ts) = both (deeper k (places p t)) (trees_places (k + 1) ps ts)
    trees_places k ps ts = None

    -- each keyword before its argument
    pub places_in_turn : ℕ → PatternsOf N → TreesOf N → List (KeywordLike N) → List (List ℕ) → FoundOf N
    places_in_turn k no_patterns no_trees [] [] = Some []
    places_in_turn k (more_patterns p ps) (more_trees t ts) (x ∷ xs) (y ∷ ys) =
        both (keyword_places x y) (both (deeper k (places p t)) (places_in_turn (k + 1) ps ts xs ys))
    places_in_turn k ps ts xs ys = None

    pub messages_places : ℕ → MessagesLike N → MessagesOf N → FoundOf N
    messages_places k no_messages_like no_messages = Some []
    messages_places k (more_messages_like s ps ms) (more_messages u ts us) =
        both (message_places w k s u ts (trees_places k ps ts) (places_in_turn k ps ts)) (messages_places (k + count ts) ms us)
    messages_places k ms us = None

    -- a list of statements is as long as the other statements leave
    pub statements_places : ℕ → StatementsLike N → StatementsOf N → FoundOf N
    statements_places k no_statements_like no_statements = Some []
    statements_places k no_statements_like (more_statements c t rs) = None
    statements_places k (more_statements_like c p ss) rs =
        let n : ℕ = count_statements rs - count_like ss in
        let run : StatementsOf N = first_statements n rs in
        option_map_or (λ m. both (placed m (a_run run) (numbered_statements k run)) (statements_places (k + n) ss (other_statements n rs))) (list_meta p)
        (one_statement (λ t us. both (deeper k (places p t)) (statements_places (k + 1) ss us)) rs)

  -- whether two bounds are equal, comments aside
  abbrev pub same_bound : BoundOf N → BoundOf N → Bool
  same_bound (a_part t) (a_part u) = same_tree w.tests.same t u
  same_bound (a_run ss) (a_run rs) = same_statements w.tests.same ss rs
  same_bound (a_selector s) (a_selector u) = w.tests.same s u
  same_bound (a_keyword k) (a_keyword l) = text_eq k l
  same_bound (a_message s ts) (a_message u us) = w.tests.same s u && same_trees w.tests.same ts us
  same_bound b d = false

  -- whether equal parts stand at all places of one metavariable
  abbrev pub agree : List (PlaceOf N) → Bool
  agree [] = true
  agree (x ∷ xs) = list_all (λ y. not (same_meta w.tests.same x.meta y.meta) || same_bound x.bound y.bound) xs && agree xs

  -- each metavariable bound to what stands at its first place
  abbrev pub bindings_of : List (PlaceOf N) → List (BindingOf N)
  bindings_of [] = []
  bindings_of (x ∷ xs) =
      record { meta = doubled_by w.tests.same (map (λ y. y.meta) xs) x.meta; bound = x.bound }
      ∷ filter (λ b. not (same_meta w.tests.same x.meta b.meta)) (bindings_of xs)

  -- the places of a match
  abbrev pub match_places : PatternOf N → TreeOf N → FoundOf N
  match_places p t = option_and_then (λ xs. where_holds (agree xs) (Some xs)) (places p t)

  -- the bindings with which a pattern is the node, comments aside
  abbrev pub match_tree : PatternOf N → TreeOf N → Option (List (BindingOf N))
  match_tree p t = option_map bindings_of (match_places p t)
