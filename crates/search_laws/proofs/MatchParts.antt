-- The parts that stand for metavariables are in the order of the text, and none is in another.
use Rattle.std.proofs.Common.{◌≡◌, ◌⊎◌, inl, inr, ℕ, zero, suc, ◌+◌, ◌-◌, ◌<◌, ◌≤◌, List, [], ◌∷◌, ◌++◌, Option, Some, None, refl, sym, ap, subst, ◌∙◌, append_assoc, arith}
use Rattle.std.specs.Prelude.{Bool, true, false, if◌then◌else◌, map, option_and_then}
use Rattle.std.specs.Option.{option_map_or}
use Rattle.std.proofs.lemmas.List.{append-nil, map-append}
use Rattle.tree_model.specs.Tree.{TreeOf, var, literal, send, cascade, assign, block, brace, return, TreesOf, no_trees, more_trees, MessagesOf, no_messages, more_messages, StatementsOf, no_statements, more_statements}
use Rattle.tree_model.specs.Path.{count, children}
use Rattle.tree_model.specs.Nodes.{Placed, below_step}
use Rattle.pattern_model.specs.Patterns.{MetaOf, KeywordLike, this_keyword, any_keyword, SelectorLike, this_selector, any_unary, of_keywords, any_message, PatternOf, meta, var_like, literal_like, send_like, cascade_like, assign_like, block_like, brace_like, return_like, PatternsOf, no_patterns, more_patterns, MessagesLike, no_messages_like, more_messages_like, StatementsLike, no_statements_like, more_statements_like, list_meta, count_like}
use Rattle.pattern_model.specs.Bindings.{BoundOf, a_part, a_run, a_selector, a_keyword, a_message}
use Rattle.pattern_model.specs.Words.{PatternWordsOf}
use Rattle.pattern_model.specs.MatchTree.{PlaceOf, FoundOf, placed, both, where_holds, stepped, deeper, numbered, numbered_statements, count_statements, first_statements, other_statements, keyword_places, message_places, one_statement, places, trees_places, places_in_turn, messages_places, statements_places, agree, match_places}
use Rattle.pattern_model.specs.Search.{doubled_parts, placed_children, searched_in}
use Rattle.search_laws.proofs.Sorted.{Sorted, Span, From, span-from, none-from, none-span, glued-from, glued-span, below-span}

-- a path is further to the left than another one: they part
abbrev pub IsLeftOf : List ℕ → List ℕ → Type 0
IsLeftOf [] q = ⊥
IsLeftOf (j ∷ p) [] = ⊥
IsLeftOf (j ∷ p) (k ∷ q) = (j < k) ⊎ ((j ≡ k) × IsLeftOf p q)

pub left-under : (k : ℕ) (p q : List ℕ) → IsLeftOf p q → IsLeftOf (k ∷ p) (k ∷ q)
left-under k p q h = inr (refl, h)

pub left-apart : (j k : ℕ) (p q : List ℕ) → j < k → IsLeftOf (j ∷ p) (k ∷ q)
left-apart j k p q h = inl h

-- what holds of what there may be
abbrev pub IfFound : {N : Type 0} → (List (PlaceOf N) → Type 0) → FoundOf N → Type 0
IfFound P None = Unit {0}
IfFound P (Some xs) = P xs

module _ {N : Type 0} where
  if-both : (P Q R : List (PlaceOf N) → Type 0) → ((xs ys : List (PlaceOf N)) → P xs → Q ys → R (xs ++ ys)) → (a b : FoundOf N) → IfFound P a → IfFound Q b → IfFound R (both a b)
  if-both P Q R f (Some xs) (Some ys) p q = f xs ys p q
  if-both P Q R f (Some xs) None p q = tt
  if-both P Q R f None b p q = tt

  if-holds : (P : List (PlaceOf N) → Type 0) (b : Bool) (o : FoundOf N) → IfFound P o → IfFound P (where_holds b o)
  if-holds P true o h = h
  if-holds P false o h = tt

  if-turned : (P Q : List (PlaceOf N) → Type 0) → ((xs : List (PlaceOf N)) → P xs → Q xs) → (o : FoundOf N) → IfFound P o → IfFound Q o
  if-turned P Q f (Some xs) h = f xs h
  if-turned P Q f None h = tt

  -- parts that join, and parts one step deeper
  parts_of : PlaceOf N → List (Placed N)
  parts_of x = if x.meta.doubled then x.parts else []

  doubled-append : (xs ys : List (PlaceOf N)) → doubled_parts (xs ++ ys) ≡ doubled_parts xs ++ doubled_parts ys
  doubled-append [] ys = refl
  doubled-append (x ∷ xs) ys = ap (λ es. (if x.meta.doubled then x.parts else []) ++ es) (doubled-append xs ys) ∙ sym (append_assoc (if x.meta.doubled then x.parts else []) (doubled_parts xs) (doubled_parts ys))

  chosen-stepped : (k : ℕ) (b : Bool) (es : List (Placed N)) → (if b then below_step k es else []) ≡ below_step k (if b then es else [])
  chosen-stepped k true es = refl
  chosen-stepped k false es = refl

  doubled-stepped : (k : ℕ) (xs : List (PlaceOf N)) → doubled_parts (map (stepped k) xs) ≡ below_step k (doubled_parts xs)
  doubled-stepped k [] = refl
  doubled-stepped k (x ∷ xs) =
      (λ i. chosen-stepped k x.meta.doubled x.parts i ++ doubled-stepped k xs i)
      ∙ sym (map-append (λ (e : Placed N). (k ∷ e.0, e.1)) (if x.meta.doubled then x.parts else []) (doubled_parts xs))

  -- the parts of doubled metavariables: in order; in steps from k to l; in steps from k on
  abbrev pub Ordered : List (PlaceOf N) → Type 0
  Ordered xs = Sorted {N = N} IsLeftOf (doubled_parts xs)

  abbrev pub Within : ℕ → ℕ → List (PlaceOf N) → Type 0
  Within k l xs = Span {N = N} IsLeftOf k l (doubled_parts xs)

  abbrev pub Onward : ℕ → List (PlaceOf N) → Type 0
  Onward k xs = From {N = N} IsLeftOf k (doubled_parts xs)

  join-within : (k l m : ℕ) → k ≤ l → l ≤ m → (xs ys : List (PlaceOf N)) → Within k l xs → Within l m ys → Within k m (xs ++ ys)
  join-within k l m le ge xs ys a b = subst (Span {N = N} IsLeftOf k m) (sym (doubled-append xs ys)) (glued-span IsLeftOf left-apart k l m (doubled_parts xs) (doubled_parts ys) le ge a b)

  join-onward : (k l : ℕ) → k ≤ l → (xs ys : List (PlaceOf N)) → Within k l xs → Onward l ys → Onward k (xs ++ ys)
  join-onward k l le xs ys a b = subst (From {N = N} IsLeftOf k) (sym (doubled-append xs ys)) (glued-from IsLeftOf left-apart k l (doubled_parts xs) (doubled_parts ys) le a b)

  step-within : (k : ℕ) (xs : List (PlaceOf N)) → Ordered xs → Within k (k + 1) (map (stepped k) xs)
  step-within k xs a = subst (Span {N = N} IsLeftOf k (k + 1)) (sym (doubled-stepped k xs)) (below-span IsLeftOf left-under k (doubled_parts xs) a)

  if-deeper : (k : ℕ) (o : FoundOf N) → IfFound Ordered o → IfFound (Within k (k + 1)) (deeper k o)
  if-deeper k (Some xs) h = step-within k xs h
  if-deeper k None h = tt

  within-onward : (k l : ℕ) (xs : List (PlaceOf N)) → Within k l xs → Onward k xs
  within-onward k l xs h = span-from IsLeftOf k l (doubled_parts xs) h

  -- one place, with these parts
  placed-within : (k l : ℕ) (m : MetaOf N) (b : BoundOf N) (parts : List (Placed N)) → Span {N = N} IsLeftOf k l parts → IfFound (Within k l) (placed m b parts)
  placed-within k l m b parts h = by m.doubled
    where
      by : (c : Bool) → Span {N = N} IsLeftOf k l ((if c then parts else []) ++ [])
      by true = subst (Span {N = N} IsLeftOf k l) (sym (append-nil parts)) h
      by false = none-span IsLeftOf k l

  placed-ordered : (m : MetaOf N) (b : BoundOf N) (parts : List (Placed N)) → Sorted {N = N} IsLeftOf parts → IfFound Ordered (placed m b parts)
  placed-ordered m b parts h = by m.doubled
    where
      by : (c : Bool) → Sorted {N = N} IsLeftOf ((if c then parts else []) ++ [])
      by true = subst (Sorted {N = N} IsLeftOf) (sym (append-nil parts)) h
      by false = tt

  -- trees, and statements, by their numbers
  numbered-span : (k : ℕ) (ts : TreesOf N) → Span {N = N} IsLeftOf k (k + count ts) (numbered k ts)
  numbered-span k no_trees = none-span IsLeftOf k (k + 0)
  numbered-span k (more_trees t ts) =
      let at : k + 1 + count ts ≡ k + (count ts + 1) = omega arith in
      subst (λ l. Span {N = N} IsLeftOf k l ((k ∷ [], t) ∷ numbered (k + 1) ts)) at
      (glued-span IsLeftOf left-apart k (k + 1) (k + 1 + count ts) ((k ∷ [], t) ∷ []) (numbered (k + 1) ts) (omega arith) (omega arith)
      (record { order = (tt, tt); starts = ((omega arith, omega arith), tt) }) (numbered-span (k + 1) ts))

  pub statements-span : (k n : ℕ) (ss : StatementsOf N) → Span {N = N} IsLeftOf k (k + n) (numbered_statements k (first_statements n ss))
  statements-span k n no_statements = none-span IsLeftOf k (k + n)
  statements-span k zero (more_statements c t ss) = none-span IsLeftOf k (k + 0)
  statements-span k (suc n) (more_statements c t ss) =
      let at : k + 1 + n ≡ k + suc n = omega arith in
      subst (λ l. Span {N = N} IsLeftOf k l ((k ∷ [], t) ∷ numbered_statements (k + 1) (first_statements n ss))) at
      (glued-span IsLeftOf left-apart k (k + 1) (k + 1 + n) ((k ∷ [], t) ∷ []) (numbered_statements (k + 1) (first_statements n ss)) (omega arith) (omega arith)
      (record { order = (tt, tt); starts = ((omega arith, omega arith), tt) }) (statements-span (k + 1) n ss))

  pub statements-onward : (k : ℕ) (ss : StatementsOf N) → From {N = N} IsLeftOf k (numbered_statements k ss)
  statements-onward k no_statements = none-from IsLeftOf k
  statements-onward k (more_statements c t ss) =
      glued-from IsLeftOf left-apart k (k + 1) ((k ∷ [], t) ∷ []) (numbered_statements (k + 1) ss) (omega arith)
      (record { order = (tt, tt); starts = ((omega arith, omega arith), tt) }) (statements-onward (k + 1) ss)

  pub children-onward : (t : TreeOf N) → From {N = N} IsLeftOf 0 (placed_children t)
  children-onward t = span-from IsLeftOf 0 (0 + count (children t)) (placed_children t) (numbered-span 0 (children t))

  module _ (w : PatternWordsOf N) where
    keyword-within : (k l : ℕ) (x : KeywordLike N) (y : List ℕ) → IfFound (Within k l) (keyword_places x y)
    keyword-within k l (this_keyword z) y = if-holds (Within k l) _ (Some []) (none-span IsLeftOf k l)
    keyword-within k l (any_keyword m) y = placed-within k l m (a_keyword y) [] (none-span IsLeftOf k l)

    turned-within : (k l : ℕ) (in_turn : List (KeywordLike N) → List (List ℕ) → FoundOf N) → ((xs : List (KeywordLike N)) (ys : List (List ℕ)) → IfFound (Within k l) (in_turn xs ys)) →
        (ks : List (KeywordLike N)) (o : Option (List (List ℕ))) → IfFound (Within k l) (option_and_then (in_turn ks) o)
    turned-within k l in_turn h ks None = tt
    turned-within k l in_turn h ks (Some ys) = h ks ys

    message-within : (k : ℕ) (x : SelectorLike N) (s : N) (ts : TreesOf N) (arguments : FoundOf N) (in_turn : List (KeywordLike N) → List (List ℕ) → FoundOf N) → IfFound (Within k (k + count ts)) arguments →
        ((xs : List (KeywordLike N)) (ys : List (List ℕ)) → IfFound (Within k (k + count ts)) (in_turn xs ys)) → IfFound (Within k (k + count ts)) (message_places w k x s ts arguments in_turn)
    message-within k (this_selector n) s ts arguments in_turn a h = if-holds (Within k (k + count ts)) (w.tests.same n s) arguments a
    message-within k (any_unary m) s ts arguments in_turn a h =
        if-holds (Within k (k + count ts)) (w.is_unary s) (both (placed m (a_selector s) []) arguments)
        (if-both (Within k k) (Within k (k + count ts)) (Within k (k + count ts)) (λ xs ys p q. join-within k k (k + count ts) (omega arith) (omega arith) xs ys p q) (placed m (a_selector s) []) arguments (placed-within k k m (a_selector s) [] (none-span IsLeftOf k k)) a)
    message-within k (of_keywords ks) s ts arguments in_turn a h = turned-within k (k + count ts) in_turn h ks (w.keywords s)
    message-within k (any_message m) s ts arguments in_turn a h = placed-within k (k + count ts) m (a_message s ts) (numbered k ts) (numbered-span k ts)

    -- of a metavariable, the node itself; of another pattern, nodes below it
    abbrev Good : PatternOf N → List (PlaceOf N) → Type 0
    Good (meta m) xs = Ordered xs
    Good p xs = Onward 0 xs

    good-ordered : (p : PatternOf N) (xs : List (PlaceOf N)) → Good p xs → Ordered xs
    good-ordered (meta m) xs h = h
    good-ordered (var_like n) xs h = h.order
    good-ordered (literal_like l) xs h = h.order
    good-ordered (send_like r s ps) xs h = h.order
    good-ordered (cascade_like r ms) xs h = h.order
    good-ordered (assign_like n p) xs h = h.order
    good-ordered (block_like ps ts ss e) xs h = h.order
    good-ordered (brace_like ps) xs h = h.order
    good-ordered (return_like p) xs h = h.order

    -- a node one step deeper
    step-good : (k : ℕ) (p : PatternOf N) (t : TreeOf N) → IfFound (Good p) (places w p t) → IfFound (Within k (k + 1)) (deeper k (places w p t))
    step-good k p t h = if-deeper k (places w p t) (if-turned (Good p) Ordered (good-ordered p) (places w p t) h)

    -- a statement, or a list of them, and the statements behind it
    statements-by : (k : ℕ) (p : PatternOf N) (ss : StatementsLike N) (rs : StatementsOf N) (o : Option (MetaOf N)) → ((t : TreeOf N) → IfFound (Within k (k + 1)) (deeper k (places w p t))) →
        ((us : StatementsOf N) → IfFound (Onward (k + 1)) (statements_places w (k + 1) ss us)) → ((l : ℕ) → IfFound (Onward (k + l)) (statements_places w (k + l) ss (other_statements l rs))) →
        IfFound (Onward k)
        (option_map_or (λ m. both (placed m (a_run (first_statements (count_statements rs - count_like ss) rs)) (numbered_statements k (first_statements (count_statements rs - count_like ss) rs))) (statements_places w (k + (count_statements rs - count_like ss)) ss (other_statements (count_statements rs - count_like ss) rs))) o
        (one_statement w (λ t us. both (deeper k (places w p t)) (statements_places w (k + 1) ss us)) rs))
    statements-by k p ss no_statements None step more run = tt
    statements-by k p ss (more_statements d t us) None step more run =
        if-both (Within k (k + 1)) (Onward (k + 1)) (Onward k) (λ xs ys a b. join-onward k (k + 1) (omega arith) xs ys a b) (deeper k (places w p t)) (statements_places w (k + 1) ss us) (step t) (more us)
    statements-by k p ss rs (Some m) step more run =
        let l : ℕ = count_statements rs - count_like ss in
        if-both (Within k (k + l)) (Onward (k + l)) (Onward k) (λ xs ys a b. join-onward k (k + l) (omega arith) xs ys a b)
        (placed m (a_run (first_statements l rs)) (numbered_statements k (first_statements l rs))) (statements_places w (k + l) ss (other_statements l rs))
        (placed-within k (k + l) m (a_run (first_statements l rs)) (numbered_statements k (first_statements l rs)) (statements-span k l rs)) (run l)

    mutual
      pub tree-good : (p : PatternOf N) (t : TreeOf N) → IfFound (Good p) (places w p t)
      tree-good (meta m) t = if-holds Ordered _ (placed m (a_part t) (([], t) ∷ [])) (placed-ordered m (a_part t) (([], t) ∷ []) (tt, tt))
      tree-good (var_like n) (var k) = if-holds (Onward 0) (w.tests.same n k) (Some []) (none-from IsLeftOf 0)
      tree-good (literal_like l) (literal k) = if-holds (Onward 0) _ (Some []) (none-from IsLeftOf 0)
      tree-good (send_like r s ps) (send t u ts) =
          if-both (Within 0 1) (Onward 1) (Onward 0) (λ xs ys a b. join-onward 0 1 (omega arith) xs ys a b) (deeper 0 (places w r t)) (message_places w 1 s u ts (trees_places w 1 ps ts) (places_in_turn w 1 ps ts))
          (step-good 0 r t (tree-good r t))
          (if-turned (Within 1 (1 + count ts)) (Onward 1) (within-onward 1 (1 + count ts)) (message_places w 1 s u ts (trees_places w 1 ps ts) (places_in_turn w 1 ps ts))
          (message-within 1 s u ts (trees_places w 1 ps ts) (places_in_turn w 1 ps ts) (trees-good 1 ps ts) (turn-good 1 ps ts)))
      tree-good (cascade_like r ms) (cascade t us) =
          if-both (Within 0 1) (Onward 1) (Onward 0) (λ xs ys a b. join-onward 0 1 (omega arith) xs ys a b) (deeper 0 (places w r t)) (messages_places w 1 ms us) (step-good 0 r t (tree-good r t)) (messages-good 1 ms us)
      tree-good (assign_like n p) (assign k t) =
          if-holds (Onward 0) (w.tests.same n k) (deeper 0 (places w p t)) (if-turned (Within 0 1) (Onward 0) (within-onward 0 1) (deeper 0 (places w p t)) (step-good 0 p t (tree-good p t)))
      tree-good (block_like ps ts ss e) (block qs us rs f) = if-holds (Onward 0) _ (statements_places w 0 ss rs) (statements-good 0 ss rs)
      tree-good (brace_like ps) (brace ts) = if-turned (Within 0 (0 + count ts)) (Onward 0) (within-onward 0 (0 + count ts)) (trees_places w 0 ps ts) (trees-good 0 ps ts)
      tree-good (return_like p) (return t) = if-turned (Within 0 1) (Onward 0) (within-onward 0 1) (deeper 0 (places w p t)) (step-good 0 p t (tree-good p t))
      tree-good p t = tt

      trees-good : (k : ℕ) (ps : PatternsOf N) (ts : TreesOf N) → IfFound (Within k (k + count ts)) (trees_places w k ps ts)
      trees-good k no_patterns no_trees = none-span IsLeftOf k (k + 0)
      trees-good k (more_patterns p ps) (more_trees t ts) =
          let at : k + 1 + count ts ≡ k + (count ts + 1) = omega arith in
          subst (λ l. IfFound (Within k l) (both (deeper k (places w p t)) (trees_places w (k + 1) ps ts))) at
          (if-both (Within k (k + 1)) (Within (k + 1) (k + 1 + count ts)) (Within k (k + 1 + count ts)) (λ xs ys a b. join-within k (k + 1) (k + 1 + count ts) (omega arith) (omega arith) xs ys a b)
          (deeper k (places w p t)) (trees_places w (k + 1) ps ts) (step-good k p t (tree-good p t)) (trees-good (k + 1) ps ts))
      trees-good k ps ts = tt

      turn-good : (k : ℕ) (ps : PatternsOf N) (ts : TreesOf N) (xs : List (KeywordLike N)) (ys : List (List ℕ)) → IfFound (Within k (k + count ts)) (places_in_turn w k ps ts xs ys)
      turn-good k no_patterns no_trees [] [] = none-span IsLeftOf k (k + 0)
      turn-good k (more_patterns p ps) (more_trees t ts) (x ∷ xs) (y ∷ ys) =
          let at : k + 1 + count ts ≡ k + (count ts + 1) = omega arith in
          subst (λ l. IfFound (Within k l) (both (keyword_places x y) (both (deeper k (places w p t)) (places_in_turn w (k + 1) ps ts xs ys)))) at
          (if-both (Within k k) (Within k (k + 1 + count ts)) (Within k (k + 1 + count ts)) (λ xs ys a b. join-within k k (k + 1 + count ts) (omega arith) (omega arith) xs ys a b)
          (keyword_places x y) (both (deeper k (places w p t)) (places_in_turn w (k + 1) ps ts xs ys)) (keyword-within k k x y)
          (if-both (Within k (k + 1)) (Within (k + 1) (k + 1 + count ts)) (Within k (k + 1 + count ts)) (λ xs ys a b. join-within k (k + 1) (k + 1 + count ts) (omega arith) (omega arith) xs ys a b)
          (deeper k (places w p t)) (places_in_turn w (k + 1) ps ts xs ys) (step-good k p t (tree-good p t)) (turn-good (k + 1) ps ts xs ys)))
      turn-good k ps ts xs ys = tt

      messages-good : (k : ℕ) (ms : MessagesLike N) (us : MessagesOf N) → IfFound (Onward k) (messages_places w k ms us)
      messages-good k no_messages_like no_messages = none-from IsLeftOf k
      messages-good k (more_messages_like s ps ms) (more_messages u ts us) =
          if-both (Within k (k + count ts)) (Onward (k + count ts)) (Onward k) (λ xs ys a b. join-onward k (k + count ts) (omega arith) xs ys a b)
          (message_places w k s u ts (trees_places w k ps ts) (places_in_turn w k ps ts)) (messages_places w (k + count ts) ms us)
          (message-within k s u ts (trees_places w k ps ts) (places_in_turn w k ps ts) (trees-good k ps ts) (turn-good k ps ts)) (messages-good (k + count ts) ms us)
      messages-good k ms us = tt

      statements-good : (k : ℕ) (ss : StatementsLike N) (rs : StatementsOf N) → IfFound (Onward k) (statements_places w k ss rs)
      statements-good k no_statements_like no_statements = none-from IsLeftOf k
      statements-good k no_statements_like (more_statements c t rs) = tt
      statements-good k (more_statements_like c p ss) rs =
          statements-by k p ss rs (list_meta p) (λ t. step-good k p t (tree-good p t)) (λ us. statements-good (k + 1) ss us) (λ l. statements-good (k + l) ss (other_statements l rs))

    -- what a match is, where there is one
    matched-good : (p : PatternOf N) (t : TreeOf N) (xs : List (PlaceOf N)) → match_places w p t ≡ Some xs → Good p xs
    matched-good p t xs e = by (places w p t) (tree-good p t) e
      where
        agreed : (b : Bool) (ys : List (PlaceOf N)) → where_holds b (Some ys) ≡ Some xs → Good p ys → Good p xs
        agreed true ys f h = subst (IfFound (Good p)) f h
        agreed false ys f h = subst (IfFound (Good p)) f tt

        by : (o : FoundOf N) → IfFound (Good p) o → option_and_then (λ ys. where_holds (agree w ys) (Some ys)) o ≡ Some xs → Good p xs
        by None h f = subst (IfFound (Good p)) f tt
        by (Some ys) h f = agreed (agree w ys) ys f h

    -- what is searched in a match is in order, below the node
    pub searched-onward : (p : PatternOf N) (t : TreeOf N) (xs : List (PlaceOf N)) → match_places w p t ≡ Some xs → From {N = N} IsLeftOf 0 (searched_in p t xs)
    searched-onward (meta m) t xs e = by m.doubled
      where
        by : (b : Bool) → From {N = N} IsLeftOf 0 (if b then placed_children t else [])
        by true = children-onward t
        by false = none-from IsLeftOf 0
    searched-onward (var_like n) t xs e = matched-good (var_like n) t xs e
    searched-onward (literal_like l) t xs e = matched-good (literal_like l) t xs e
    searched-onward (send_like r s ps) t xs e = matched-good (send_like r s ps) t xs e
    searched-onward (cascade_like r ms) t xs e = matched-good (cascade_like r ms) t xs e
    searched-onward (assign_like n p) t xs e = matched-good (assign_like n p) t xs e
    searched-onward (block_like ps ts ss f) t xs e = matched-good (block_like ps ts ss f) t xs e
    searched-onward (brace_like ps) t xs e = matched-good (brace_like ps) t xs e
    searched-onward (return_like p) t xs e = matched-good (return_like p) t xs e
