-- What is true of each name of a pattern and of a node is true of each name in the bindings of a match.
use Rattle.std.proofs.Common.{◌≡◌, ℕ, zero, suc, ◌+◌, ◌-◌, List, [], ◌∷◌, map, Option, Some, None, subst}
use Rattle.std.specs.Prelude.{Bool, true, false, not, ◌&&◌, option_map, option_and_then}
use Rattle.std.specs.Cmp.Lexicographic.{pointwise}
use Rattle.std.specs.List.{AllByRecursion}
use Rattle.std.specs.Option.{option_map_or}
use Rattle.rb_base.specs.Names.{text_eq}
use Rattle.tree_model.specs.Tree.{TreeOf, var, literal, send, cascade, assign, block, brace, return, TreesOf, no_trees, more_trees, MessagesOf, no_messages, more_messages, StatementsOf, no_statements, more_statements}
use Rattle.tree_model.specs.AllNames.{AllNames, TreesNames, MessagesNames, StatementsNames}
use Rattle.tree_model.specs.Path.{count}
use Rattle.pattern_model.specs.declared.kinds.MetaKind.{MetaKind}
use Rattle.pattern_model.specs.declared.kinds.MetaKind.TheVariants.{StatementList}
use Rattle.pattern_model.specs.Patterns.{MetaOf, KeywordLike, this_keyword, any_keyword, SelectorLike, this_selector, any_unary, of_keywords, any_message, PatternOf, meta, var_like, literal_like, send_like, cascade_like, assign_like, block_like, brace_like, return_like, PatternsOf, no_patterns, more_patterns, MessagesLike, no_messages_like, more_messages_like, StatementsLike, no_statements_like, more_statements_like, list_kind, list_meta, count_like}
use Rattle.same_trees.specs.SameTrees.{same_literal}
use Rattle.pattern_model.specs.Bindings.{a_part, a_run, a_selector, BindingOf, same_meta}
use Rattle.pattern_model.specs.Words.{PatternWordsOf}
use Rattle.pattern_model.specs.Matches.{may_stand}
use Rattle.pattern_model.specs.MatchTree.{PlaceOf, FoundOf, placed, both, where_holds, stepped, deeper, numbered_statements, count_statements, first_statements, other_statements, keyword_places, message_places, one_statement, places, trees_places, places_in_turn, messages_places, statements_places, agree, bindings_of, match_tree}
use Rattle.pattern_laws.proofs.Found.{all_append}
use Rattle.pattern_laws.proofs.SameMetas.{all_kept}
use Rattle.patterns.specs.Names.{KeywordNames, SelectorNames, PatternNames, PatternsNames, MessagesLikeNames, StatementsLikeNames}
use Rattle.filled_patterns.specs.Bound.{BoundNames, BindingNames}

module _ {N : Type 0} (P : N → Type 0) where
  -- of each place of a match, if there is one
  abbrev PlaceNames : PlaceOf N → Type 0
  PlaceNames x = P x.meta.name × BoundNames P x.bound

  abbrev HasNames : FoundOf N → Type 0
  HasNames None = Unit {0}
  HasNames (Some xs) = AllByRecursion PlaceNames xs

  abbrev MetaNames : Option (MetaOf N) → Type 0
  MetaNames None = Unit {0}
  MetaNames (Some m) = P m.name

  named_both : (a b : FoundOf N) → HasNames a → HasNames b → HasNames (both a b)
  named_both (Some xs) (Some ys) h g = all_append PlaceNames xs ys h g
  named_both (Some xs) None h g = tt
  named_both None b h g = tt

  named_where : (b : Bool) (o : FoundOf N) → HasNames o → HasNames (where_holds b o)
  named_where true o h = h
  named_where false o h = tt

  named_stepped : (k : ℕ) (xs : List (PlaceOf N)) → AllByRecursion PlaceNames xs → AllByRecursion PlaceNames (map (stepped k) xs)
  named_stepped k [] h = tt
  named_stepped k (x ∷ xs) h = (h.0, named_stepped k xs h.1)

  named_deeper : (k : ℕ) (o : FoundOf N) → HasNames o → HasNames (deeper k o)
  named_deeper k None h = tt
  named_deeper k (Some xs) h = named_stepped k xs h

  named_first : (k : ℕ) (ss : StatementsOf N) → StatementsNames P ss → StatementsNames P (first_statements k ss)
  named_first zero no_statements h = tt
  named_first zero (more_statements c t ss) h = tt
  named_first (suc k) no_statements h = tt
  named_first (suc k) (more_statements c t ss) h = (h.0, named_first k ss h.1)

  named_others : (k : ℕ) (ss : StatementsOf N) → StatementsNames P ss → StatementsNames P (other_statements k ss)
  named_others zero no_statements h = tt
  named_others zero (more_statements c t ss) h = h
  named_others (suc k) no_statements h = tt
  named_others (suc k) (more_statements c t ss) h = named_others k ss h.1

  named_list : (p : PatternOf N) → PatternNames P p → MetaNames (list_meta p)
  named_list (meta m) h = by m.kind
    where
      by : (k : MetaKind) → MetaNames (list_kind k m)
      by StatementList = h
      by k = tt
  named_list p h = tt

module _ {N : Type 0} (P : N → Type 0) (w : PatternWordsOf N) where
  named_message : (k : ℕ) (s : SelectorLike N) (u : N) (ts : TreesOf N) (arguments : FoundOf N) (in_turn : List (KeywordLike N) → List (List ℕ) → FoundOf N)
      → SelectorNames P s → P u → TreesNames P ts → HasNames P arguments → ((xs : List (KeywordLike N)) (ys : List (List ℕ)) → AllByRecursion (KeywordNames P) xs → HasNames P (in_turn xs ys))
      → HasNames P (message_places w k s u ts arguments in_turn)
  named_message k (this_selector x) u ts arguments in_turn s n h plain keyed = named_where P (w.tests.same x u) arguments plain
  named_message k (any_unary m) u ts arguments in_turn s n h plain keyed =
      named_where P (w.is_unary u) (both (placed m (a_selector u) []) arguments) (named_both P (placed m (a_selector u) []) arguments ((s, n), tt) plain)
  named_message k (of_keywords xs) u ts arguments in_turn s n h plain keyed = by (w.keywords u)
    where
      by : (o : Option (List (List ℕ))) → HasNames P (option_and_then (in_turn xs) o)
      by None = tt
      by (Some ys) = keyed xs ys s
  named_message k (any_message m) u ts arguments in_turn s n h plain keyed = ((s, (n, h)), tt)

  named_keyword : (x : KeywordLike N) (y : List ℕ) → KeywordNames P x → HasNames P (keyword_places x y)
  named_keyword (this_keyword k) y h = named_where P (text_eq k y) (Some []) tt
  named_keyword (any_keyword m) y h = ((h, tt), tt)

  named_statement : (k : ℕ) (o : Option (MetaOf N)) (run rs : StatementsOf N) (others : FoundOf N) (one : TreeOf N → StatementsOf N → FoundOf N)
      → MetaNames P o → StatementsNames P rs → StatementsNames P run → HasNames P others
      → ((t : TreeOf N) (us : StatementsOf N) → AllNames P t → StatementsNames P us → HasNames P (one t us))
      → HasNames P (option_map_or (λ m. both (placed m (a_run run) (numbered_statements k run)) others) o (one_statement w one rs))
  named_statement k (Some m) run rs others one s h g behind first =
      named_both P (placed m (a_run run) (numbered_statements k run)) others ((s, g), tt) behind
  named_statement k None run no_statements others one s h g behind first = tt
  named_statement k None run (more_statements c t us) others one s h g behind first = first t us h.0 h.1

  mutual
    named : (p : PatternOf N) (t : TreeOf N) → PatternNames P p → AllNames P t → HasNames P (places w p t)
    named (meta m) t s h = named_where P (may_stand w.tests.is_pseudo m.kind t) (placed m (a_part t) (([], t) ∷ [])) ((s, h), tt)
    named (var_like x) (var k) s h = named_where P (w.tests.same x k) (Some []) tt
    named (literal_like x) (literal y) s h = named_where P (same_literal w.tests.same x y) (Some []) tt
    named (send_like r s ps) (send t u ts) n h =
        named_both P (deeper 0 (places w r t)) (message_places w 1 s u ts (trees_places w 1 ps ts) (places_in_turn w 1 ps ts))
        (named_deeper P 0 (places w r t) (named r t n.0 h.0))
        (named_message 1 s u ts (trees_places w 1 ps ts) (places_in_turn w 1 ps ts) n.1 h.1 h.2 (trees_named 1 ps ts n.2 h.2) (λ xs ys k. turn_named 1 ps ts xs ys n.2 h.2 k))
    named (cascade_like r ms) (cascade t us) n h =
        named_both P (deeper 0 (places w r t)) (messages_places w 1 ms us)
        (named_deeper P 0 (places w r t) (named r t n.0 h.0)) (messages_named 1 ms us n.1 h.1)
    named (assign_like x p) (assign k t) n h =
        named_where P (w.tests.same x k) (deeper 0 (places w p t)) (named_deeper P 0 (places w p t) (named p t n.1 h.1))
    named (block_like ps ts ss e) (block qs us rs f) n h =
        named_where P (pointwise w.tests.same ps qs && pointwise w.tests.same ts us) (statements_places w 0 ss rs) (statements_named 0 ss rs n.2 h.2)
    named (brace_like ps) (brace ts) n h = trees_named 0 ps ts n h
    named (return_like p) (return t) n h = named_deeper P 0 (places w p t) (named p t n h)
    named p t n h = tt

    trees_named : (k : ℕ) (ps : PatternsOf N) (ts : TreesOf N) → PatternsNames P ps → TreesNames P ts → HasNames P (trees_places w k ps ts)
    trees_named k no_patterns no_trees n h = tt
    trees_named k (more_patterns p ps) (more_trees t ts) n h =
        named_both P (deeper k (places w p t)) (trees_places w (k + 1) ps ts) (named_deeper P k (places w p t) (named p t n.0 h.0)) (trees_named (k + 1) ps ts n.1 h.1)
    trees_named k ps ts n h = tt

    turn_named : (k : ℕ) (ps : PatternsOf N) (ts : TreesOf N) (xs : List (KeywordLike N)) (ys : List (List ℕ)) → PatternsNames P ps → TreesNames P ts → AllByRecursion (KeywordNames P) xs → HasNames P (places_in_turn w k ps ts xs ys)
    turn_named k no_patterns no_trees [] [] n h s = tt
    turn_named k (more_patterns p ps) (more_trees t ts) (x ∷ xs) (y ∷ ys) n h s =
        named_both P (keyword_places x y) (both (deeper k (places w p t)) (places_in_turn w (k + 1) ps ts xs ys)) (named_keyword x y s.0)
        (named_both P (deeper k (places w p t)) (places_in_turn w (k + 1) ps ts xs ys) (named_deeper P k (places w p t) (named p t n.0 h.0)) (turn_named (k + 1) ps ts xs ys n.1 h.1 s.1))
    turn_named k ps ts xs ys n h s = tt

    messages_named : (k : ℕ) (ms : MessagesLike N) (us : MessagesOf N) → MessagesLikeNames P ms → MessagesNames P us → HasNames P (messages_places w k ms us)
    messages_named k no_messages_like no_messages n h = tt
    messages_named k (more_messages_like s ps ms) (more_messages u ts us) n h =
        named_both P (message_places w k s u ts (trees_places w k ps ts) (places_in_turn w k ps ts)) (messages_places w (k + count ts) ms us)
        (named_message k s u ts (trees_places w k ps ts) (places_in_turn w k ps ts) n.0 h.0 h.1 (trees_named k ps ts n.1 h.1) (λ xs ys j. turn_named k ps ts xs ys n.1 h.1 j))
        (messages_named (k + count ts) ms us n.2 h.2)
    messages_named k ms us n h = tt

    statements_named : (k : ℕ) (ss : StatementsLike N) (rs : StatementsOf N) → StatementsLikeNames P ss → StatementsNames P rs → HasNames P (statements_places w k ss rs)
    statements_named k no_statements_like no_statements n h = tt
    statements_named k no_statements_like (more_statements c t rs) n h = tt
    statements_named k (more_statements_like c p ss) rs n h =
        let m : ℕ = count_statements rs - count_like ss in
        named_statement k (list_meta p) (first_statements m rs) rs
        (statements_places w (k + m) ss (other_statements m rs))
        (λ t us. both (deeper k (places w p t)) (statements_places w (k + 1) ss us))
        (named_list P p n.0) h (named_first P m rs h)
        (statements_named (k + m) ss (other_statements m rs) n.1 (named_others P m rs h))
        (λ t us a b.
        named_both P (deeper k (places w p t)) (statements_places w (k + 1) ss us)
        (named_deeper P k (places w p t) (named p t n.0 a)) (statements_named (k + 1) ss us n.1 b))

  named_bindings : (xs : List (PlaceOf N)) → AllByRecursion (PlaceNames P) xs → AllByRecursion (BindingNames P) (bindings_of w xs)
  named_bindings [] h = tt
  named_bindings (x ∷ xs) h = (h.0, all_kept (BindingNames P) (λ b. not (same_meta w.tests.same x.meta b.meta)) (bindings_of w xs) (named_bindings xs h.1))

  -- of each name in the bindings
  abbrev MaybeNames : Option (List (BindingOf N)) → Type 0
  MaybeNames None = Unit {0}
  MaybeNames (Some bs) = AllByRecursion (BindingNames P) bs

  pub match_named : (p : PatternOf N) (t : TreeOf N) (bs : List (BindingOf N)) → match_tree w p t ≡ Some bs → PatternNames P p → AllNames P t → AllByRecursion (BindingNames P) bs
  match_named p t bs e n h = subst MaybeNames e (by (places w p t) (named p t n h))
    where
      by : (o : FoundOf N) → HasNames P o → MaybeNames (option_map (bindings_of w) (option_and_then (λ xs. where_holds (agree w xs) (Some xs)) o))
      by None g = tt
      by (Some xs) g = of (agree w xs)
        where
          of : (b : Bool) → MaybeNames (option_map (bindings_of w) (where_holds b (Some xs)))
          of true = named_bindings xs g
          of false = tt
