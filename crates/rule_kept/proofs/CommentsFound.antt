-- The comments in what a match binds are those of the node.
use Rattle.std.proofs.Common.{◌≡◌, ℕ, zero, suc, ◌+◌, ◌-◌, List, [], ◌∷◌, map, Option, Some, None, subst}
use Rattle.std.specs.Prelude.{Bool, true, false, not, ◌&&◌, option_and_then}
use Rattle.std.specs.Cmp.Lexicographic.{pointwise}
use Rattle.std.specs.List.{AllByRecursion}
use Rattle.std.specs.Option.{option_map_or}
use Rattle.rb_base.specs.Names.{text_eq}
use Rattle.tree_model.specs.Tree.{TreeOf, var, literal, send, cascade, assign, block, brace, return, TreesOf, no_trees, more_trees, MessagesOf, no_messages, more_messages, StatementsOf, no_statements, more_statements}
use Rattle.tree_model.specs.Path.{count}
use Rattle.pattern_model.specs.Patterns.{MetaOf, KeywordLike, this_keyword, any_keyword, SelectorLike, this_selector, any_unary, of_keywords, any_message, PatternOf, meta, var_like, literal_like, send_like, cascade_like, assign_like, block_like, brace_like, return_like, PatternsOf, no_patterns, more_patterns, MessagesLike, no_messages_like, more_messages_like, StatementsLike, no_statements_like, more_statements_like, list_meta, count_like}
use Rattle.same_trees.specs.SameTrees.{same_literal}
use Rattle.pattern_model.specs.Bindings.{BoundOf, a_part, a_run, a_selector, a_keyword, a_message, BindingOf, same_meta}
use Rattle.pattern_model.specs.Words.{PatternWordsOf}
use Rattle.pattern_model.specs.Matches.{may_stand}
use Rattle.pattern_model.specs.MatchTree.{PlaceOf, FoundOf, placed, both, where_holds, stepped, deeper, numbered_statements, count_statements, first_statements, other_statements, keyword_places, message_places, one_statement, places, trees_places, places_in_turn, messages_places, statements_places, bindings_of}
use Rattle.pattern_laws.proofs.Found.{all_append}
use Rattle.pattern_laws.proofs.SameMetas.{all_kept}
use Rattle.file_model.specs.Filing.{Text}
use Rattle.rule_kept.proofs.Comments.{HasNotes, TreesNotes, MessagesNotes, LinesNotes}

-- the comments in what is bound
abbrev pub BoundNotes : BoundOf Text → Type 0
BoundNotes (a_part t) = HasNotes t
BoundNotes (a_run ss) = LinesNotes ss
BoundNotes (a_selector s) = Unit {0}
BoundNotes (a_keyword k) = Unit {0}
BoundNotes (a_message s ts) = TreesNotes ts

abbrev pub BindingNotes : BindingOf Text → Type 0
BindingNotes b = BoundNotes b.bound

abbrev pub PlaceNotes : PlaceOf Text → Type 0
PlaceNotes x = BoundNotes x.bound

abbrev FoundNotes : FoundOf Text → Type 0
FoundNotes None = Unit {0}
FoundNotes (Some xs) = AllByRecursion PlaceNotes xs

noted_both : (a b : FoundOf Text) → FoundNotes a → FoundNotes b → FoundNotes (both a b)
noted_both (Some xs) (Some ys) h g = all_append PlaceNotes xs ys h g
noted_both (Some xs) None h g = tt
noted_both None b h g = tt

noted_where : (b : Bool) (o : FoundOf Text) → FoundNotes o → FoundNotes (where_holds b o)
noted_where true o h = h
noted_where false o h = tt

noted_stepped : (k : ℕ) (xs : List (PlaceOf Text)) → AllByRecursion PlaceNotes xs → AllByRecursion PlaceNotes (map (stepped k) xs)
noted_stepped k [] h = tt
noted_stepped k (x ∷ xs) h = (h.0, noted_stepped k xs h.1)

noted_deeper : (k : ℕ) (o : FoundOf Text) → FoundNotes o → FoundNotes (deeper k o)
noted_deeper k None h = tt
noted_deeper k (Some xs) h = noted_stepped k xs h

noted_first : (k : ℕ) (ss : StatementsOf Text) → LinesNotes ss → LinesNotes (first_statements k ss)
noted_first zero no_statements h = tt
noted_first zero (more_statements c t ss) h = tt
noted_first (suc k) no_statements h = tt
noted_first (suc k) (more_statements c t ss) h = (h.0, h.1, noted_first k ss h.2)

noted_others : (k : ℕ) (ss : StatementsOf Text) → LinesNotes ss → LinesNotes (other_statements k ss)
noted_others zero no_statements h = tt
noted_others zero (more_statements c t ss) h = h
noted_others (suc k) no_statements h = tt
noted_others (suc k) (more_statements c t ss) h = noted_others k ss h.2

module _ (w : PatternWordsOf Text) where
  noted_message : (k : ℕ) (s : SelectorLike Text) (u : Text) (ts : TreesOf Text) (arguments : FoundOf Text) (in_turn : List (KeywordLike Text) → List (List ℕ) → FoundOf Text)
      → TreesNotes ts → FoundNotes arguments → ((xs : List (KeywordLike Text)) (ys : List (List ℕ)) → FoundNotes (in_turn xs ys)) → FoundNotes (message_places w k s u ts arguments in_turn)
  noted_message k (this_selector x) u ts arguments in_turn h plain keyed = noted_where (w.tests.same x u) arguments plain
  noted_message k (any_unary m) u ts arguments in_turn h plain keyed =
      noted_where (w.is_unary u) (both (placed m (a_selector u) []) arguments) (noted_both (placed m (a_selector u) []) arguments (tt, tt) plain)
  noted_message k (of_keywords xs) u ts arguments in_turn h plain keyed = by (w.keywords u)
    where
      by : (o : Option (List (List ℕ))) → FoundNotes (option_and_then (in_turn xs) o)
      by None = tt
      by (Some ys) = keyed xs ys
  noted_message k (any_message m) u ts arguments in_turn h plain keyed = (h, tt)

  noted_keyword : (x : KeywordLike Text) (y : List ℕ) → FoundNotes (keyword_places x y)
  noted_keyword (this_keyword k) y = noted_where (text_eq k y) (Some []) tt
  noted_keyword (any_keyword m) y = (tt, tt)

  noted_statement : (k : ℕ) (o : Option (MetaOf Text)) (run rs : StatementsOf Text) (others : FoundOf Text) (one : TreeOf Text → StatementsOf Text → FoundOf Text)
      → LinesNotes rs → LinesNotes run → FoundNotes others → ((t : TreeOf Text) (us : StatementsOf Text) → HasNotes t → LinesNotes us → FoundNotes (one t us))
      → FoundNotes (option_map_or (λ m. both (placed m (a_run run) (numbered_statements k run)) others) o (one_statement w one rs))
  noted_statement k (Some m) run rs others one h g behind first = noted_both (placed m (a_run run) (numbered_statements k run)) others (g, tt) behind
  noted_statement k None run no_statements others one h g behind first = tt
  noted_statement k None run (more_statements c t us) others one h g behind first = first t us h.1 h.2

  mutual
    pub noted : (p : PatternOf Text) (t : TreeOf Text) → HasNotes t → FoundNotes (places w p t)
    noted (meta m) t h = noted_where (may_stand w.tests.is_pseudo m.kind t) (placed m (a_part t) (([], t) ∷ [])) (h, tt)
    noted (var_like x) (var k) h = noted_where (w.tests.same x k) (Some []) tt
    noted (literal_like x) (literal y) h = noted_where (same_literal w.tests.same x y) (Some []) tt
    noted (send_like r s ps) (send t u ts) h =
        noted_both (deeper 0 (places w r t)) (message_places w 1 s u ts (trees_places w 1 ps ts) (places_in_turn w 1 ps ts))
        (noted_deeper 0 (places w r t) (noted r t h.0))
        (noted_message 1 s u ts (trees_places w 1 ps ts) (places_in_turn w 1 ps ts) h.1 (trees_found 1 ps ts h.1) (λ xs ys. turn_found 1 ps ts xs ys h.1))
    noted (cascade_like r ms) (cascade t us) h = noted_both (deeper 0 (places w r t)) (messages_places w 1 ms us) (noted_deeper 0 (places w r t) (noted r t h.0)) (messages_found 1 ms us h.1)
    noted (assign_like x p) (assign k t) h = noted_where (w.tests.same x k) (deeper 0 (places w p t)) (noted_deeper 0 (places w p t) (noted p t h))
    noted (block_like ps ts ss e) (block qs us rs f) h =
        noted_where (pointwise w.tests.same ps qs && pointwise w.tests.same ts us) (statements_places w 0 ss rs) (statements_found 0 ss rs h.0)
    noted (brace_like ps) (brace ts) h = trees_found 0 ps ts h
    noted (return_like p) (return t) h = noted_deeper 0 (places w p t) (noted p t h)
    noted p t h = tt

    trees_found : (k : ℕ) (ps : PatternsOf Text) (ts : TreesOf Text) → TreesNotes ts → FoundNotes (trees_places w k ps ts)
    trees_found k no_patterns no_trees h = tt
    trees_found k (more_patterns p ps) (more_trees t ts) h = noted_both (deeper k (places w p t)) (trees_places w (k + 1) ps ts) (noted_deeper k (places w p t) (noted p t h.0)) (trees_found (k + 1) ps ts h.1)
    trees_found k ps ts h = tt

    turn_found : (k : ℕ) (ps : PatternsOf Text) (ts : TreesOf Text) (xs : List (KeywordLike Text)) (ys : List (List ℕ)) → TreesNotes ts → FoundNotes (places_in_turn w k ps ts xs ys)
    turn_found k no_patterns no_trees [] [] h = tt
    turn_found k (more_patterns p ps) (more_trees t ts) (x ∷ xs) (y ∷ ys) h =
        noted_both (keyword_places x y) (both (deeper k (places w p t)) (places_in_turn w (k + 1) ps ts xs ys)) (noted_keyword x y)
        (noted_both (deeper k (places w p t)) (places_in_turn w (k + 1) ps ts xs ys) (noted_deeper k (places w p t) (noted p t h.0)) (turn_found (k + 1) ps ts xs ys h.1))
    turn_found k ps ts xs ys h = tt

    messages_found : (k : ℕ) (ms : MessagesLike Text) (us : MessagesOf Text) → MessagesNotes us → FoundNotes (messages_places w k ms us)
    messages_found k no_messages_like no_messages h = tt
    messages_found k (more_messages_like s ps ms) (more_messages u ts us) h =
        noted_both (message_places w k s u ts (trees_places w k ps ts) (places_in_turn w k ps ts)) (messages_places w (k + count ts) ms us)
        (noted_message k s u ts (trees_places w k ps ts) (places_in_turn w k ps ts) h.0 (trees_found k ps ts h.0) (λ xs ys. turn_found k ps ts xs ys h.0))
        (messages_found (k + count ts) ms us h.1)
    messages_found k ms us h = tt

    statements_found : (k : ℕ) (ss : StatementsLike Text) (rs : StatementsOf Text) → LinesNotes rs → FoundNotes (statements_places w k ss rs)
    statements_found k no_statements_like no_statements h = tt
    statements_found k no_statements_like (more_statements c t rs) h = tt
    statements_found k (more_statements_like c p ss) rs h =
        let m : ℕ = count_statements rs - count_like ss in
        noted_statement k (list_meta p) (first_statements m rs) rs (statements_places w (k + m) ss (other_statements m rs)) (λ t us. both (deeper k (places w p t)) (statements_places w (k + 1) ss us))
        h (noted_first m rs h) (statements_found (k + m) ss (other_statements m rs) (noted_others m rs h))
        (λ t us a b. noted_both (deeper k (places w p t)) (statements_places w (k + 1) ss us) (noted_deeper k (places w p t) (noted p t a)) (statements_found (k + 1) ss us b))

  pub bindings_noted : (xs : List (PlaceOf Text)) → AllByRecursion PlaceNotes xs → AllByRecursion BindingNotes (bindings_of w xs)
  bindings_noted [] h = tt
  bindings_noted (x ∷ xs) h = (h.0, all_kept BindingNotes (λ b. not (same_meta w.tests.same x.meta b.meta)) (bindings_of w xs) (bindings_noted xs h.1))

  pub places_noted : (p : PatternOf Text) (t : TreeOf Text) (xs : List (PlaceOf Text)) → places w p t ≡ Some xs → HasNotes t → AllByRecursion PlaceNotes xs
  places_noted p t xs e h = subst FoundNotes e (noted p t h)
