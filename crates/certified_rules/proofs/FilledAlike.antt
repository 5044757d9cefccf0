-- A pattern whose metavariables are no longer doubled is filled as before, and rewrites code as before.
use Rattle.std.proofs.Common.{◌≡◌, ℕ, zero, suc, List, [], ◌∷◌, Some, None, refl, ap, ◌∙◌}
use Rattle.std.specs.Prelude.{Bool, if◌then◌else◌, map}
use Rattle.std.specs.Option.{option_map_or}
use Rattle.tree_model.specs.Tree.{Notes, LiteralOf, number, str, symbol, char, array, bytes, word, LiteralsOf, no_literals, more_literals, map_literal, map_literals, TreeOf, literal, send, cascade, assign, brace, return, TreesOf, more_trees, more_messages, StatementsOf, more_statements}
use Rattle.tree_model.specs.Measure.{height}
use Rattle.run_model.specs.Values.{Name}
use Rattle.pattern_model.specs.declared.kinds.MetaKind.{MetaKind}
use Rattle.pattern_model.specs.declared.kinds.MetaKind.TheVariants.{Name as OfName, Constant, Expression, Statement, StatementList, Unary, Keyword, Message}
use Rattle.pattern_model.specs.Patterns.{MetaOf, KeywordLike, this_keyword, any_keyword, SelectorLike, this_selector, any_unary, of_keywords, any_message, PatternOf, meta, var_like, literal_like, send_like, cascade_like, assign_like, block_like, brace_like, return_like, PatternsOf, no_patterns, more_patterns, MessagesLike, no_messages_like, more_messages_like, StatementsLike, no_statements_like, more_statements_like, list_kind, list_meta}
use Rattle.pattern_model.specs.Bindings.{BoundOf, BindingOf, same_meta, bound_of}
use Rattle.pattern_model.specs.Words.{PatternWordsOf}
use Rattle.pattern_model.specs.MatchTree.{FoundOf, bindings_of, match_places}
use Rattle.pattern_model.specs.Fill.{part_in, run_in, selector_in, keyword_in, arguments_in, append_statements, noted, block_of, keyword_filled, selector_filled, arguments_filled, filled, trees_filled, messages_filled, statements_filled}
use Rattle.pattern_model.specs.Rewritten.{RuleOf, each_child, each_doubled, in_match, rewritten_by, rewritten_within, rewritten}
use Rattle.certified_model.specs.Marks.{plain, keyword_mark, selector_mark, marked_tree, marked_trees, marked_messages, marked_statements, spelled_name, undoubled, keyword_marked, selector_marked, pattern_marked, patterns_marked, messages_marked, statements_marked}

-- names as they are spelled come back
names-back : (ns : List Name) → map spelled_name (map plain ns) ≡ ns
names-back [] = refl
names-back (n ∷ ns) = ap (λ (ms : List Name). n ∷ ms) (names-back ns)

mutual
  literal-back : (l : LiteralOf Name) → map_literal spelled_name (map_literal plain l) ≡ l
  literal-back (number t) = refl
  literal-back (str t) = refl
  literal-back (symbol t) = refl
  literal-back (char b) = refl
  literal-back (array ls) = ap array (literals-back ls)
  literal-back (bytes ls) = ap bytes (literals-back ls)
  literal-back (word n) = refl

  literals-back : (ls : LiteralsOf Name) → map_literals spelled_name (map_literals plain ls) ≡ ls
  literals-back no_literals = refl
  literals-back (more_literals l ls) = λ i. more_literals (literal-back l i) (literals-back ls i)

-- the pattern with no metavariable doubled
abbrev pub plainly : PatternOf Name → PatternOf Name
plainly p = pattern_marked (marked_tree p)

module _ (bound : MetaOf Name → BoundOf Name) (joined : List (List ℕ) → Name) (alike : (m : MetaOf Name) → bound (undoubled m.kind m.name) ≡ bound m) where
  keyword-alike : (k : KeywordLike Name) → keyword_filled bound joined (keyword_marked (keyword_mark k)) ≡ keyword_filled bound joined k
  keyword-alike (this_keyword k) = refl
  keyword-alike (any_keyword m) = ap keyword_in (alike m)

  keywords-alike : (ks : List (KeywordLike Name)) → map (keyword_filled bound joined) (map keyword_marked (map keyword_mark ks)) ≡ map (keyword_filled bound joined) ks
  keywords-alike [] = refl
  keywords-alike (k ∷ ks) = λ i. keyword-alike k i ∷ keywords-alike ks i

  selector-alike : (s : SelectorLike Name) → selector_filled bound joined (selector_marked (selector_mark s)) ≡ selector_filled bound joined s
  selector-alike (this_selector n) = refl
  selector-alike (any_unary m) = ap (selector_in m.name) (alike m)
  selector-alike (of_keywords ks) = ap joined (keywords-alike ks)
  selector-alike (any_message m) = ap (selector_in m.name) (alike m)

  arguments-alike : (s : SelectorLike Name) {ts us : TreesOf Name} → ts ≡ us → arguments_filled bound joined (selector_marked (selector_mark s)) ts ≡ arguments_filled bound joined s us
  arguments-alike (this_selector n) e = e
  arguments-alike (any_unary m) e = e
  arguments-alike (of_keywords ks) e = e
  arguments-alike (any_message m) e = ap arguments_in (alike m)

  -- a statement before others
  abbrev line : PatternOf Name → StatementsOf Name → StatementsOf Name
  line p rest = option_map_or (λ m. append_statements (run_in (bound m)) rest) (list_meta p) (more_statements [] (filled bound joined p) rest)

  meta-line : (k : MetaKind) (m n : MetaOf Name) (t u : TreeOf Name) {xs ys : StatementsOf Name} → bound m ≡ bound n → t ≡ u → xs ≡ ys →
      option_map_or (λ x. append_statements (run_in (bound x)) xs) (list_kind k m) (more_statements [] t xs) ≡ option_map_or (λ x. append_statements (run_in (bound x)) ys) (list_kind k n) (more_statements [] u ys)
  meta-line OfName m n t u b e h = λ i. more_statements [] (e i) (h i)
  meta-line Constant m n t u b e h = λ i. more_statements [] (e i) (h i)
  meta-line Expression m n t u b e h = λ i. more_statements [] (e i) (h i)
  meta-line Statement m n t u b e h = λ i. more_statements [] (e i) (h i)
  meta-line StatementList m n t u b e h = λ i. append_statements (run_in (b i)) (h i)
  meta-line Unary m n t u b e h = λ i. more_statements [] (e i) (h i)
  meta-line Keyword m n t u b e h = λ i. more_statements [] (e i) (h i)
  meta-line Message m n t u b e h = λ i. more_statements [] (e i) (h i)

  line-alike : (p : PatternOf Name) {xs ys : StatementsOf Name} → filled bound joined (plainly p) ≡ filled bound joined p → xs ≡ ys → line (plainly p) xs ≡ line p ys
  line-alike (meta m) e h = meta-line m.kind (undoubled m.kind m.name) m (part_in m.name (bound (undoubled m.kind m.name))) (part_in m.name (bound m)) (alike m) e h
  line-alike (var_like n) e h = λ i. more_statements [] (e i) (h i)
  line-alike (literal_like l) e h = λ i. more_statements [] (e i) (h i)
  line-alike (send_like r s ps) e h = λ i. more_statements [] (e i) (h i)
  line-alike (cascade_like r ms) e h = λ i. more_statements [] (e i) (h i)
  line-alike (assign_like n p) e h = λ i. more_statements [] (e i) (h i)
  line-alike (block_like ps ts ss c) e h = λ i. more_statements [] (e i) (h i)
  line-alike (brace_like ps) e h = λ i. more_statements [] (e i) (h i)
  line-alike (return_like p) e h = λ i. more_statements [] (e i) (h i)

  mutual
    pub filled-alike : (p : PatternOf Name) → filled bound joined (plainly p) ≡ filled bound joined p
    filled-alike (meta m) = ap (part_in m.name) (alike m)
    filled-alike (var_like n) = refl
    filled-alike (literal_like l) = ap literal (literal-back l)
    filled-alike (send_like r s ps) = λ i. send (filled-alike r i) (selector-alike s i) (arguments-alike s (trees-alike ps) i)
    filled-alike (cascade_like r ms) = λ i. cascade (filled-alike r i) (messages-alike ms i)
    filled-alike (assign_like n p) = ap (assign n) (filled-alike p)
    filled-alike (block_like ps ts ss e) = λ i. block_of (names-back ps i) (names-back ts i) (statements-alike ss e i)
    filled-alike (brace_like ps) = ap brace (trees-alike ps)
    filled-alike (return_like p) = ap return (filled-alike p)

    trees-alike : (ps : PatternsOf Name) → trees_filled bound joined (patterns_marked (marked_trees ps)) ≡ trees_filled bound joined ps
    trees-alike no_patterns = refl
    trees-alike (more_patterns p ps) = λ i. more_trees (filled-alike p i) (trees-alike ps i)

    messages-alike : (ms : MessagesLike Name) → messages_filled bound joined (messages_marked (marked_messages ms)) ≡ messages_filled bound joined ms
    messages-alike no_messages_like = refl
    messages-alike (more_messages_like s ps ms) = λ i. more_messages (selector-alike s i) (arguments-alike s (trees-alike ps) i) (messages-alike ms i)

    statements-alike : (ss : StatementsLike Name) (e : Notes) → statements_filled bound joined (statements_marked (marked_statements ss)) e ≡ statements_filled bound joined ss e
    statements-alike no_statements_like e = refl
    statements-alike (more_statements_like c p ss) e =
        let rest = statements-alike ss e in
        λ i. noted c (line-alike p (filled-alike p) (λ j. (rest j).0) i) (rest i).1

-- what a metavariable is bound to does not depend on whether it is doubled
pub bound-alike : (same : Name → Name → Bool) (bs : List (BindingOf Name)) (m : MetaOf Name) → bound_of same bs (undoubled m.kind m.name) ≡ bound_of same bs m
bound-alike same [] m = refl
bound-alike same (b ∷ bs) m = ap (λ (x : BoundOf Name). if same_meta same b.meta m then b.bound else x) (bound-alike same bs m)

module _ (w : PatternWordsOf Name) (joined : List (List ℕ) → Name) (p q : PatternOf Name) where
  abbrev by_plain : RuleOf Name
  by_plain = record { pattern = p; replacement = plainly q }

  abbrev by_doubled : RuleOf Name
  by_doubled = record { pattern = p; replacement = q }

  found-alike : (f g : TreeOf Name → TreeOf Name) → ((t : TreeOf Name) → f t ≡ g t) → (t : TreeOf Name) (o : FoundOf Name) → rewritten_by w joined by_plain f t o ≡ rewritten_by w joined by_doubled g t o
  found-alike f g h t None = λ i. each_child (λ u. h u i) t
  found-alike f g h t (Some xs) =
      filled-alike (bound_of w.tests.same (map (each_doubled (in_match p f)) (bindings_of w xs))) joined (bound-alike w.tests.same (map (each_doubled (in_match p f)) (bindings_of w xs))) q
      ∙ (λ i. filled (bound_of w.tests.same (map (each_doubled (in_match p (λ u. h u i))) (bindings_of w xs))) joined q)

  within-alike : (n : ℕ) (t : TreeOf Name) → rewritten_within w joined by_plain n t ≡ rewritten_within w joined by_doubled n t
  within-alike zero t = refl
  within-alike (suc n) t = found-alike (rewritten_within w joined by_plain n) (rewritten_within w joined by_doubled n) (within-alike n) t (match_places w p t)

  pub rewritten-alike : (t : TreeOf Name) → rewritten w joined by_plain t ≡ rewritten w joined by_doubled t
  rewritten-alike t = within-alike (height t) t
