-- Metavariables that are listed: one more item of a list.
use Rattle.std.proofs.Common.{◌≡◌, ℕ, ◌+◌, ◌<◌, ◌≤◌, List, [], ◌∷◌, ◌++◌, length, get_or, drop, map, refl, sym, ap, ◌∙◌, arith, append_assoc, append-nil}
use Rattle.std.proofs.lemmas.List.{drop_more, drop_all}
use Rattle.pattern_model.specs.Patterns.{MetaOf, PatternOf, PatternsOf, no_patterns, more_patterns, keyword_metas, metas, trees_metas, message_metas, metas_in_turn, messages_metas, statements_metas}
use Rattle.patterns.specs.View.{keyword_of, selector_of, patterns_of, messages_from, statements_from}
use Rattle.patterns.specs.declared.tree.PatternKeyword.{PatternKeyword}
use Rattle.patterns.specs.declared.tree.PatternMessage.{PatternMessage}
use Rattle.patterns.specs.declared.tree.PatternStatement.{PatternStatement}

-- one more item is cut off
cut_off : {X : Type 0} (xs : List X) (x : X) (i : ℕ) → i < length xs → x ≡ get_or xs i x → drop i xs ≡ x ∷ drop (i + 1) xs
cut_off xs x i h e = drop_more xs i x h ∙ ap (λ y. y ∷ drop (i + 1) xs) (sym e)

no_keywords : (ps : PatternsOf ℕ) → metas_in_turn ps [] ≡ []
no_keywords no_patterns = refl
no_keywords (more_patterns p ps) = refl

module _ (old mid all : List (MetaOf ℕ)) where
  one_more : (one rest left : List (MetaOf ℕ)) → mid ≡ old ++ one → left ≡ one ++ rest → old ++ left ≡ all → mid ++ rest ≡ all
  one_more one rest left more cut so_far = ap (λ (zs : List (MetaOf ℕ)). zs ++ rest) more ∙ append_assoc old one rest ∙ ap (λ (zs : List (MetaOf ℕ)). old ++ zs) (sym cut) ∙ so_far

  pub pattern_listed : (ps : List (PatternOf ℕ)) (i : ℕ) (p : PatternOf ℕ) → i < length ps → p ≡ get_or ps i p → mid ≡ old ++ metas p
      → old ++ trees_metas (patterns_of (drop i ps)) ≡ all → mid ++ trees_metas (patterns_of (drop (i + 1) ps)) ≡ all
  pattern_listed ps i p h e more so_far =
      one_more (metas p) (trees_metas (patterns_of (drop (i + 1) ps))) _ more (λ j. trees_metas (patterns_of (cut_off ps p i h e j))) so_far

  pub message_listed : (ms : List PatternMessage) (i : ℕ) (m : PatternMessage) → i < length ms → m ≡ get_or ms i m
      → mid ≡ old ++ message_metas (selector_of m.selector) (trees_metas (patterns_of m.arguments.items)) (metas_in_turn (patterns_of m.arguments.items))
      → old ++ messages_metas (messages_from (drop i ms)) ≡ all → mid ++ messages_metas (messages_from (drop (i + 1) ms)) ≡ all
  message_listed ms i m h e more so_far =
      one_more (message_metas (selector_of m.selector) (trees_metas (patterns_of m.arguments.items)) (metas_in_turn (patterns_of m.arguments.items))) (messages_metas (messages_from (drop (i + 1) ms))) _ more
      (λ j. messages_metas (messages_from (cut_off ms m i h e j))) so_far

  pub statement_listed : (ss : List PatternStatement) (i : ℕ) (s : PatternStatement) → i < length ss → s ≡ get_or ss i s → mid ≡ old ++ metas s.node
      → old ++ statements_metas (statements_from (drop i ss)) ≡ all → mid ++ statements_metas (statements_from (drop (i + 1) ss)) ≡ all
  statement_listed ss i s h e more so_far =
      one_more (metas s.node) (statements_metas (statements_from (drop (i + 1) ss))) _ more (λ j. statements_metas (statements_from (cut_off ss s i h e j))) so_far

  -- a keyword and its argument
  pub keyword_listed : (ps : List (PatternOf ℕ)) (i : ℕ) (p : PatternOf ℕ) (ks others : List PatternKeyword) (k : PatternKeyword) (between : List (MetaOf ℕ)) → i < length ps → p ≡ get_or ps i p → ks ≡ k ∷ others
      → between ≡ old ++ keyword_metas (keyword_of k) → mid ≡ between ++ metas p
      → old ++ metas_in_turn (patterns_of (drop i ps)) (map keyword_of ks) ≡ all → mid ++ metas_in_turn (patterns_of (drop (i + 1) ps)) (map keyword_of others) ≡ all
  keyword_listed ps i p ks others k between h e is first more so_far =
      let rest : List (MetaOf ℕ) = metas_in_turn (patterns_of (drop (i + 1) ps)) (map keyword_of others) in
      one_more (keyword_metas (keyword_of k) ++ metas p) rest _
      (more ∙ ap (λ (zs : List (MetaOf ℕ)). zs ++ metas p) first ∙ append_assoc old (keyword_metas (keyword_of k)) (metas p))
      ((λ j. metas_in_turn (patterns_of (cut_off ps p i h e j)) (map keyword_of (is j))) ∙ sym (append_assoc (keyword_metas (keyword_of k)) (metas p) rest)) so_far

module _ (old all : List (MetaOf ℕ)) where
  -- no item is left
  none_left : (left : List (MetaOf ℕ)) → left ≡ [] → old ++ left ≡ all → old ≡ all
  none_left left e so_far = sym (append-nil old) ∙ ap (λ (zs : List (MetaOf ℕ)). old ++ zs) (sym e) ∙ so_far

  pub patterns_listed : (ps : List (PatternOf ℕ)) (i : ℕ) → length ps ≤ i → old ++ trees_metas (patterns_of (drop i ps)) ≡ all → old ≡ all
  patterns_listed ps i h so_far = none_left _ (λ j. trees_metas (patterns_of (drop_all i ps h j))) so_far

  pub messages_listed : (ms : List PatternMessage) (i : ℕ) → length ms ≤ i → old ++ messages_metas (messages_from (drop i ms)) ≡ all → old ≡ all
  messages_listed ms i h so_far = none_left _ (λ j. messages_metas (messages_from (drop_all i ms h j))) so_far

  pub statements_listed : (ss : List PatternStatement) (i : ℕ) → length ss ≤ i → old ++ statements_metas (statements_from (drop i ss)) ≡ all → old ≡ all
  statements_listed ss i h so_far = none_left _ (λ j. statements_metas (statements_from (drop_all i ss h j))) so_far

  pub arguments_listed : (ps : List (PatternOf ℕ)) (i : ℕ) (ks : List PatternKeyword) → length ps ≤ i → old ++ metas_in_turn (patterns_of (drop i ps)) (map keyword_of ks) ≡ all → old ≡ all
  arguments_listed ps i ks h so_far = none_left _ (λ j. metas_in_turn (patterns_of (drop_all i ps h j)) (map keyword_of ks)) so_far

  pub keywords_listed : (ps : PatternsOf ℕ) (ks : List PatternKeyword) → length ks ≡ 0 → old ++ metas_in_turn ps (map keyword_of ks) ≡ all → old ≡ all
  keywords_listed ps [] n so_far = none_left _ (no_keywords ps) so_far
  keywords_listed ps (k ∷ ks) n so_far = absurd (omega (arith, n))
