-- Marks that are listed: one more item of a list.
use Rattle.std.proofs.Common.{◌≡◌, ℕ, ◌+◌, ◌<◌, ◌≤◌, List, [], ◌∷◌, ◌++◌, length, get_or, drop, sym, ap, ◌∙◌, append_assoc, append-nil}
use Rattle.std.proofs.lemmas.List.{drop_more, drop_all}
use Rattle.pattern_model.specs.Patterns.{PatternOf}
use Rattle.patterns.specs.View.{selector_of, patterns_of, messages_from, statements_from}
use Rattle.patterns.specs.declared.tree.PatternMessage.{PatternMessage}
use Rattle.patterns.specs.declared.tree.PatternStatement.{PatternStatement}
use Rattle.derivations.specs.Signs.{Sign, selector_signs, signs, trees_signs, messages_signs, statements_signs}

-- one more item is cut off
pub cut_off : {X : Type 0} (xs : List X) (x : X) (i : ℕ) → i < length xs → x ≡ get_or xs i x → drop i xs ≡ x ∷ drop (i + 1) xs
cut_off xs x i h e = drop_more xs i x h ∙ ap (λ y. y ∷ drop (i + 1) xs) (sym e)

module _ (old mid all : List Sign) where
  one_more : (one rest left : List Sign) → mid ≡ old ++ one → left ≡ one ++ rest → old ++ left ≡ all → mid ++ rest ≡ all
  one_more one rest left more cut so_far = ap (λ (zs : List Sign). zs ++ rest) more ∙ append_assoc old one rest ∙ ap (λ (zs : List Sign). old ++ zs) (sym cut) ∙ so_far

  pub pattern_listed : (ps : List (PatternOf ℕ)) (i : ℕ) (p : PatternOf ℕ) → i < length ps → p ≡ get_or ps i p → mid ≡ old ++ signs p
      → old ++ trees_signs (patterns_of (drop i ps)) ≡ all → mid ++ trees_signs (patterns_of (drop (i + 1) ps)) ≡ all
  pattern_listed ps i p h e more so_far =
      one_more (signs p) (trees_signs (patterns_of (drop (i + 1) ps))) _ more (λ j. trees_signs (patterns_of (cut_off ps p i h e j))) so_far

  pub message_listed : (ms : List PatternMessage) (i : ℕ) (m : PatternMessage) → i < length ms → m ≡ get_or ms i m
      → mid ≡ old ++ (selector_signs (selector_of m.selector) ++ trees_signs (patterns_of m.arguments.items))
      → old ++ messages_signs (messages_from (drop i ms)) ≡ all → mid ++ messages_signs (messages_from (drop (i + 1) ms)) ≡ all
  message_listed ms i m h e more so_far =
      one_more (selector_signs (selector_of m.selector) ++ trees_signs (patterns_of m.arguments.items)) (messages_signs (messages_from (drop (i + 1) ms))) _ more
      (λ j. messages_signs (messages_from (cut_off ms m i h e j))) so_far

  pub statement_listed : (ss : List PatternStatement) (i : ℕ) (s : PatternStatement) → i < length ss → s ≡ get_or ss i s → mid ≡ old ++ signs s.node
      → old ++ statements_signs (statements_from (drop i ss)) ≡ all → mid ++ statements_signs (statements_from (drop (i + 1) ss)) ≡ all
  statement_listed ss i s h e more so_far =
      one_more (signs s.node) (statements_signs (statements_from (drop (i + 1) ss))) _ more (λ j. statements_signs (statements_from (cut_off ss s i h e j))) so_far

module _ (old all : List Sign) where
  none_left : (left : List Sign) → left ≡ [] → old ++ left ≡ all → old ≡ all
  none_left left e so_far = sym (append-nil old) ∙ ap (λ (zs : List Sign). old ++ zs) (sym e) ∙ so_far

  pub patterns_listed : (ps : List (PatternOf ℕ)) (i : ℕ) → length ps ≤ i → old ++ trees_signs (patterns_of (drop i ps)) ≡ all → old ≡ all
  patterns_listed ps i h so_far = none_left _ (λ j. trees_signs (patterns_of (drop_all i ps h j))) so_far

  pub messages_listed : (ms : List PatternMessage) (i : ℕ) → length ms ≤ i → old ++ messages_signs (messages_from (drop i ms)) ≡ all → old ≡ all
  messages_listed ms i h so_far = none_left _ (λ j. messages_signs (messages_from (drop_all i ms h j))) so_far

  pub statements_listed : (ss : List PatternStatement) (i : ℕ) → length ss ≤ i → old ++ statements_signs (statements_from (drop i ss)) ≡ all → old ≡ all
  statements_listed ss i h so_far = none_left _ (λ j. statements_signs (statements_from (drop_all i ss h j))) so_far
