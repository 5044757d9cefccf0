-- Metavariables and selectors that are filled.
use Rattle.std.proofs.Common.{◌≡◌, ℕ, ◌+◌, ◌<◌, ◌≤◌, List, [], ◌∷◌, ◌++◌, length, drop, get_or, map, append_assoc, refl, sym, ap, subst, ◌∙◌}
use Rattle.std.specs.Prelude.{nat_eq}
use Rattle.std.specs.List.{AllByRecursion, concat}
use Rattle.std.proofs.lemmas.List.{append-nil, drop_more, drop_all}
use Rattle.rb_base.specs.Names.{name_at}
use Rattle.tree_model.specs.Tree.{TreeOf, TreesOf, map_names, map_trees}
use Rattle.tree_model.specs.AllNames.{AllNames, TreesNames}
use Rattle.pattern_model.specs.Patterns.{MetaOf, KeywordLike, this_keyword, any_keyword, SelectorLike, this_selector, any_unary, of_keywords, any_message, PatternsOf, meta}
use Rattle.pattern_model.specs.Bindings.{BindingOf, bound_of}
use Rattle.pattern_model.specs.Named.{map_keyword, map_selector, map_patterns}
use Rattle.pattern_model.specs.Fill.{part_in, selector_in, arguments_in, keyword_filled, arguments_filled, trees_filled}
use Rattle.patterns.specs.Names.{KeywordNames}
use Rattle.patterns.specs.View.{keyword_of, selector_of}
use Rattle.patterns.specs.declared.tree.Meta.{Meta}
use Rattle.patterns.specs.declared.tree.PatternKeyword.{PatternKeyword}
use Rattle.patterns.specs.declared.tree.PatternSelector.{PatternSelector}
use Rattle.patterns.specs.declared.tree.PatternSelector.TheVariants as selector
use Rattle.filled_patterns.specs.declared.bindings.Binding.{Binding}
use Rattle.filled_patterns.specs.Left.{Holds}
use Rattle.filled_patterns.specs.Filling.{keyword_text, Later, Over, AreKnown, Known, bound_texts, IsChosen, IsFilled, AreFilled, IsMessageFilled}
use Rattle.filled_patterns.proofs.Growing.{still_known, keywords_imply}
use Rattle.filled_patterns.proofs.Looked.{part_texts, part_known, selector_texts, selector_stands, keyword_texts, arguments_texts, arguments_known}

-- the selector that stands for a metavariable, and one in a table that may grow
abbrev pub Selects : List Binding → MetaOf ℕ → ℕ → Type 0
Selects ss m n = (bs : List (BindingOf ℕ)) → Holds bs ss → n ≡ selector_in m.name (bound_of nat_eq bs m)

abbrev pub Chooses : List (List ℕ) → List Binding → SelectorLike ℕ → ℕ → Type 0
Chooses names ss s n = (final : List (List ℕ)) → Later names final → Over final ss (λ bs. IsChosen final bs s n)

module _ {names final : List (List ℕ)} (l : Later names final) (bs : List (BindingOf ℕ)) (ks : AreKnown final bs) where
  -- a metavariable for a node
  pub a_meta : (m : MetaOf ℕ) → Known names m.name → (t : TreeOf ℕ) → t ≡ part_in m.name (bound_of nat_eq bs m) → IsFilled final bs (meta m) t
  a_meta m h t e = record {
    same = ap (map_names (name_at final)) e ∙ part_texts final l.distinct bs ks m (still_known l.grows m.name h);
    known = subst (AllNames (Known final)) (sym e) (part_known final l.distinct bs ks m (still_known l.grows m.name h));
  }

  -- a selector
  pub a_plain : (n : ℕ) → Known names n → IsChosen final bs (this_selector n) n
  a_plain n h = record { same = refl; known = still_known l.grows n h }

  pub a_unary : (m : MetaOf ℕ) → Known names m.name → (n : ℕ) → n ≡ selector_in m.name (bound_of nat_eq bs m) → IsChosen final bs (any_unary m) n
  a_unary m h n e = record {
    same = ap (name_at final) e ∙ selector_texts final l.distinct bs ks m (still_known l.grows m.name h);
    known = subst (Known final) (sym e) (selector_stands final l.distinct bs ks m (still_known l.grows m.name h));
  }

  pub a_whole : (m : MetaOf ℕ) → Known names m.name → (n : ℕ) → n ≡ selector_in m.name (bound_of nat_eq bs m) → IsChosen final bs (any_message m) n
  a_whole m h n e = record { same = (a_unary m h n e).same; known = (a_unary m h n e).known }

  keywords_texts : (ws : List (KeywordLike ℕ)) → AllByRecursion (KeywordNames (Known final)) ws
      → map (keyword_text bs) ws ≡ map (keyword_filled (bound_texts final bs) concat) (map (map_keyword (name_at final)) ws)
  keywords_texts [] h = refl
  keywords_texts (this_keyword k ∷ ws) h = ap (λ (ts : List (List ℕ)). k ∷ ts) (keywords_texts ws h.1)
  keywords_texts (any_keyword m ∷ ws) h = λ i. keyword_texts final l.distinct bs ks m h.0 i ∷ keywords_texts ws h.1 i

  pub a_row : (ws : List (KeywordLike ℕ)) → AllByRecursion (KeywordNames (Known names)) ws → (n : ℕ) → (name_at final n ≡ concat (map (keyword_text bs) ws)) × (n < length final) → IsChosen final bs (of_keywords ws) n
  a_row ws h n e = record { same = e.0 ∙ ap concat (keywords_texts ws (keywords_imply (Known names) (Known final) (still_known l.grows) ws h)); known = e.1 }

  -- a message
  pub whole_message : (m : MetaOf ℕ) → Known names m.name → (s : SelectorLike ℕ) → s ≡ any_message m → (ps : PatternsOf ℕ) (n : ℕ) → IsChosen final bs s n
      → (ts : TreesOf ℕ) → ts ≡ arguments_in (bound_of nat_eq bs m) → IsMessageFilled final bs s ps n ts
  whole_message m h s is ps n a ts e = record {
    selector = a;
    same =
        ap (map_trees (name_at final)) e ∙ arguments_texts final l.distinct bs ks m (still_known l.grows m.name h)
        ∙ ap (λ x. arguments_filled (bound_texts final bs) concat (map_selector (name_at final) x) (trees_filled (bound_texts final bs) concat (map_patterns (name_at final) ps))) (sym is);
    known = subst (TreesNames (Known final)) (sym e) (arguments_known final l.distinct bs ks m (still_known l.grows m.name h));
  }

-- a message that has the arguments of its pattern
pub plain_message : (final : List (List ℕ)) (bs : List (BindingOf ℕ)) (s : SelectorLike ℕ) → ((m : MetaOf ℕ) → s ≡ any_message m → ⊥) → (ps : PatternsOf ℕ) (n : ℕ) (ts : TreesOf ℕ)
    → IsChosen final bs s n → AreFilled final bs ps ts → IsMessageFilled final bs s ps n ts
plain_message final bs (this_selector k) not ps n ts a b = record { selector = a; same = b.same; known = b.known }
plain_message final bs (any_unary m) not ps n ts a b = record { selector = a; same = b.same; known = b.known }
plain_message final bs (of_keywords ws) not ps n ts a b = record { selector = a; same = b.same; known = b.known }
plain_message final bs (any_message m) not ps n ts a b = absurd (not m refl)

-- the selector of a kind
pub chosen_is : (final : List (List ℕ)) (bs : List (BindingOf ℕ)) (s k : SelectorLike ℕ) (n : ℕ) → s ≡ k → IsChosen final bs k n → IsChosen final bs s n
chosen_is final bs s k n e a = subst (λ (x : SelectorLike ℕ). IsChosen final bs x n) (sym e) a

pub not_whole : (s : PatternSelector) → ((x : Meta) → s ≡ selector.Whole x → ⊥) → (m : MetaOf ℕ) → selector_of s ≡ any_message m → ⊥
not_whole (selector.Plain n) h m e = cc
not_whole (selector.Unary x) h m e = cc
not_whole (selector.Keywords ws) h m e = cc
not_whole (selector.Whole x) h m e = h x refl

-- one more keyword
pub keyword_more : (bs : List (BindingOf ℕ)) (ws : List PatternKeyword) (i : ℕ) (w : PatternKeyword) → i < length ws → w ≡ get_or ws i w → (t u k whole : List ℕ) → u ≡ t ++ k → k ≡ keyword_text bs (keyword_of w)
    → t ++ concat (map (keyword_text bs) (map keyword_of (drop i ws))) ≡ whole → u ++ concat (map (keyword_text bs) (map keyword_of (drop (i + 1) ws))) ≡ whole
keyword_more bs ws i w h is t u k whole e f so_far =
    let rest : List ℕ = concat (map (keyword_text bs) (map keyword_of (drop (i + 1) ws))) in
    let cut : drop i ws ≡ w ∷ drop (i + 1) ws = drop_more ws i w h ∙ ap (λ (y : PatternKeyword). y ∷ drop (i + 1) ws) (sym is) in
    ap (λ (x : List ℕ). x ++ rest) (e ∙ ap (λ (x : List ℕ). t ++ x) f) ∙ append_assoc t (keyword_text bs (keyword_of w)) rest
    ∙ ap (λ (xs : List PatternKeyword). t ++ concat (map (keyword_text bs) (map keyword_of xs))) (sym cut) ∙ so_far

pub keywords_joined : (bs : List (BindingOf ℕ)) (ws : List PatternKeyword) (i : ℕ) → length ws ≤ i → (t whole : List ℕ) → t ++ concat (map (keyword_text bs) (map keyword_of (drop i ws))) ≡ whole → t ≡ whole
keywords_joined bs ws i h t whole so_far =
    sym (append-nil t) ∙ ap (λ (xs : List PatternKeyword). t ++ concat (map (keyword_text bs) (map keyword_of xs))) (sym (drop_all i ws h)) ∙ so_far
