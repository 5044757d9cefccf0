-- What is read, put together.
use Rattle.std.proofs.Common.{◌≡◌, ℕ, ◌+◌, ◌<◌, true, false, List, [], ◌∷◌, ◌++◌, length, take, get_or, refl, sym, ap, subst, ◌∙◌}
use Rattle.std.specs.Prelude.{◌≤◌, ◌&&◌, Vec}
use Rattle.std.specs.declared.alloc.Global.{Global}
use Rattle.std.specs.List.{list_any}
use Rattle.std.proofs.lemmas.List.{take_more, take_all}
use Rattle.rb_base.specs.Names.{name_at}
use Rattle.tree_model.specs.Tree.{TreeOf, var, trees_of}
use Rattle.grammar_model.specs.Terminal.{Text}
use Rattle.st_tree.specs.View.{messages_of, statements_of}
use Rattle.st_tree.specs.declared.tree.Message.{Message}
use Rattle.st_tree.specs.declared.tree.Statement.{Statement}
use Rattle.text_model.specs.Pieces.{keywords_of, has_colon}
use Rattle.pattern_model.specs.declared.kinds.MetaKind.TheVariants as MetaKind
use Rattle.pattern_model.specs.declared.kinds.MetaKind.TheVariants.{Unary}
use Rattle.pattern_model.specs.Patterns.{PatternOf, this_selector, any_unary, of_keywords, any_message, meta, var_like}
use Rattle.pattern_model.specs.Spelled.{begins, behind, is_meta, marked, spelled, uncoloned, operand_meta, selector_like, pattern_of}
use Rattle.patterns.specs.View.{meta_of, patterns_of, messages_from, statements_from}
use Rattle.patterns.specs.declared.tree.Meta.{Meta}
use Rattle.patterns.specs.declared.tree.PatternKeyword.{PatternKeyword}
use Rattle.patterns.specs.declared.tree.PatternSelector.TheVariants as selector
use Rattle.patterns.specs.declared.tree.PatternMessage.{PatternMessage}
use Rattle.patterns.specs.declared.tree.PatternStatement.{PatternStatement}
use Rattle.pattern_trees.specs.Reading.{IsMeta, IsKeyword, AreKeywords, IsSelector, IsPattern, ArePatterns, IsMessage, AreMessages, AreStatements}

-- the items up to one more, and all of them
taken : {X : Type 0} (xs : List X) (i : ℕ) (x : X) → i < length xs → x ≡ get_or xs i x → take (i + 1) xs ≡ take i xs ++ x ∷ []
taken xs i x h e = take_more xs i x h ∙ ap (λ y. take i xs ++ y ∷ []) (sym e)

module _ (final : List Text) where
  -- one more keyword
  pub keywords_put : (ts : List Text) (ks : List PatternKeyword) (t : Text) (k : PatternKeyword) → AreKeywords final ts ks → IsKeyword final t k → AreKeywords final (ts ++ t ∷ []) (ks ++ k ∷ [])
  keywords_put [] [] t k a b = record { same = λ i. b.same i ∷ []; known = (b.known, tt) }
  keywords_put [] (l ∷ ks) t k a b = let bad : ⊥ = cc a.same in absurd bad
  keywords_put (u ∷ ts) [] t k a b = let bad : ⊥ = cc a.same in absurd bad
  keywords_put (u ∷ ts) (l ∷ ks) t k a b =
      let rest = keywords_put ts ks t k (record { same = cc a.same; known = a.known.1 }) b in
      let first : IsKeyword final u l = record { same = cc a.same; known = a.known.0 } in
      record { same = λ i. first.same i ∷ rest.same i; known = (first.known, rest.known) }

  -- one more node
  pub nodes_put : (ts : List (TreeOf ℕ)) (ps : List (PatternOf ℕ)) (t : TreeOf ℕ) (p : PatternOf ℕ) → ArePatterns final (trees_of ts) (patterns_of ps) → IsPattern final t p → ArePatterns final (trees_of (ts ++ t ∷ [])) (patterns_of (ps ++ p ∷ []))
  nodes_put [] [] t p a b = record { same = cc b.same; known = (b.known, tt) }
  nodes_put [] (q ∷ ps) t p a b = let bad : ⊥ = cc a.same in absurd bad
  nodes_put (u ∷ ts) [] t p a b = let bad : ⊥ = cc a.same in absurd bad
  nodes_put (u ∷ ts) (q ∷ ps) t p a b =
      let rest = nodes_put ts ps t p (record { same = cc a.same; known = a.known.1 }) b in
      record { same = cc (a.same, rest.same); known = (a.known.0, rest.known) }

  -- one more message
  pub messages_put : (ts : List Message) (ps : List PatternMessage) (t : Message) (p : PatternMessage) → AreMessages final (messages_of ts) (messages_from ps) → IsMessage final t.selector (trees_of t.arguments) p → AreMessages final (messages_of (ts ++ t ∷ [])) (messages_from (ps ++ p ∷ []))
  messages_put [] [] t p a b = record { same = cc (b.selector.same, b.same); known = (b.selector.known, b.known, tt) }
  messages_put [] (q ∷ ps) t p a b = let bad : ⊥ = cc a.same in absurd bad
  messages_put (u ∷ ts) [] t p a b = let bad : ⊥ = cc a.same in absurd bad
  messages_put (u ∷ ts) (q ∷ ps) t p a b =
      let rest = messages_put ts ps t p (record { same = cc a.same; known = a.known.2 }) b in
      record { same = cc (a.same, rest.same); known = (a.known.0, a.known.1, rest.known) }

  -- one more statement
  pub statements_put : (ts : List Statement) (ps : List PatternStatement) (t : Statement) (p : PatternStatement) → AreStatements final (statements_of ts) (statements_from ps) → p.comments ≡ t.comments → IsPattern final t.node p.node → AreStatements final (statements_of (ts ++ t ∷ [])) (statements_from (ps ++ p ∷ []))
  statements_put [] [] t p a c b = record { same = cc (b.same, c); known = (b.known, tt) }
  statements_put [] (q ∷ ps) t p a c b = let bad : ⊥ = cc a.same in absurd bad
  statements_put (u ∷ ts) [] t p a c b = let bad : ⊥ = cc a.same in absurd bad
  statements_put (u ∷ ts) (q ∷ ps) t p a c b =
      let rest = statements_put ts ps t p (record { same = cc a.same; known = a.known.1 }) c b in
      record { same = cc (a.same, rest.same); known = (a.known.0, rest.known) }

  -- one more item of a list that is read
  pub keywords_more : (ts : List Text) (i : ℕ) (t : Text) → i < length ts → t ≡ get_or ts i t → (ks ls : List PatternKeyword) (k : PatternKeyword) → ls ≡ ks ++ k ∷ []
      → AreKeywords final (take i ts) ks → IsKeyword final t k → AreKeywords final (take (i + 1) ts) ls
  keywords_more ts i t h is ks ls k e a b =
      subst (λ (us : List Text). AreKeywords final us ls) (sym (taken ts i t h is)) (subst (λ (xs : List PatternKeyword). AreKeywords final (take i ts ++ t ∷ []) xs) (sym e) (keywords_put (take i ts) ks t k a b))

  pub keywords_all : (ts : List Text) (i : ℕ) (ks : List PatternKeyword) → length ts ≤ i → AreKeywords final (take i ts) ks → AreKeywords final ts ks
  keywords_all ts i ks h a = subst (λ (us : List Text). AreKeywords final us ks) (take_all i ts h) a

  pub nodes_more : (ts : List (TreeOf ℕ)) (i : ℕ) (t : TreeOf ℕ) → i < length ts → t ≡ get_or ts i t → (ks ls : List (PatternOf ℕ)) (k : PatternOf ℕ) → ls ≡ ks ++ k ∷ []
      → ArePatterns final (trees_of (take i ts)) (patterns_of ks) → IsPattern final t k → ArePatterns final (trees_of (take (i + 1) ts)) (patterns_of ls)
  nodes_more ts i t h is ks ls k e a b =
      subst (λ (us : List (TreeOf ℕ)). ArePatterns final (trees_of us) (patterns_of ls)) (sym (taken ts i t h is))
      (subst (λ (xs : List (PatternOf ℕ)). ArePatterns final (trees_of (take i ts ++ t ∷ [])) (patterns_of xs)) (sym e) (nodes_put (take i ts) ks t k a b))

  pub nodes_all : (ts : List (TreeOf ℕ)) (i : ℕ) (ks : List (PatternOf ℕ)) → length ts ≤ i → ArePatterns final (trees_of (take i ts)) (patterns_of ks) → ArePatterns final (trees_of ts) (patterns_of ks)
  nodes_all ts i ks h a = subst (λ (us : List (TreeOf ℕ)). ArePatterns final (trees_of us) (patterns_of ks)) (take_all i ts h) a

  pub messages_more : (ts : List Message) (i : ℕ) (t : Message) → i < length ts → t ≡ get_or ts i t → (ks ls : List PatternMessage) (k : PatternMessage) → ls ≡ ks ++ k ∷ []
      → AreMessages final (messages_of (take i ts)) (messages_from ks) → IsMessage final t.selector (trees_of t.arguments) k → AreMessages final (messages_of (take (i + 1) ts)) (messages_from ls)
  messages_more ts i t h is ks ls k e a b =
      subst (λ (us : List Message). AreMessages final (messages_of us) (messages_from ls)) (sym (taken ts i t h is))
      (subst (λ (xs : List PatternMessage). AreMessages final (messages_of (take i ts ++ t ∷ [])) (messages_from xs)) (sym e) (messages_put (take i ts) ks t k a b))

  pub messages_all : (ts : List Message) (i : ℕ) (ks : List PatternMessage) → length ts ≤ i → AreMessages final (messages_of (take i ts)) (messages_from ks) → AreMessages final (messages_of ts) (messages_from ks)
  messages_all ts i ks h a = subst (λ (us : List Message). AreMessages final (messages_of us) (messages_from ks)) (take_all i ts h) a

  pub statements_more : (ts : List Statement) (i : ℕ) (t : Statement) → i < length ts → t ≡ get_or ts i t → (ks ls : List PatternStatement) (k : PatternStatement) → ls ≡ ks ++ k ∷ []
      → AreStatements final (statements_of (take i ts)) (statements_from ks) → k.comments ≡ t.comments → IsPattern final t.node k.node → AreStatements final (statements_of (take (i + 1) ts)) (statements_from ls)
  statements_more ts i t h is ks ls k e a c b =
      subst (λ (us : List Statement). AreStatements final (statements_of us) (statements_from ls)) (sym (taken ts i t h is))
      (subst (λ (xs : List PatternStatement). AreStatements final (statements_of (take i ts ++ t ∷ [])) (statements_from xs)) (sym e) (statements_put (take i ts) ks t k a c b))

  pub statements_all : (ts : List Statement) (i : ℕ) (ks : List PatternStatement) → length ts ≤ i → AreStatements final (statements_of (take i ts)) (statements_from ks) → AreStatements final (statements_of ts) (statements_from ks)
  statements_all ts i ks h a = subst (λ (us : List Statement). AreStatements final (statements_of us) (statements_from ks)) (take_all i ts h) a

  -- an operand
  module _ (n : ℕ) (t : Text) (is : t ≡ name_at final n) where
    pub a_variable : n < length final → is_meta t ≡ false → IsPattern final (var n) (var_like n)
    a_variable h e = record { same = ap var_like (sym is) ∙ sym (rw e refl) ∙ ap (λ u. pattern_of (var u)) is; known = h }

    pub a_meta : (m : Meta) → is_meta t ≡ true → IsMeta final (operand_meta t) m → IsPattern final (var n) (meta (meta_of m))
    a_meta m e a = record { same = ap meta a.same ∙ sym (rw e refl) ∙ ap (λ u. pattern_of (var u)) is; known = a.known }

    -- a selector
    pub a_plain : n < length final → list_any is_meta (keywords_of t) ≡ false → IsSelector final n (selector.Plain n)
    a_plain h e = record { same = ap this_selector (sym is) ∙ sym (rw e refl) ∙ ap selector_like is; known = h }

    pub a_unary : (m : Meta) → list_any is_meta (keywords_of t) ≡ true → has_colon t ≡ false → IsMeta final (spelled t Unary (marked t)) m → IsSelector final n (selector.Unary m)
    a_unary m e f a = record { same = ap any_unary a.same ∙ sym (rw (e, f) refl) ∙ ap selector_like is; known = a.known }

    pub a_message : (m : Meta) → list_any is_meta (keywords_of t) ≡ true → has_colon t ≡ true → (is_meta t && begins 64 (marked t)) ≡ true → IsMeta final (spelled t MetaKind.Message (uncoloned (behind (marked t)))) m
        → IsSelector final n (selector.Whole m)
    a_message m e f g a = record { same = ap any_message a.same ∙ sym (rw (e, f, g) refl) ∙ ap selector_like is; known = a.known }

    pub a_row : (ks : Vec PatternKeyword Global) → list_any is_meta (keywords_of t) ≡ true → has_colon t ≡ true → (is_meta t && begins 64 (marked t)) ≡ false → AreKeywords final (keywords_of t) ks.items
        → IsSelector final n (selector.Keywords ks)
    a_row ks e f g a = record { same = ap of_keywords a.same ∙ sym (rw (e, f, g) refl) ∙ ap selector_like is; known = a.known }
