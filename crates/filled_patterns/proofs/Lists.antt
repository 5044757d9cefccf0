-- Lists of nodes and of messages that are filled one after the other.
use Rattle.std.proofs.Common.{◌≡◌, ℕ, zero, suc, ◌+◌, ◌<◌, ◌≤◌, List, [], ◌∷◌, ◌++◌, length, take, get_or, sym, ap, subst, ◌∙◌, arith}
use Rattle.std.proofs.lemmas.List.{take_more, take_all}
use Rattle.tree_model.specs.Tree.{TreeOf, trees_of}
use Rattle.st_tree.specs.View.{messages_of}
use Rattle.st_tree.specs.declared.tree.Message.{Message}
use Rattle.pattern_model.specs.Patterns.{PatternOf}
use Rattle.pattern_model.specs.Bindings.{BindingOf}
use Rattle.patterns.specs.View.{selector_of, patterns_of, messages_from, statements_from}
use Rattle.patterns.specs.Names.{SelectorNames, PatternNames, PatternsNames, MessagesLikeNames, StatementsLikeNames}
use Rattle.patterns.specs.declared.tree.PatternMessage.{PatternMessage}
use Rattle.patterns.specs.declared.tree.PatternStatement.{PatternStatement}
use Rattle.filled_patterns.specs.Filling.{IsFilled, AreFilled, IsMessageFilled, AreMessagesFilled}

-- the items up to one more
taken : {X : Type 0} (xs : List X) (i : ℕ) (x : X) → i < length xs → x ≡ get_or xs i x → take (i + 1) xs ≡ take i xs ++ x ∷ []
taken xs i x h e = take_more xs i x h ∙ ap (λ y. take i xs ++ y ∷ []) (sym e)

-- what is known of a list is known of each item
module _ (P : ℕ → Type 0) where
  pub pattern_of_list : (ps : List (PatternOf ℕ)) (i : ℕ) (p : PatternOf ℕ) → i < length ps → p ≡ get_or ps i p → PatternsNames P (patterns_of ps) → PatternNames P p
  pattern_of_list [] i p h e k = absurd (omega arith)
  pattern_of_list (q ∷ ps) zero p h e k = subst (PatternNames P) (sym e) k.0
  pattern_of_list (q ∷ ps) (suc i) p h e k = pattern_of_list ps i p (omega arith) e k.1

  pub message_of_list : (ms : List PatternMessage) (i : ℕ) (m : PatternMessage) → i < length ms → m ≡ get_or ms i m → MessagesLikeNames P (messages_from ms)
      → SelectorNames P (selector_of m.selector) × PatternsNames P (patterns_of m.arguments.items)
  message_of_list [] i m h e k = absurd (omega arith)
  message_of_list (q ∷ ms) zero m h e k = subst (λ (x : PatternMessage). SelectorNames P (selector_of x.selector) × PatternsNames P (patterns_of x.arguments.items)) (sym e) (k.0, k.1)
  message_of_list (q ∷ ms) (suc i) m h e k = message_of_list ms i m (omega arith) e k.2

  pub statement_of_list : (ss : List PatternStatement) (i : ℕ) (s : PatternStatement) → i < length ss → s ≡ get_or ss i s → StatementsLikeNames P (statements_from ss) → PatternNames P s.node
  statement_of_list [] i s h e k = absurd (omega arith)
  statement_of_list (q ∷ ss) zero s h e k = subst (λ (x : PatternStatement). PatternNames P x.node) (sym e) k.0
  statement_of_list (q ∷ ss) (suc i) s h e k = statement_of_list ss i s (omega arith) e k.1

module _ (final : List (List ℕ)) (bs : List (BindingOf ℕ)) where
  -- one more node
  nodes_put : (ps : List (PatternOf ℕ)) (ts : List (TreeOf ℕ)) (p : PatternOf ℕ) (t : TreeOf ℕ) → AreFilled final bs (patterns_of ps) (trees_of ts) → IsFilled final bs p t → AreFilled final bs (patterns_of (ps ++ p ∷ [])) (trees_of (ts ++ t ∷ []))
  nodes_put [] [] p t a b = record { same = cc b.same; known = (b.known, tt) }
  nodes_put [] (u ∷ ts) p t a b = let bad : ⊥ = cc a.same in absurd bad
  nodes_put (q ∷ ps) [] p t a b = let bad : ⊥ = cc a.same in absurd bad
  nodes_put (q ∷ ps) (u ∷ ts) p t a b =
      let rest = nodes_put ps ts p t (record { same = cc a.same; known = a.known.1 }) b in
      record { same = cc (a.same, rest.same); known = (a.known.0, rest.known) }

  -- one more message
  messages_put : (ps : List PatternMessage) (ms : List Message) (p : PatternMessage) (m : Message) → AreMessagesFilled final bs (messages_from ps) (messages_of ms)
      → IsMessageFilled final bs (selector_of p.selector) (patterns_of p.arguments.items) m.selector (trees_of m.arguments) → AreMessagesFilled final bs (messages_from (ps ++ p ∷ [])) (messages_of (ms ++ m ∷ []))
  messages_put [] [] p m a b = record { same = cc (b.selector.same, b.same); known = (b.selector.known, b.known, tt) }
  messages_put [] (n ∷ ms) p m a b = let bad : ⊥ = cc a.same in absurd bad
  messages_put (q ∷ ps) [] p m a b = let bad : ⊥ = cc a.same in absurd bad
  messages_put (q ∷ ps) (n ∷ ms) p m a b =
      let rest = messages_put ps ms p m (record { same = cc a.same; known = a.known.2 }) b in
      record { same = cc (a.same, rest.same); known = (a.known.0, a.known.1, rest.known) }

  -- the items up to one more, and all of them
  pub nodes_more : (ps : List (PatternOf ℕ)) (i : ℕ) (p : PatternOf ℕ) → i < length ps → p ≡ get_or ps i p → (ts us : List (TreeOf ℕ)) (t : TreeOf ℕ) → us ≡ ts ++ t ∷ []
      → AreFilled final bs (patterns_of (take i ps)) (trees_of ts) → IsFilled final bs p t → AreFilled final bs (patterns_of (take (i + 1) ps)) (trees_of us)
  nodes_more ps i p h is ts us t e a b =
      subst (λ (qs : List (PatternOf ℕ)). AreFilled final bs (patterns_of qs) (trees_of us)) (sym (taken ps i p h is))
      (subst (λ (xs : List (TreeOf ℕ)). AreFilled final bs (patterns_of (take i ps ++ p ∷ [])) (trees_of xs)) (sym e) (nodes_put (take i ps) ts p t a b))

  pub nodes_all : (ps : List (PatternOf ℕ)) (i : ℕ) (ts us : List (TreeOf ℕ)) → us ≡ ts → length ps ≤ i → AreFilled final bs (patterns_of (take i ps)) (trees_of ts) → AreFilled final bs (patterns_of ps) (trees_of us)
  nodes_all ps i ts us e h a =
      subst (λ (xs : List (TreeOf ℕ)). AreFilled final bs (patterns_of ps) (trees_of xs)) (sym e)
      (subst (λ (qs : List (PatternOf ℕ)). AreFilled final bs (patterns_of qs) (trees_of ts)) (take_all i ps h) a)

  pub messages_more : (ps : List PatternMessage) (i : ℕ) (p : PatternMessage) → i < length ps → p ≡ get_or ps i p → (ms ns : List Message) (m : Message) → ns ≡ ms ++ m ∷ []
      → AreMessagesFilled final bs (messages_from (take i ps)) (messages_of ms) → IsMessageFilled final bs (selector_of p.selector) (patterns_of p.arguments.items) m.selector (trees_of m.arguments)
      → AreMessagesFilled final bs (messages_from (take (i + 1) ps)) (messages_of ns)
  messages_more ps i p h is ms ns m e a b =
      subst (λ (qs : List PatternMessage). AreMessagesFilled final bs (messages_from qs) (messages_of ns)) (sym (taken ps i p h is))
      (subst (λ (xs : List Message). AreMessagesFilled final bs (messages_from (take i ps ++ p ∷ [])) (messages_of xs)) (sym e) (messages_put (take i ps) ms p m a b))

  pub messages_all : (ps : List PatternMessage) (i : ℕ) (ms ns : List Message) → ns ≡ ms → length ps ≤ i → AreMessagesFilled final bs (messages_from (take i ps)) (messages_of ms) → AreMessagesFilled final bs (messages_from ps) (messages_of ns)
  messages_all ps i ms ns e h a =
      subst (λ (xs : List Message). AreMessagesFilled final bs (messages_from ps) (messages_of xs)) (sym e)
      (subst (λ (qs : List PatternMessage). AreMessagesFilled final bs (messages_from qs) (messages_of ms)) (take_all i ps h) a)
