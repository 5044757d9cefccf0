-- Trees in which a name becomes a new one where it is declared, and maybe where it is used.
use Rattle.std.proofs.Common.{◌≡◌, ◌⊎◌, inl, inr, ℕ, suc, ◌+◌, false, List, [], ◌∷◌, map, refl, sym, ap, subst, ◌∙◌}
use Rattle.std.specs.Prelude.{max, codes}
use Rattle.std.specs.Str.{bytes_eq}
use Rattle.tree_model.specs.Tree.{TreeOf, var, literal, send, cascade, assign, block, brace, return, TreesOf, no_trees, more_trees, MessagesOf, no_messages, more_messages, StatementsOf, no_statements, more_statements}
use Rattle.tree_model.specs.Path.{count}
use Rattle.tree_model.specs.Measure.{height, trees_height, messages_height, statements_height}
use Rattle.reread_law.specs.WellFormed.{IsWord, AreParts, LastOne, OneBefore, FitsArguments, FitsNone, FitsOne, FitsParts, IsValue, NoReturn, IsStatement, AreTwo, WellFormed, WellFormedTrees, WellFormedMessages, WellFormedStatements}
use Rattle.file_model.specs.Filing.{Text}
use Rattle.rename_model.specs.Renamed.{NewName, beyond}
use Rattle.command_model.specs.Walk.{Making, onward, rebuilt, rebuilt_trees, rebuilt_messages, rebuilt_statements}
use Rattle.effect_laws.proofs.NamesCalled.{to, words_to}

module _ (x y : Text) where
  -- a node, by what names become where they are used
  abbrev mutual
    pub called : NewName Text → TreeOf Text → TreeOf Text
    called u (var n) = var (u [] n)
    called u (literal l) = literal l
    called u (send r s args) = send (called (beyond 0 u) r) s (called_trees u 1 args)
    called u (cascade r ms) = cascade (called (beyond 0 u) r) (called_messages u 1 ms)
    called u (assign n t) = assign (u [] n) (called (beyond 0 u) t)
    called u (block ps ts ss e) = block (map (to x y) ps) (map (to x y) ts) (called_statements u 0 ss) e
    called u (brace ts) = brace (called_trees u 0 ts)
    called u (return t) = return (called (beyond 0 u) t)

    pub called_trees : NewName Text → ℕ → TreesOf Text → TreesOf Text
    called_trees u k no_trees = no_trees
    called_trees u k (more_trees t ts) = more_trees (called (beyond k u) t) (called_trees u (suc k) ts)

    pub called_messages : NewName Text → ℕ → MessagesOf Text → MessagesOf Text
    called_messages u k no_messages = no_messages
    called_messages u k (more_messages s args ms) = more_messages s (called_trees u k args) (called_messages u (k + count args) ms)

    pub called_statements : NewName Text → ℕ → StatementsOf Text → StatementsOf Text
    called_statements u k no_statements = no_statements
    called_statements u k (more_statements c t ss) = more_statements c (called (beyond k u) t) (called_statements u (suc k) ss)

  -- a walk that makes each node so gives the same
  abbrev pub node_called : NewName Text → Making Text
  node_called u path (var n) = var (u path n)
  node_called u path (literal l) = literal l
  node_called u path (send r s args) = send r s args
  node_called u path (cascade r ms) = cascade r ms
  node_called u path (assign n t) = assign (u path n) t
  node_called u path (block ps ts ss e) = block (map (to x y) ps) (map (to x y) ts) ss e
  node_called u path (brace ts) = brace ts
  node_called u path (return t) = return t

  abbrev pub Calls : Making Text → NewName Text → Type 0
  Calls f u = (path : List ℕ) (t : TreeOf Text) → f path t ≡ node_called u path t

  mutual
    walked : (t : TreeOf Text) (f : Making Text) (u : NewName Text) → Calls f u → rebuilt f t ≡ called u t
    walked (var n) f u c = c [] (var n)
    walked (literal l) f u c = c [] (literal l)
    walked (send r s args) f u c =
        c [] (send (rebuilt (onward 0 f) r) s (rebuilt_trees f 1 args)) ∙ (λ i. send (walked r (onward 0 f) (beyond 0 u) (λ p t. c (0 ∷ p) t) i) s (all_walked args f u 1 c i))
    walked (cascade r ms) f u c =
        c [] (cascade (rebuilt (onward 0 f) r) (rebuilt_messages f 1 ms)) ∙ (λ i. cascade (walked r (onward 0 f) (beyond 0 u) (λ p t. c (0 ∷ p) t) i) (messages_walked ms f u 1 c i))
    walked (assign n t) f u c = c [] (assign n (rebuilt (onward 0 f) t)) ∙ ap (assign (u [] n)) (walked t (onward 0 f) (beyond 0 u) (λ p v. c (0 ∷ p) v))
    walked (block ps ts ss e) f u c = c [] (block ps ts (rebuilt_statements f 0 ss) e) ∙ (λ i. block (map (to x y) ps) (map (to x y) ts) (statements_walked ss f u 0 c i) e)
    walked (brace ts) f u c = c [] (brace (rebuilt_trees f 0 ts)) ∙ ap brace (all_walked ts f u 0 c)
    walked (return t) f u c = c [] (return (rebuilt (onward 0 f) t)) ∙ ap return (walked t (onward 0 f) (beyond 0 u) (λ p v. c (0 ∷ p) v))

    all_walked : (ts : TreesOf Text) (f : Making Text) (u : NewName Text) (k : ℕ) → Calls f u → rebuilt_trees f k ts ≡ called_trees u k ts
    all_walked no_trees f u k c = refl
    all_walked (more_trees t ts) f u k c = λ i. more_trees (walked t (onward k f) (beyond k u) (λ p v. c (k ∷ p) v) i) (all_walked ts f u (suc k) c i)

    messages_walked : (ms : MessagesOf Text) (f : Making Text) (u : NewName Text) (k : ℕ) → Calls f u → rebuilt_messages f k ms ≡ called_messages u k ms
    messages_walked no_messages f u k c = refl
    messages_walked (more_messages s args ms) f u k c = λ i. more_messages s (all_walked args f u k c i) (messages_walked ms f u (k + count args) c i)

    pub statements_walked : (ss : StatementsOf Text) (f : Making Text) (u : NewName Text) (k : ℕ) → Calls f u → rebuilt_statements f k ss ≡ called_statements u k ss
    statements_walked no_statements f u k c = refl
    statements_walked (more_statements n t ss) f u k c = λ i. more_statements n (walked t (onward k f) (beyond k u) (λ p v. c (k ∷ p) v) i) (statements_walked ss f u (suc k) c i)

  -- heights stay
  mutual
    height_called : (t : TreeOf Text) (u : NewName Text) → height (called u t) ≡ height t
    height_called (var n) u = refl
    height_called (literal l) u = refl
    height_called (send r s xs) u = λ i. max (height_called r (beyond 0 u) i) (heights_called xs u 1 i) + 1
    height_called (cascade r ms) u = λ i. max (height_called r (beyond 0 u) i) (messages_height_called ms u 1 i) + 1
    height_called (assign n t) u = λ i. height_called t (beyond 0 u) i + 1
    height_called (block ps ds ss c) u = λ i. statements_height_called ss u 0 i + 1
    height_called (brace ts) u = λ i. heights_called ts u 0 i + 1
    height_called (return t) u = λ i. height_called t (beyond 0 u) i + 1

    heights_called : (ts : TreesOf Text) (u : NewName Text) (k : ℕ) → trees_height (called_trees u k ts) ≡ trees_height ts
    heights_called no_trees u k = refl
    heights_called (more_trees t ts) u k = λ i. max (height_called t (beyond k u) i) (heights_called ts u (suc k) i)

    messages_height_called : (ms : MessagesOf Text) (u : NewName Text) (k : ℕ) → messages_height (called_messages u k ms) ≡ messages_height ms
    messages_height_called no_messages u k = refl
    messages_height_called (more_messages s xs ms) u k = λ i. max (heights_called xs u k i) (messages_height_called ms u (k + count xs) i)

    pub statements_height_called : (ss : StatementsOf Text) (u : NewName Text) (k : ℕ) → statements_height (called_statements u k ss) ≡ statements_height ss
    statements_height_called no_statements u k = refl
    statements_height_called (more_statements c t ss) u k = λ i. max (height_called t (beyond k u) i) (statements_height_called ss u (suc k) i)

  -- a name that is used stays, or is the old one and becomes the new one
  abbrev pub IsCalling : NewName Text → Type 0
  IsCalling u = (path : List ℕ) (n : Text) → (u path n ≡ n) ⊎ ((x ≡ n) × (u path n ≡ y))

  pub calling_on : (u : NewName Text) (k : ℕ) → IsCalling u → IsCalling (beyond k u)
  calling_on u k e path n = e (k ∷ path) n

  -- keywords fit as many arguments
  parts_called : (s : Text) (xs : TreesOf Text) (u : NewName Text) (k : ℕ) → AreParts s xs → AreParts s (called_trees u k xs)
  parts_called s xs u k (LastOne h) = LastOne h
  parts_called s xs u k (OneBefore {s = r} {xs = ys} h g) = OneBefore h (parts_called r ys u (suc k) g)

  fits_called : (s : Text) (xs : TreesOf Text) (u : NewName Text) (k : ℕ) → FitsArguments s xs → FitsArguments s (called_trees u k xs)
  fits_called s xs u k (FitsNone h) = FitsNone h
  fits_called s xs u k (FitsOne h) = FitsOne h
  fits_called s xs u k (FitsParts h) = FitsParts (parts_called s xs u k h)

  no_return_called : (t : TreeOf Text) (u : NewName Text) → NoReturn t → NoReturn (called u t)
  no_return_called (var n) u h = tt
  no_return_called (literal l) u h = tt
  no_return_called (send r s xs) u h = tt
  no_return_called (cascade r ms) u h = tt
  no_return_called (assign n t) u h = tt
  no_return_called (block ps ds ss c) u h = tt
  no_return_called (brace ts) u h = tt
  no_return_called (return t) u h = h

  two_called : (ms : MessagesOf Text) (u : NewName Text) (k : ℕ) → AreTwo ms → AreTwo (called_messages u k ms)
  two_called no_messages u k h = h
  two_called (more_messages s xs no_messages) u k h = h
  two_called (more_messages s xs (more_messages t ys ms)) u k h = tt

  -- the new name is an identifier, and not `super`
  module _ (word : IsWord y) (ordinary : bytes_eq y (codes "super") ≡ false) where
    used_word : (u : NewName Text) → IsCalling u → (path : List ℕ) (n : Text) → IsWord n → IsWord (u path n)
    used_word u e path n h = by (e path n)
      where
        by : (u path n ≡ n) ⊎ ((x ≡ n) × (u path n ≡ y)) → IsWord (u path n)
        by (inl q) = subst IsWord (sym q) h
        by (inr q) = subst IsWord (sym q.1) word

    value_called : (t : TreeOf Text) (u : NewName Text) → IsCalling u → IsValue t → IsValue (called u t)
    value_called (var n) u e h = by (e [] n)
      where
        by : (u [] n ≡ n) ⊎ ((x ≡ n) × (u [] n ≡ y)) → bytes_eq (u [] n) (codes "super") ≡ false
        by (inl q) = ap (λ m. bytes_eq m (codes "super")) q ∙ h
        by (inr q) = ap (λ m. bytes_eq m (codes "super")) q.1 ∙ ordinary
    value_called (literal l) u e h = tt
    value_called (send r s xs) u e h = tt
    value_called (cascade r ms) u e h = tt
    value_called (assign n t) u e h = tt
    value_called (block ps ds ss c) u e h = tt
    value_called (brace ts) u e h = tt
    value_called (return t) u e h = h

    statement_called : (t : TreeOf Text) (ss : StatementsOf Text) (u : NewName Text) (k : ℕ) → IsCalling u → IsStatement t ss → IsStatement (called (beyond k u) t) (called_statements u (suc k) ss)
    statement_called (var n) ss u k e h = value_called (var n) (beyond k u) (calling_on u k e) h
    statement_called (literal l) ss u k e h = tt
    statement_called (send r s xs) ss u k e h = tt
    statement_called (cascade r ms) ss u k e h = tt
    statement_called (assign n t) ss u k e h = tt
    statement_called (block ps ds bs c) ss u k e h = tt
    statement_called (brace ts) ss u k e h = tt
    statement_called (return t) no_statements u k e h = tt
    statement_called (return t) (more_statements c v ss) u k e h = h

    -- each node is well formed
    mutual
      well_called : (t : TreeOf Text) (u : NewName Text) → IsCalling u → WellFormed t → WellFormed (called u t)
      well_called (var n) u e h = used_word u e [] n h
      well_called (literal l) u e h = h
      well_called (send r s xs) u e h = (well_called r (beyond 0 u) (calling_on u 0 e) h.0, no_return_called r (beyond 0 u) h.1, fits_called s xs u 1 h.2, all_well_called xs u 1 e h.3)
      well_called (cascade r ms) u e h =
          (well_called r (beyond 0 u) (calling_on u 0 e) h.0, value_called r (beyond 0 u) (calling_on u 0 e) h.1, two_called ms u 1 h.2, messages_well_called ms u 1 e h.3)
      well_called (assign n t) u e h = (used_word u e [] n h.0, well_called t (beyond 0 u) (calling_on u 0 e) h.1, value_called t (beyond 0 u) (calling_on u 0 e) h.2)
      well_called (block ps ds ss c) u e h = (words_to x y word ps h.0, words_to x y word ds h.1, statements_well_called ss u 0 e h.2, h.3)
      well_called (brace ts) u e h = all_well_called ts u 0 e h
      well_called (return t) u e h = (well_called t (beyond 0 u) (calling_on u 0 e) h.0, value_called t (beyond 0 u) (calling_on u 0 e) h.1)

      all_well_called : (ts : TreesOf Text) (u : NewName Text) (k : ℕ) → IsCalling u → WellFormedTrees ts → WellFormedTrees (called_trees u k ts)
      all_well_called no_trees u k e h = tt
      all_well_called (more_trees t ts) u k e h = (well_called t (beyond k u) (calling_on u k e) h.0, value_called t (beyond k u) (calling_on u k e) h.1, all_well_called ts u (suc k) e h.2)

      messages_well_called : (ms : MessagesOf Text) (u : NewName Text) (k : ℕ) → IsCalling u → WellFormedMessages ms → WellFormedMessages (called_messages u k ms)
      messages_well_called no_messages u k e h = tt
      messages_well_called (more_messages s xs ms) u k e h = (fits_called s xs u k h.0, all_well_called xs u k e h.1, messages_well_called ms u (k + count xs) e h.2)

      pub statements_well_called : (ss : StatementsOf Text) (u : NewName Text) (k : ℕ) → IsCalling u → WellFormedStatements ss → WellFormedStatements (called_statements u k ss)
      statements_well_called no_statements u k e h = tt
      statements_well_called (more_statements c t ss) u k e h = (h.0, well_called t (beyond k u) (calling_on u k e) h.1, statement_called t ss u k e h.2, statements_well_called ss u (suc k) e h.3)
