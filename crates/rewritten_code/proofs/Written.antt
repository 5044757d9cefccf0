-- A loop that makes what becomes of each item of a list, and what the items make together.
use Rattle.std.proofs.Common.{◌≡◌, ℕ, zero, suc, ◌+◌, ◌<◌, ◌≤◌, List, [], ◌∷◌, ◌++◌, length, get_or, take, map, refl, sym, ap, subst, ◌∙◌, arith}
use Rattle.std.specs.List.{AllByRecursion}
use Rattle.std.proofs.lemmas.List.{take_more, take_all}
use Rattle.rb_base.specs.Names.{name_at}
use Rattle.tree_model.specs.Tree.{Notes, TreeOf, trees_of, more_trees, more_messages, more_statements, map_trees, map_messages, map_statements}
use Rattle.tree_model.specs.AllNames.{AllNames, TreesNames, MessagesNames, StatementsNames}
use Rattle.st_tree.specs.View.{messages_of, statements_of}
use Rattle.st_tree.specs.declared.tree.Message.{Message}
use Rattle.st_tree.specs.declared.tree.Statement.{Statement}
use Rattle.pattern_model.specs.Bindings.{BindingOf}
use Rattle.pattern_model.specs.Named.{map_binding}
use Rattle.pattern_laws.proofs.Found.{all_append}
use Rattle.pattern_model.specs.Rewritten.{each_tree, each_argument, each_statement, each_doubled}
use Rattle.pattern_match.specs.Bound.{held_of}
use Rattle.pattern_match.specs.declared.bindings.Held.{Held}
use Rattle.filled_patterns.specs.declared.bindings.Binding.{Binding}
use Rattle.filled_patterns.specs.Left.{HoldsOne, Holds}
use Rattle.filled_patterns.specs.Bound.{BindingNames}
use Rattle.rewritten_code.specs.Changed.{Paired, Known, IsChanged, IsMessageChanged, IsStatementChanged, IsBindingChanged, AreChanged}

module _ {X : Type 0} (R : X → X → Type 0) where
  -- one more item of each list
  paired_last : (xs ys : List X) (x y : X) → Paired R xs ys → R x y → Paired R (xs ++ x ∷ []) (ys ++ y ∷ [])
  paired_last [] [] x y h r = (r, tt)
  paired_last [] (z ∷ ys) x y h r = absurd h
  paired_last (z ∷ xs) [] x y h r = absurd h
  paired_last (u ∷ xs) (z ∷ ys) x y h r = (h.0, paired_last xs ys x y h.1 r)

  -- none is made
  pub paired_none : (xs ys : List X) → ys ≡ [] → Paired R (take 0 xs) ys
  paired_none xs ys e = subst (λ (us : List X). Paired R (take 0 xs) us) (sym e) (none xs)
    where
      none : (us : List X) → Paired R (take 0 us) []
      none [] = tt
      none (u ∷ us) = tt

  -- one more item is made
  pub paired_put : (xs ys zs : List X) (x y : X) (i : ℕ) → i < length xs → x ≡ get_or xs i x → zs ≡ ys ++ y ∷ [] → Paired R (take i xs) ys → R x y → Paired R (take (i + 1) xs) zs
  paired_put xs ys zs x y i within is more before r =
      let front : take (i + 1) xs ≡ take i xs ++ x ∷ [] = take_more xs i x within ∙ ap (λ u. take i xs ++ u ∷ []) (sym is) in
      subst (λ (us : List X). Paired R us zs) (sym front)
      (subst (λ (us : List X). Paired R (take i xs ++ x ∷ []) us) (sym more) (paired_last (take i xs) ys x y before r))

  -- all are made
  pub paired_all : (xs ys zs : List X) (i : ℕ) → length xs ≤ i → zs ≡ ys → Paired R (take i xs) ys → Paired R xs zs
  paired_all xs ys zs i end is h =
      subst (λ (us : List X). Paired R us zs) (take_all i xs end) (subst (Paired R (take i xs)) (sym is) h)

-- lists whose items are changed make changed trees
module _ (names : List (List ℕ)) (f : TreeOf (List ℕ) → TreeOf (List ℕ)) where
  pub trees_changed : (ts us : List (TreeOf ℕ)) → Paired (IsChanged names f) ts us
      → (map_trees (name_at names) (trees_of us) ≡ each_tree f (map_trees (name_at names) (trees_of ts))) × TreesNames (Known names) (trees_of us)
  trees_changed [] [] h = (refl, tt)
  trees_changed [] (u ∷ us) h = absurd h
  trees_changed (t ∷ ts) [] h = absurd h
  trees_changed (t ∷ ts) (u ∷ us) h =
      let first = h.0 in
      let others = trees_changed ts us h.1 in
      (λ i. more_trees (first.same i) (others.0 i), (first.known, others.1))

  pub messages_changed : (ms ns : List Message) → Paired (IsMessageChanged names f) ms ns
      → (map_messages (name_at names) (messages_of ns) ≡ each_argument f (map_messages (name_at names) (messages_of ms))) × MessagesNames (Known names) (messages_of ns)
  messages_changed [] [] h = (refl, tt)
  messages_changed [] (n ∷ ns) h = absurd h
  messages_changed (m ∷ ms) [] h = absurd h
  messages_changed (m ∷ ms) (n ∷ ns) h =
      let first = h.0 in
      let arguments = trees_changed m.arguments n.arguments first.arguments in
      let others = messages_changed ms ns h.1 in
      (λ i. more_messages (name_at names (first.selector i)) (arguments.0 i) (others.0 i), (first.known, arguments.1, others.1))

  pub statements_changed : (ss us : List Statement) → Paired (IsStatementChanged names f) ss us
      → (map_statements (name_at names) (statements_of us) ≡ each_statement f (map_statements (name_at names) (statements_of ss))) × StatementsNames (Known names) (statements_of us)
  statements_changed [] [] h = (refl, tt)
  statements_changed [] (u ∷ us) h = absurd h
  statements_changed (s ∷ ss) [] h = absurd h
  statements_changed (s ∷ ss) (u ∷ us) h =
      let first = h.0 in
      let node = first.node in
      let others = statements_changed ss us h.1 in
      (λ i. more_statements (first.comments i) (node.same i) (others.0 i), (node.known, others.1))

-- bindings that are made one after the other
last_mapped : {X Y : Type 0} (g : X → Y) (xs : List X) (x : X) → map g (xs ++ x ∷ []) ≡ map g xs ++ g x ∷ []
last_mapped g [] x = refl
last_mapped g (y ∷ xs) x = ap (λ ys. g y ∷ ys) (last_mapped g xs x)

holds_last : (bs : List (BindingOf ℕ)) (ss : List Binding) (b : BindingOf ℕ) (s : Binding) → Holds bs ss → HoldsOne b s → Holds (bs ++ b ∷ []) (ss ++ s ∷ [])
holds_last [] [] b s h one = (one, tt)
holds_last [] (u ∷ ss) b s h one = absurd h
holds_last (c ∷ bs) [] b s h one = absurd h
holds_last (c ∷ bs) (u ∷ ss) b s h one = (h.0, holds_last bs ss b s h.1 one)

module _ (names : List (List ℕ)) (f : TreeOf (List ℕ) → TreeOf (List ℕ)) where
  changed_last : (bs : List (BindingOf ℕ)) (ss : List Binding) (b : BindingOf ℕ) (s : Binding) → AreChanged names f bs ss → IsBindingChanged names f b s → AreChanged names f (bs ++ b ∷ []) (ss ++ s ∷ [])
  changed_last bs ss b s a c = record {
    bindings = a.bindings ++ c.binding ∷ [];
    held = holds_last a.bindings ss c.binding s a.held c.held;
    same =
        last_mapped (map_binding (name_at names)) a.bindings c.binding
        ∙ (λ i. a.same i ++ c.same i ∷ [])
        ∙ sym (last_mapped (each_doubled f) (map (map_binding (name_at names)) bs) (map_binding (name_at names) b))
        ∙ ap (map (each_doubled f)) (sym (last_mapped (map_binding (name_at names)) bs b));
    known = all_append (BindingNames (Known names)) a.bindings (c.binding ∷ []) a.known (c.known, tt);
  }

  pub changed_none : (hs : List Held) (ss : List Binding) → ss ≡ [] → AreChanged names f (map held_of (take 0 hs)) ss
  changed_none hs ss e = subst (λ (us : List Binding). AreChanged names f (map held_of (take 0 hs)) us) (sym e) (none hs)
    where
      none : (xs : List Held) → AreChanged names f (map held_of (take 0 xs)) []
      none [] = record { bindings = []; held = tt; same = refl; known = tt }
      none (x ∷ xs) = record { bindings = []; held = tt; same = refl; known = tt }

  pub changed_put : (hs : List Held) (ss us : List Binding) (h : Held) (s : Binding) (i : ℕ) → i < length hs → h ≡ get_or hs i h → us ≡ ss ++ s ∷ [] → AreChanged names f (map held_of (take i hs)) ss
      → IsBindingChanged names f (held_of h) s → AreChanged names f (map held_of (take (i + 1) hs)) us
  changed_put hs ss us h s i within is more before c =
      let front : map held_of (take (i + 1) hs) ≡ map held_of (take i hs) ++ held_of h ∷ [] =
      ap (map held_of) (take_more hs i h within ∙ ap (λ u. take i hs ++ u ∷ []) (sym is)) ∙ last_mapped held_of (take i hs) h in
      subst (λ (bs : List (BindingOf ℕ)). AreChanged names f bs us) (sym front)
      (subst (λ (xs : List Binding). AreChanged names f (map held_of (take i hs) ++ held_of h ∷ []) xs) (sym more) (changed_last (map held_of (take i hs)) ss (held_of h) s before c))

  pub changed_all : (hs : List Held) (ss : List Binding) (i : ℕ) → length hs ≤ i → AreChanged names f (map held_of (take i hs)) ss → AreChanged names f (map held_of hs) ss
  changed_all hs ss i end a = subst (λ (xs : List Held). AreChanged names f (map held_of xs) ss) (take_all i hs end) a

-- what is known of a list is known of each item
module _ (P : ℕ → Type 0) where
  pub tree_in : (ts : List (TreeOf ℕ)) (i : ℕ) (t : TreeOf ℕ) → i < length ts → t ≡ get_or ts i t → TreesNames P (trees_of ts) → AllNames P t
  tree_in [] i t h e k = absurd (omega arith)
  tree_in (u ∷ ts) zero t h e k = subst (AllNames P) (sym e) k.0
  tree_in (u ∷ ts) (suc i) t h e k = tree_in ts i t (omega arith) e k.1

  pub message_in : (ms : List Message) (i : ℕ) (m : Message) → i < length ms → m ≡ get_or ms i m → MessagesNames P (messages_of ms) → P m.selector × TreesNames P (trees_of m.arguments)
  message_in [] i m h e k = absurd (omega arith)
  message_in (u ∷ ms) zero m h e k = subst (λ (x : Message). P x.selector × TreesNames P (trees_of x.arguments)) (sym e) (k.0, k.1)
  message_in (u ∷ ms) (suc i) m h e k = message_in ms i m (omega arith) e k.2

  pub statement_in : (ss : List Statement) (i : ℕ) (s : Statement) → i < length ss → s ≡ get_or ss i s → StatementsNames P (statements_of ss) → AllNames P s.node
  statement_in [] i s h e k = absurd (omega arith)
  statement_in (u ∷ ss) zero s h e k = subst (λ (x : Statement). AllNames P x.node) (sym e) k.0
  statement_in (u ∷ ss) (suc i) s h e k = statement_in ss i s (omega arith) e k.1

  pub binding_in : (bs : List Held) (i : ℕ) (b : Held) → i < length bs → b ≡ get_or bs i b → AllByRecursion (BindingNames P) (map held_of bs) → BindingNames P (held_of b)
  binding_in [] i b h e k = absurd (omega arith)
  binding_in (u ∷ bs) zero b h e k = subst (λ (x : Held). BindingNames P (held_of x)) (sym e) k.0
  binding_in (u ∷ bs) (suc i) b h e k = binding_in bs i b (omega arith) e k.1

-- an item that is made
module _ (names : List (List ℕ)) (f : TreeOf (List ℕ) → TreeOf (List ℕ)) where
  pub message_made : (x : Message) (us : List (TreeOf ℕ)) → Known names x.selector → Paired (IsChanged names f) x.arguments us → IsMessageChanged names f x (record { selector = x.selector; arguments = us })
  message_made x us k h = record { selector = refl; known = k; arguments = h }

  pub statement_made : (x : Statement) (c : Notes) (u : TreeOf ℕ) → c ≡ x.comments → IsChanged names f x.node u → IsStatementChanged names f x (record { comments = c; node = u })
  statement_made x c u e h = record { comments = e; node = h }
