-- What the doubled metavariables of a match are bound to is lower than the node, unless the pattern is one of them.
use Rattle.std.proofs.Common.{◌≡◌, refl, sym, ap, subst, ◌∙◌, ℕ, zero, suc, ◌+◌, ◌-◌, ◌<◌, ◌≤◌, List, [], ◌∷◌, length, get_or, map, Option, Some, None, arith}
use Rattle.std.specs.Prelude.{Bool, true, false, not, ◌||◌, cond, option_map, option_and_then}
use Rattle.std.specs.List.{AllByRecursion}
use Rattle.tree_model.specs.Tree.{TreeOf, trees_of}
use Rattle.tree_model.specs.Measure.{height, trees_height, messages_height, statements_height}
use Rattle.st_tree.specs.View.{messages_of, statements_of}
use Rattle.st_tree.specs.declared.tree.Message.{Message}
use Rattle.st_tree.specs.declared.tree.Statement.{Statement}
use Rattle.pattern_model.specs.Patterns.{MetaOf, PatternOf, meta, var_like}
use Rattle.pattern_model.specs.Bindings.{BoundOf, a_part, a_run, a_selector, a_keyword, a_message, BindingOf, same_meta, doubled_by}
use Rattle.pattern_model.specs.Words.{PatternWordsOf}
use Rattle.pattern_model.specs.Matches.{may_stand}
use Rattle.pattern_model.specs.MatchTree.{PlaceOf, FoundOf, placed, where_holds, agree, bindings_of, match_places, match_tree}
use Rattle.pattern_laws.proofs.SameMetas.{all_kept}
use Rattle.pattern_laws.proofs.Heights.{bound_height, IsPlaceWithin, IsWithin, high}
use Rattle.pattern_laws.proofs.Searching.{match_within}
use Rattle.pattern_match.specs.Bound.{held_of}
use Rattle.pattern_match.specs.Words.{number_words}
use Rattle.pattern_match.specs.declared.bindings.Held.{Held}
use Rattle.rewritten_code.specs.Changed.{is_whole}
use Rattle.rewritten_code.specs.Lower.{height_bound, doubled_height, bindings_height}

module _ {N : Type 0} (w : PatternWordsOf N) where
  -- a pattern that is one metavariable is bound to the whole node, where that may stand for it
  abbrev pub alone : MetaOf N → TreeOf N → BindingOf N
  alone m t = record { meta = doubled_by w.tests.same [] m; bound = a_part t }

  abbrev if_stands : MetaOf N → TreeOf N → Bool → Option (List (BindingOf N))
  if_stands m t c = option_map (bindings_of w) (option_and_then (λ xs. where_holds (agree w xs) (Some xs)) (where_holds c (placed m (a_part t) (([], t) ∷ []))))

  pub match_meta : (m : MetaOf N) (t : TreeOf N) (b : Bool) → may_stand w.tests.is_pseudo m.kind t ≡ b → match_tree w (meta m) t ≡ cond b (Some (alone m t ∷ [])) None
  match_meta m t b e = ap (if_stands m t) e ∙ of b
    where
      of : (c : Bool) → if_stands m t c ≡ cond c (Some (alone m t ∷ [])) None
      of true = refl
      of false = refl

  height_same : (b : BoundOf N) → height_bound b ≡ bound_height b
  height_same (a_part t) = refl
  height_same (a_run ss) = refl
  height_same (a_selector s) = refl
  height_same (a_keyword k) = refl
  height_same (a_message s ts) = refl

  abbrev IsLow : ℕ → BindingOf N → Type 0
  IsLow n b = doubled_height b ≤ n

  low_one : (n : ℕ) (d : Bool) (b : BoundOf N) → bound_height b ≤ n → cond d (height_bound b) 0 ≤ n
  low_one n true b h = omega (arith, h, height_same b)
  low_one n false b h = omega arith

  low_bindings : (n : ℕ) (xs : List (PlaceOf N)) → AllByRecursion (IsPlaceWithin n) xs → AllByRecursion (IsLow n) (bindings_of w xs)
  low_bindings n [] h = tt
  low_bindings n (x ∷ xs) h =
      let m : MetaOf N = doubled_by w.tests.same (map (λ y. y.meta) xs) x.meta in
      (low_one n m.doubled x.bound h.0.0, all_kept (IsLow n) (λ b. not (same_meta w.tests.same x.meta b.meta)) (bindings_of w xs) (low_bindings n xs h.1))

  abbrev MaybeLow : ℕ → Option (List (BindingOf N)) → Type 0
  MaybeLow n None = Unit {0}
  MaybeLow n (Some bs) = AllByRecursion (IsLow n) bs

  low_places : (n : ℕ) (o : FoundOf N) → IsWithin n o → MaybeLow n (option_map (bindings_of w) o)
  low_places n None h = tt
  low_places n (Some xs) h = low_bindings n xs h

  undoubled : (d : Bool) (h n : ℕ) → d ≡ false → cond (d || false) h 0 ≤ n
  undoubled true h n e = let bad : ⊥ = cc in absurd bad
  undoubled false h n e = omega arith

  match_low : (n : ℕ) (p : PatternOf N) (t : TreeOf N) (bs : List (BindingOf N)) → match_tree w p t ≡ Some bs → is_whole p ≡ false → height t ≤ n + 1 → AllByRecursion (IsLow n) bs
  match_low n (meta m) t bs e s h = subst (MaybeLow n) (sym (match_meta m t (may_stand w.tests.is_pseudo m.kind t) refl) ∙ e) (by (may_stand w.tests.is_pseudo m.kind t))
    where
      by : (b : Bool) → MaybeLow n (cond b (Some (alone m t ∷ [])) None)
      by true = (undoubled m.doubled (height t) n s, tt)
      by false = tt
  match_low n (var_like x) t bs e s h = subst (MaybeLow n) e (low_places n (match_places w (var_like x) t) (match_within w n (var_like x) t h))
  match_low n p t bs e s h = subst (MaybeLow n) e (low_places n (match_places w p t) (match_within w n p t h))

low_all : (n : ℕ) (bs : List Held) → AllByRecursion (λ (b : BindingOf ℕ). doubled_height b ≤ n) (map held_of bs) → bindings_height bs ≤ n
low_all n [] h = omega arith
low_all n (b ∷ bs) h = let one = h.0 in let others = low_all n bs h.1 in omega (arith, one, others)

pub match_lower : (names : List (List ℕ)) (p : PatternOf ℕ) (t : TreeOf ℕ) (bs : List Held) → match_tree (number_words names) p t ≡ Some (map held_of bs) → is_whole p ≡ false → bindings_height bs < height t
match_lower names p t bs e s =
    let one = high t in
    let n : ℕ = height t - 1 in
    let small : height t ≤ n + 1 = omega (arith, one) in
    let low = low_all n bs (match_low (number_words names) n p t (map held_of bs) e s small) in
    omega (arith, low, one)

-- each item of a list is no higher than the list
pub height_tree : (ts : List (TreeOf ℕ)) (i : ℕ) (t : TreeOf ℕ) → i < length ts → t ≡ get_or ts i t → height t ≤ trees_height (trees_of ts)
height_tree [] i t h e = absurd (omega arith)
height_tree (u ∷ ts) zero t h e = omega (arith, ap (height {N = ℕ}) e)
height_tree (u ∷ ts) (suc i) t h e = omega (arith, height_tree ts i t (omega arith) e)

pub height_message : (ms : List Message) (i : ℕ) (m : Message) → i < length ms → m ≡ get_or ms i m → trees_height (trees_of m.arguments) ≤ messages_height (messages_of ms)
height_message [] i m h e = absurd (omega arith)
height_message (k ∷ ms) zero m h e = omega (arith, ap (λ (n : Message). trees_height (trees_of n.arguments)) e)
height_message (k ∷ ms) (suc i) m h e = omega (arith, height_message ms i m (omega arith) e)

pub height_statement : (ss : List Statement) (i : ℕ) (s : Statement) → i < length ss → s ≡ get_or ss i s → height s.node ≤ statements_height (statements_of ss)
height_statement [] i s h e = absurd (omega arith)
height_statement (k ∷ ss) zero s h e = omega (arith, ap (λ (n : Statement). height n.node) e)
height_statement (k ∷ ss) (suc i) s h e = omega (arith, height_statement ss i s (omega arith) e)

pub height_binding : (bs : List Held) (i : ℕ) (b : Held) → i < length bs → b ≡ get_or bs i b → doubled_height (held_of b) ≤ bindings_height bs
height_binding [] i b h e = absurd (omega arith)
height_binding (d ∷ bs) zero b h e = omega (arith, ap (λ (n : Held). doubled_height (held_of n)) e)
height_binding (d ∷ bs) (suc i) b h e = omega (arith, height_binding bs i b (omega arith) e)
