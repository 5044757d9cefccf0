-- What a metavariable is bound to, in bindings of which parts are taken.
use Rattle.std.proofs.Common.{◌≡◌, ℕ, zero, suc, ◌+◌, ◌<◌, ◌≤◌, Bool, true, false, List, [], ◌∷◌, length, get_or, Option, Some, None, refl, sym, ap, subst, ◌∙◌, arith}
use Rattle.std.specs.Prelude.{cond, not, nat_eq, ltb, position, MatchOption}
use Rattle.std.specs.List.{position_or_len}
use Rattle.std.proofs.Math.ListN.{set}
use Rattle.std.proofs.lemmas.Bool.{ltb-true, ltb-false}
use Rattle.tree_model.specs.Tree.{var}
use Rattle.pattern_model.specs.Patterns.{MetaOf}
use Rattle.pattern_model.specs.Bindings.{BoundOf, a_part, BindingOf, same_meta, bound_of}
use Rattle.patterns.specs.View.{meta_of}
use Rattle.pattern_match.specs.declared.bindings.Bound.{Bound}
use Rattle.pattern_match.specs.Bound as bound
use Rattle.filled_patterns.specs.declared.bindings.Binding.{Binding}
use Rattle.filled_patterns.specs.Left.{HoldsOne, Holds}

-- whether a binding is that of a metavariable
abbrev pub is_of : MetaOf ℕ → Binding → Bool
is_of m s = same_meta nat_eq (meta_of s.meta) m

module _ {X : Type 0} (p : X → Bool) (xs : List X) where
  number : (b : Bool) → ltb (position_or_len p xs) (length xs) ≡ b
      → MatchOption (cond b (Some (position_or_len p xs)) None) (length xs ≤ position_or_len p xs) (λ i. (i ≡ position_or_len p xs) × (i < length xs))
  number true e = (refl, ltb-true (position_or_len p xs) (length xs) e)
  number false e = ltb-false (position_or_len p xs) (length xs) e

  -- a position, as a number
  pub numbered_place : (o : Option ℕ) → o ≡ position p xs → MatchOption o (length xs ≤ position_or_len p xs) (λ i. (i ≡ position_or_len p xs) × (i < length xs))
  numbered_place o e =
      subst (λ (x : Option ℕ). MatchOption x (length xs ≤ position_or_len p xs) (λ i. (i ≡ position_or_len p xs) × (i < length xs))) (sym e) (number (ltb (position_or_len p xs) (length xs)) refl)

module _ (m : MetaOf ℕ) where
  same_of : (b : BindingOf ℕ) (s : Binding) → HoldsOne b s → same_meta nat_eq b.meta m ≡ is_of m s
  same_of b s h = ap (λ (n : MetaOf ℕ). same_meta nat_eq n m) (sym h.meta)

  -- where no binding is that of the metavariable
  nowhere : (b : BindingOf ℕ) (rest whole : BoundOf ℕ) (n k : ℕ) (c : Bool) → same_meta nat_eq b.meta m ≡ c → n + 1 ≤ cond (not c) (1 + k) 0 → (n ≤ k → whole ≡ rest) → whole ≡ cond (same_meta nat_eq b.meta m) b.bound rest
  nowhere b rest whole n k true f g later = absurd (omega (arith, g))
  nowhere b rest whole n k false f g later = later (omega (arith, g)) ∙ ap (λ c. cond c b.bound rest) (sym f)

  pub bound_nowhere : (bs : List (BindingOf ℕ)) (ss : List Binding) → Holds bs ss → length ss ≤ position_or_len (is_of m) ss → a_part (var m.name) ≡ bound_of nat_eq bs m
  bound_nowhere [] [] h e = refl
  bound_nowhere [] (s ∷ ss) h e = absurd h
  bound_nowhere (b ∷ bs) [] h e = absurd h
  bound_nowhere (b ∷ bs) (s ∷ ss) h e =
      nowhere b (bound_of nat_eq bs m) (a_part (var m.name)) (length ss) (position_or_len (is_of m) ss) (is_of m s) (same_of b s h.0) (omega (arith, e)) (bound_nowhere bs ss h.1)

  -- where the first one is
  abbrev IsThere : BindingOf ℕ → List (BindingOf ℕ) → ℕ → Binding → Type 0
  IsThere d bs i s = HoldsOne (get_or bs i d) s × ((get_or bs i d).bound ≡ bound_of nat_eq bs m)

  there : (d b : BindingOf ℕ) (bs : List (BindingOf ℕ)) (u : Binding) (ss : List Binding) (s : Binding) (c : Bool) → same_meta nat_eq b.meta m ≡ c → HoldsOne b u → (i k : ℕ) → i ≡ cond (not c) (1 + k) 0 → i < length (u ∷ ss) → s ≡ get_or (u ∷ ss) i s
      → ((j : ℕ) → j ≡ k → j < length ss → s ≡ get_or ss j s → IsThere d bs j s) → IsThere d (b ∷ bs) i s
  there d b bs u ss s true f h zero k g l at later = (subst (HoldsOne b) (sym at) h, ap (λ c. cond c b.bound (bound_of nat_eq bs m)) (sym f))
  there d b bs u ss s true f h (suc j) k g l at later = absurd (omega (arith, g))
  there d b bs u ss s false f h zero k g l at later = absurd (omega (arith, g))
  there d b bs u ss s false f h (suc j) k g l at later =
      let rest = later j (omega (arith, g)) (omega (arith, l)) at in
      (rest.0, rest.1 ∙ ap (λ c. cond c b.bound (bound_of nat_eq bs m)) (sym f))

  pub bound_there : (d : BindingOf ℕ) (bs : List (BindingOf ℕ)) (ss : List Binding) (i : ℕ) (s : Binding) → Holds bs ss → i ≡ position_or_len (is_of m) ss → i < length ss → s ≡ get_or ss i s → IsThere d bs i s
  bound_there d [] [] i s h e l is = absurd (omega (arith, l))
  bound_there d [] (u ∷ ss) i s h e l is = absurd h
  bound_there d (b ∷ bs) [] i s h e l is = absurd h
  bound_there d (b ∷ bs) (u ∷ ss) i s h e l is =
      there d b bs u ss s (is_of m u) (same_of b u h.0) h.0 i (position_or_len (is_of m) ss) e l is (λ j f g at. bound_there d bs ss j s h.1 f g at)

-- what one binding holds is left, and the others stay
pub holds_set : (bs : List (BindingOf ℕ)) (ss : List Binding) (i : ℕ) (s u : Binding) → s ≡ get_or ss i s → ((b : BindingOf ℕ) → HoldsOne b s → HoldsOne b u) → Holds bs ss → Holds bs (set ss i u)
holds_set [] [] i s u is keeps h = tt
holds_set [] (v ∷ ss) i s u is keeps h = absurd h
holds_set (b ∷ bs) [] i s u is keeps h = absurd h
holds_set (b ∷ bs) (v ∷ ss) zero s u is keeps h = (keeps b (subst (HoldsOne b) (sym is) h.0), h.1)
holds_set (b ∷ bs) (v ∷ ss) (suc i) s u is keeps h = (h.0, holds_set bs ss i s u is keeps h.1)

-- what a binding holds that is not taken
pub held_part : (b : BindingOf ℕ) (s : Binding) (x : Bound) → s.bound ≡ Some x → HoldsOne b s → bound.bound_of x ≡ b.bound
held_part b s x e h = subst (λ (o : Option Bound). MatchOption o (Unit {0}) (λ y. bound.bound_of y ≡ b.bound)) e h.bound
