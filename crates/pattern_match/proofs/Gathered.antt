-- Places that are gathered one after another.
use Rattle.std.proofs.Common.{◌≡◌, ℕ, zero, suc, ◌+◌, ◌-◌, ◌<◌, Bool, true, false, List, [], ◌∷◌, ◌++◌, length, take, map, refl, sym, ap, ◌∙◌, arith, Some, None, append-nil, append_assoc, length-append, true≢false}
use Rattle.std.specs.Prelude.{Option, cond, nat_eq}
use Rattle.std.proofs.Math.Seq.{take-append_seam}
use Rattle.std.proofs.lemmas.Bool.{eqb-true}
use Rattle.tree_model.specs.Nodes.{Placed, below_step}
use Rattle.pattern_model.specs.MatchTree.{PlaceOf, FoundOf, both, stepped, deeper}
use Rattle.pattern_match.specs.Gathering.{State, under, kept, gathered, reached}

map_both : {X Y : Type 0} (f : X → Y) (xs ys : List X) → map f (xs ++ ys) ≡ map f xs ++ map f ys
map_both f [] ys = refl
map_both f (x ∷ xs) ys = ap (λ (zs : List _). f x ∷ zs) (map_both f xs ys)

-- a match goes on where the first part fits
pub go_on : (s mid : State) (a b : FoundOf ℕ) → reached true mid ≡ gathered s a → gathered mid b ≡ gathered s (both a b)
go_on s mid None b e = let bad : ⊥ = cc in absurd bad
go_on s mid (Some xs) None e = refl
go_on s mid (Some xs) (Some ys) e =
    let is : mid ≡ (s.0, s.1 ++ map (kept s.0) xs) = cc in
    (λ i. Some ((is i).0, (is i).1 ++ map (kept (is i).0) ys))
    ∙ (λ i. Some (s.0, (append_assoc s.1 (map (kept s.0) xs) (map (kept s.0) ys) ∙ ap (λ (zs : List (PlaceOf ℕ)). s.1 ++ zs) (sym (map_both (kept s.0) xs ys))) i))

-- and fails where it does not
pub stop : (s mid : State) (a b : FoundOf ℕ) → reached false mid ≡ gathered s a → None ≡ gathered s (both a b)
stop s mid None b e = refl
stop s mid (Some xs) b e = let bad : ⊥ = cc in absurd bad

-- one step further down
under-step : (p : List ℕ) (k : ℕ) (es : List (Placed ℕ)) → under (p ++ k ∷ []) es ≡ under p (below_step k es)
under-step p k [] = refl
under-step p k (e ∷ es) = λ i. (append_assoc p (k ∷ []) e.0 i, e.1) ∷ under-step p k es i

kept-step : (p : List ℕ) (k : ℕ) (x : PlaceOf ℕ) → kept (p ++ k ∷ []) x ≡ kept p (stepped k x)
kept-step p k x = by x.meta.doubled
  where
    by : (b : Bool) → record x { parts = cond b (under (p ++ k ∷ []) x.parts) [] } ≡ record x { parts = cond b (under p (below_step k x.parts)) [] }
    by true = λ i. record x { parts = under-step p k x.parts i }
    by false = refl

map-step : (p : List ℕ) (k : ℕ) (xs : List (PlaceOf ℕ)) → map (kept (p ++ k ∷ [])) xs ≡ map (kept p) (map (stepped k) xs)
map-step p k [] = refl
map-step p k (x ∷ xs) = λ i. kept-step p k x i ∷ map-step p k xs i

pub child : (p q steps last : List ℕ) (found new : List (PlaceOf ℕ)) (k : ℕ) (b : Bool) (o : FoundOf ℕ) → q ≡ p ++ k ∷ [] → (steps ≡ p ++ k ∷ [] → last ≡ p)
    → reached b (steps, new) ≡ gathered (q, found) o → reached b (last, new) ≡ gathered (p, found) (deeper k o)
child p q steps last found new k true None e back h = let bad : ⊥ = cc in absurd bad
child p q steps last found new k false None e back h = refl
child p q steps last found new k false (Some xs) e back h = let bad : ⊥ = cc in absurd bad
child p q steps last found new k true (Some xs) e back h =
    let is : (steps, new) ≡ (q, found ++ map (kept q) xs) = cc in
    let down : steps ≡ p ++ k ∷ [] = ap (λ (s : State). s.0) is ∙ e in
    let more : new ≡ found ++ map (kept p) (map (stepped k) xs) = ap (λ (s : State). s.1) is ∙ ap (λ (path : List ℕ). found ++ map (kept path) xs) e ∙ ap (λ (zs : List (PlaceOf ℕ)). found ++ zs) (map-step p k xs) in
    λ i. Some (back down i, more i)

not_none : (n : ℕ) → nat_eq n 0 ≡ false → 0 < n
not_none zero e = let bad : ⊥ = true≢false e in absurd bad
not_none (suc n) e = omega arith

-- a list of which some is left: all that it has is what is found and what is left
module _ (s : State) (left : FoundOf ℕ) (all : Option State) (so_far : gathered s left ≡ all) where
  pub goes_on : (fits : Bool) (mid : State) (a b : FoundOf ℕ) → left ≡ both a b → fits ≡ true → reached fits mid ≡ gathered s a → gathered mid b ≡ all
  goes_on fits mid a b e t h = go_on s mid a b (ap (λ c. reached c mid) (sym t) ∙ h) ∙ ap (gathered s) (sym e) ∙ so_far

  pub stops : (fits : Bool) (mid : State) (a b : FoundOf ℕ) → left ≡ both a b → fits ≡ false → reached fits mid ≡ gathered s a → None ≡ all
  stops fits mid a b e f h = stop s mid a b (ap (λ c. reached c mid) (sym f) ∙ h) ∙ ap (gathered s) (sym e) ∙ so_far

  -- at the end of the patterns, all fits where nothing else is left
  pub finishes : (b : Bool) (n : ℕ) → b ≡ nat_eq n 0 → (n ≡ 0 → left ≡ Some []) → (0 < n → left ≡ None) → reached b s ≡ all
  finishes true n e none some =
      let z : n ≡ 0 = eqb-true n 0 (sym e) in
      (λ i. Some (s.0, sym (append-nil s.1) i)) ∙ ap (gathered s) (sym (none z)) ∙ so_far
  finishes false n e none some = ap (gathered s) (sym (some (not_none n (sym e)))) ∙ so_far

-- the last step is left
pub popped : (last steps p : List ℕ) (k : ℕ) → last ≡ take (length steps - 1) steps → steps ≡ p ++ k ∷ [] → last ≡ p
popped last steps p k e h =
    e ∙ ap (λ (s : List ℕ). take (length s - 1) s) h ∙ ap (λ n. take n (p ++ k ∷ [])) one ∙ take-append_seam p (k ∷ [])
  where
    one : length (p ++ k ∷ []) - 1 ≡ length p
    one = let f : length (p ++ k ∷ []) ≡ length p + 1 = length-append p (k ∷ []) in omega (arith, f)
