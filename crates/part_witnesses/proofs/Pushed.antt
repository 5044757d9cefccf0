-- Witnesses that are appended one by one.
use Rattle.std.proofs.Common.{◌≡◌, ℕ, suc, ◌+◌, ◌<◌, ◌≤◌, Bool, true, false, not, List, [], ◌∷◌, ◌++◌, map, take, length, get_or, refl, sym, ap, append_assoc, ◌∙◌, arith}
use Rattle.std.specs.Prelude.{if◌then◌else◌}
use Rattle.std.specs.List.{flat_map}
use Rattle.std.proofs.Math.Seq.{take-suc}
use Rattle.std.proofs.lemmas.Grind.{flat_map-append}
use Rattle.std.proofs.lemmas.List.{append-nil, take_all}
use Rattle.refusal_witnesses.specs.Witnesses.{OwnerOf, WitnessOf, a_node, where_true}

-- what is appended to a list is appended to what the list begins with
pub further : (all old front ws : List (WitnessOf ℕ)) → all ≡ old ++ front → all ++ ws ≡ old ++ (front ++ ws)
further all old front ws e = ap (λ (xs : List (WitnessOf ℕ)). xs ++ ws) e ∙ append_assoc old front ws

pub third : (all more old a b c : List (WitnessOf ℕ)) → all ≡ old ++ a → more ≡ all ++ b → more ++ c ≡ old ++ (a ++ (b ++ c))
third all more old a b c e f =
    further more old (a ++ b) c (f ∙ further all old a b e) ∙ ap (λ (ws : List (WitnessOf ℕ)). old ++ ws) (append_assoc a b c)

pub fourth : (all more most old a b c d : List (WitnessOf ℕ)) → all ≡ old ++ a → more ≡ all ++ b → most ≡ more ++ c → most ++ d ≡ old ++ (a ++ (b ++ (c ++ d)))
fourth all more most old a b c d e f g =
    further most old (a ++ (b ++ c)) d (g ∙ third all more old a b c e f)
    ∙ ap (λ (ws : List (WitnessOf ℕ)). old ++ ws) (append_assoc a (b ++ c) d ∙ ap (λ (ws : List (WitnessOf ℕ)). a ++ ws) (append_assoc b c d))

-- nothing is appended
pub nothing : (old ws : List (WitnessOf ℕ)) → [] ≡ ws → old ≡ old ++ ws
nothing old ws e = sym (append-nil old) ∙ ap (λ (xs : List (WitnessOf ℕ)). old ++ xs) e

-- a node, if a test is false
pub where-if : (o : OwnerOf ℕ) (path : List ℕ) (b : Bool) → where_true (not b) (a_node o path) ≡ map (a_node o) (if b then [] else path ∷ [])
where-if o path true = refl
where-if o path false = refl

module _ {X : Type 0} (f : X → List (WitnessOf ℕ)) (xs : List X) (k : ℕ) where
  -- what is gathered of one more item
  pub taken-more : (x : X) (old all next : List (WitnessOf ℕ)) → k < length xs → x ≡ get_or xs k x → all ≡ old ++ flat_map f (take k xs) → next ≡ all ++ f x → next ≡ old ++ flat_map f (take (k + 1) xs)
  taken-more x old all next within is before e =
      let one : suc k ≡ k + 1 = omega arith in
      e
      ∙ ap (λ (ws : List (WitnessOf ℕ)). ws ++ f x) before
      ∙ append_assoc old (flat_map f (take k xs)) (f x)
      ∙ ap (λ (ws : List (WitnessOf ℕ)). old ++ ws)
      (ap (λ (ws : List (WitnessOf ℕ)). flat_map f (take k xs) ++ ws) (sym (append-nil (f x)))
      ∙ sym (flat_map-append f (take k xs) (x ∷ []))
      ∙ ap (flat_map f) (ap (λ (y : X). take k xs ++ y ∷ []) is ∙ sym (take-suc xs k x within) ∙ ap (λ (n : ℕ). take n xs) one))

  -- and once all are looked at
  pub taken-all : length xs ≤ k → (old all : List (WitnessOf ℕ)) → all ≡ old ++ flat_map f (take k xs) → all ≡ old ++ flat_map f xs
  taken-all over old all e = e ∙ ap (λ (ys : List X). old ++ flat_map f ys) (take_all k xs over)
