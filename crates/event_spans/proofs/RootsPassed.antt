-- Outermost nodes behind a node.
use Rattle.std.proofs.Common.{◌≡◌, ℕ, zero, suc, ◌+◌, Bool, true, false, List, [], ◌∷◌, drop, length, Option, Some, None, refl, ap, sym, ◌∙◌}
use Rattle.std.specs.Prelude.{◌==◌, if◌then◌else◌, option_map}
use Rattle.std.proofs.lemmas.List.{nil_from_length}
use Rattle.rb_base.specs.declared.text.Span.{Span}
use Rattle.event_spans.specs.declared.place.Place.{Place}
use Rattle.event_spans.specs.Descent.{from_root, first_of, inside, descend}
use Rattle.event_spans.specs.Runs.{roots, ending, run_of}

-- the outermost nodes behind so many nodes are those of the nodes that are left
pub roots-drop : (n : ℕ) (ps : List Place) → roots n ps ≡ roots 0 (drop n ps)
roots-drop zero ps = refl
roots-drop (suc n) [] = refl
roots-drop (suc n) (p ∷ ps) = roots-drop n ps

-- where there is no node none is found
pub descend-none : (ks : List ℕ) → descend None [] ks ≡ None
descend-none [] = refl
descend-none (zero ∷ ks) = descend-none ks
descend-none (suc k ∷ ks) = descend-none ks

-- the nodes of a list, its first one passed
pub record Passed (rest : List Place) (place : Place) (left : List Place) : Type 0 where
  pub more : List Place
  pub whole : rest ≡ place ∷ more
  pub behind : left ≡ drop place.below more

-- its outermost nodes
passed : (rest : List Place) (p : Place) (left : List Place) → Passed rest p left → roots 0 rest ≡ p ∷ roots 0 left
passed rest p left w = ap (roots 0) w.whole ∙ ap (λ ps. p ∷ ps) (roots-drop p.below w.more ∙ ap (roots 0) (sym w.behind))

-- a node that does not end there is passed
pub ending-passed : (n to : ℕ) (rest : List Place) (p : Place) (left : List Place) → Passed rest p left → (p.to == to) ≡ false → ending n to (roots 0 rest) ≡ ending (n + 1) to (roots 0 left)
ending-passed n to rest p left w f =
    ap (ending n to) (passed rest p left w) ∙ ap (λ (b : Bool). if b then Some n else ending (n + 1) to (roots 0 left)) f

-- a node that does not begin there is passed
pub run-passed : (n : ℕ) (span : Span) (rest : List Place) (p : Place) (left : List Place) → Passed rest p left → (p.from == span.from) ≡ false → run_of n span (roots 0 rest) ≡ run_of (n + 1) span (roots 0 left)
run-passed n span rest p left w f =
    ap (run_of n span) (passed rest p left w)
    ∙ ap (λ (b : Bool). if b then option_map (λ (count : ℕ). record { first = n; count = count }) (ending 2 span.to (roots 0 left)) else run_of (n + 1) span (roots 0 left)) f

-- a node that begins there is the first one
pub run-found : (n : ℕ) (span : Span) (rest : List Place) (p : Place) (left : List Place) → Passed rest p left → (p.from == span.from) ≡ true → run_of n span (roots 0 rest) ≡ option_map (λ (count : ℕ). record { first = n; count = count }) (ending 2 span.to (roots 0 left))
run-found n span rest p left w f =
    ap (run_of n span) (passed rest p left w)
    ∙ ap (λ (b : Bool). if b then option_map (λ (count : ℕ). record { first = n; count = count }) (ending 2 span.to (roots 0 left)) else run_of (n + 1) span (roots 0 left)) f

-- where there are not so many nodes a path leads nowhere
pub lost : (found : Option Place) (ps qs : List Place) (path : List ℕ) (i k : ℕ) → drop i path ≡ k ∷ drop (i + 1) path → qs ≡ from_root k ps → length qs ≡ 0 → descend found ps (drop i path) ≡ None
lost found ps qs path i k more e none =
    ap (descend found ps) more
    ∙ ap (λ rs. descend (first_of rs) (inside rs) (drop (i + 1) path)) (sym e ∙ nil_from_length qs none)
    ∙ descend-none (drop (i + 1) path)
