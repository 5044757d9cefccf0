-- What a walk has found is a match where equal parts stand at all places of one metavariable.
use Rattle.std.proofs.Common.{◌≡◌, ℕ, Bool, true, false, List, [], ◌∷◌, map, refl, sym, ap, ◌∙◌, Some, None}
use Rattle.std.specs.Prelude.{option_map, option_and_then, not, ◌&&◌, ◌||◌, nat_eq}
use Rattle.std.specs.List.{list_all}
use Rattle.tree_model.specs.Tree.{TreeOf}
use Rattle.pattern_model.specs.Patterns.{PatternOf}
use Rattle.pattern_model.specs.Bindings.{same_meta}
use Rattle.pattern_model.specs.MatchTree.{PlaceOf, FoundOf, where_holds, places, same_bound, match_places}
use Rattle.pattern_match.specs.Words.{number_words}
use Rattle.pattern_match.specs.Gathering.{State, kept, gathered, reached}
use Rattle.pattern_match.specs.FirstPlaces.{agrees}

-- whether places agree does not depend on their parts
kept_test : (q : List ℕ) (x : PlaceOf ℕ) (ys : List (PlaceOf ℕ))
    → list_all (λ y. not (same_meta nat_eq x.meta y.meta) || same_bound (number_words []) x.bound y.bound) (map (kept q) ys)
    ≡ list_all (λ y. not (same_meta nat_eq x.meta y.meta) || same_bound (number_words []) x.bound y.bound) ys
kept_test q x [] = refl
kept_test q x (y ∷ ys) = ap (λ b. (not (same_meta nat_eq x.meta y.meta) || same_bound (number_words []) x.bound y.bound) && b) (kept_test q x ys)

pub kept_agrees : (q : List ℕ) (xs : List (PlaceOf ℕ)) → agrees (map (kept q) xs) ≡ agrees xs
kept_agrees q [] = refl
kept_agrees q (x ∷ xs) = λ i. kept_test q x xs i && kept_agrees q xs i

module _ (names : List (List ℕ)) (p : PatternOf ℕ) (t : TreeOf ℕ) (s last : State) (start : s ≡ ([], [])) (fits : Bool) (walked : reached fits last ≡ gathered s (places (number_words names) p t)) where
  from_start : reached fits last ≡ gathered ([], []) (places (number_words names) p t)
  from_start = walked ∙ ap (λ (z : State). gathered z (places (number_words names) p t)) start

  pub match_misses : fits ≡ false → None ≡ option_map (map (kept [])) (match_places (number_words names) p t)
  match_misses e = by (places (number_words names) p t) (ap (λ b. reached b last) (sym e) ∙ from_start)
    where
      by : (o : FoundOf ℕ) → None ≡ gathered ([], []) o → None ≡ option_map (map (kept [])) (option_and_then (λ xs. where_holds (agrees xs) (Some xs)) o)
      by None h = refl
      by (Some xs) h = let bad : ⊥ = cc in absurd bad

  pub match_whole : fits ≡ true → (equal : Bool) → equal ≡ agrees last.1 → option_map (map (kept [])) (match_places (number_words names) p t) ≡ where_holds equal (Some last.1)
  match_whole e equal told = by (places (number_words names) p t) (ap (λ b. reached b last) (sym e) ∙ from_start)
    where
      by : (o : FoundOf ℕ) → Some last ≡ gathered ([], []) o → option_map (map (kept [])) (option_and_then (λ xs. where_holds (agrees xs) (Some xs)) o) ≡ where_holds equal (Some last.1)
      by None h = let bad : ⊥ = cc in absurd bad
      by (Some xs) h = of (agrees xs) refl
        where
          is : last ≡ ([], map (kept []) xs)
          is = cc

          same : equal ≡ agrees xs
          same = told ∙ ap (λ (z : State). agrees z.1) is ∙ kept_agrees [] xs

          of : (b : Bool) → agrees xs ≡ b → option_map (map (kept [])) (where_holds b (Some xs)) ≡ where_holds equal (Some last.1)
          of true a = (λ i. Some (sym (ap (λ (z : State). z.1) is) i)) ∙ ap (λ c. where_holds c (Some last.1)) (sym (same ∙ a))
          of false a = ap (λ c. where_holds c (Some last.1)) (sym (same ∙ a))
