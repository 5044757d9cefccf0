-- A search through the names of one scope and then of those outside.
use Rattle.std.proofs.Common.{◌≡◌, Bool, List, ◌∷◌, find, Some, None, sym, ap, ◌∙◌}
use Rattle.std.specs.List.{flat_map}
use Rattle.std.specs.Option.{option_or}
use Rattle.std.proofs.lemmas.List.Folds.{find-append}

module _ {X : Type 0} (p : X → Bool) (xs : List X) (outer : List (List X)) where
  -- what the innermost scope has
  pub found_here : (x : X) → Some x ≡ find p xs → find p (flat_map (λ (s : List X). s) (xs ∷ outer)) ≡ Some x
  found_here x e = find-append p xs (flat_map (λ (s : List X). s) outer) ∙ ap (λ o. option_or o (find p (flat_map (λ (s : List X). s) outer))) (sym e)

  -- what it has not
  pub found_outside : None ≡ find p xs → find p (flat_map (λ (s : List X). s) (xs ∷ outer)) ≡ find p (flat_map (λ (s : List X). s) outer)
  found_outside e = find-append p xs (flat_map (λ (s : List X). s) outer) ∙ ap (λ o. option_or o (find p (flat_map (λ (s : List X). s) outer))) (sym e)
