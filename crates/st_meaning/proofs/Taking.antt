-- The first items of a list and the next one.
use Rattle.std.proofs.Common.{◌≡◌, ℕ, ◌+◌, ◌<◌, List, [], ◌∷◌, ◌++◌, length, take, get_or, Some, sym, ap, ◌∙◌}
use Rattle.std.specs.Prelude.{slice_get, unwrap_or}
use Rattle.std.proofs.lemmas.List.{take_more}
use Rattle.std.proofs.lemmas.Option.{slice_get_within, slice_get-get_or}

pub take_next : {X : Type 0} (xs : List X) (n : ℕ) (x : X) → Some x ≡ slice_get xs n → take (n + 1) xs ≡ take n xs ++ x ∷ []
take_next xs n x e =
    let l : n < length xs = slice_get_within xs n x (sym e) in
    let g : get_or xs n x ≡ x = ap (λ o. unwrap_or o x) (sym (slice_get-get_or xs n x l) ∙ sym e) in
    take_more xs n x l ∙ ap (λ z. take n xs ++ z ∷ []) g
