-- Lists from behind of which some items are left out.
use Rattle.std.proofs.Common.{◌≡◌, Bool, true, false, cond, List, [], ◌∷◌, ◌++◌, filter, refl, sym, ap, ◌∙◌, append-nil}
use Rattle.std.specs.Prelude.{reverse}
use Rattle.std.proofs.lemmas.List.{reverse-append}
use Rattle.std.proofs.lemmas.List.Elements.{filter-append}

pub reversed_filter : {X : Type 0} (p : X → Bool) (xs : List X) → reverse (filter p xs) ≡ filter p (reverse xs)
reversed_filter p [] = refl
reversed_filter {X} p (x ∷ xs) =
    by (p x) refl (reversed_filter p xs) ∙ sym (filter-append p (reverse xs) (x ∷ [])) ∙ ap (filter p) (sym (reverse-append (x ∷ []) xs))
  where
    by : (b : Bool) → p x ≡ b → reverse (filter p xs) ≡ filter p (reverse xs) → reverse (cond b (x ∷ filter p xs) (filter p xs)) ≡ filter p (reverse xs) ++ cond b (x ∷ []) []
    by true e rest = reverse-append (x ∷ []) (filter p xs) ∙ ap (λ ys. ys ++ x ∷ []) rest
    by false e rest = rest ∙ sym (append-nil (filter p (reverse xs)))
