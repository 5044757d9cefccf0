-- Lists of which the second part has its last item first.
use Rattle.std.proofs.Common.{◌≡◌, ◌-◌, List, [], ◌∷◌, ◌++◌, reverse, take, drop, sym, ap, ◌∙◌, append_assoc}
use Rattle.std.proofs.lemmas.List.{reverse-append, take-append-drop, append_cancel_left}
use Rattle.file_model.specs.Places.{PlacedOf, put_at}

pub reverse_end : {X : Type 0} (xs : List X) (x : X) → reverse (xs ++ x ∷ []) ≡ x ∷ reverse xs
reverse_end xs x = reverse-append xs (x ∷ [])

-- an item at the end of the first part, or first in the second one
pub moved : {X : Type 0} (front back : List X) (x : X) → front ++ reverse (back ++ x ∷ []) ≡ (front ++ x ∷ []) ++ reverse back
moved front back x = ap (λ r. front ++ r) (reverse_end back x) ∙ sym (append_assoc front (x ∷ []) (reverse back))

-- an item is put in between the parts
pub put_between : {X : Type 0} (p : PlacedOf X) (front back all : List X) → front ++ reverse back ≡ all → front ≡ take (p.place - 1) (front ++ reverse back) → front ++ reverse (back ++ p.item ∷ []) ≡ put_at p all
put_between {X} p front back all e first =
    let before : front ≡ take (p.place - 1) all = first ∙ ap (take (p.place - 1)) e in
    let behind : reverse back ≡ drop (p.place - 1) all =
    append_cancel_left front (reverse back) (drop (p.place - 1) all)
    (e ∙ sym (take-append-drop (p.place - 1) all) ∙ ap (λ (r : List X). r ++ drop (p.place - 1) all) (sym before)) in
    ap (λ (r : List X). front ++ r) (reverse_end back p.item) ∙ (λ i. before i ++ p.item ∷ behind i)
