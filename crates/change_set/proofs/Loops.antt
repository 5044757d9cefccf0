-- One turn of the loop over changes, from the first one on and from the last one back.
use Rattle.std.proofs.Common.{◌≡◌, ℕ, zero, suc, ◌-◌, ◌<◌, ◌≤◌, List, [], ◌∷◌, ◌++◌, length, get_or, take, drop, refl, sym, ap, subst, ◌∙◌, arith, append_assoc}
use Rattle.std.proofs.Math.ListN.{set}
use Rattle.class_table.specs.Slots.{Slots}
use Rattle.change_set.specs.declared.change.Change.{Change}
use Rattle.change_set.specs.Change.{applied, inverse, CanApply}
use Rattle.change_set.specs.Changes.{all_undone, inverses_undone, CanUndoAll}

-- the last one of the first changes is undone before the others
record TurnBack (s : Slots) (xs : List Change) (i : ℕ) (x : Change) : Type 0 where
  pub can : CanApply s x
  pub rest : CanUndoAll (applied s x) (take i xs)
  pub image : all_undone (applied s x) (take i xs) ≡ all_undone s (take (suc i) xs)
  pub changes : inverses_undone (applied s x) (take i xs) ++ inverse s x ∷ [] ≡ inverses_undone s (take (suc i) xs)

turn_back : (s : Slots) (xs : List Change) (i : ℕ) (x : Change) → i < length xs → x ≡ get_or xs i x → CanUndoAll s (take (suc i) xs) → TurnBack s xs i x
turn_back s [] i x h r p = absurd (omega arith)
turn_back s (y ∷ ys) zero x h r p =
    record { can = subst (CanApply s) (sym r) p.1; rest = tt; image = ap (applied s) r; changes = ap (λ (z : Change). inverse s z ∷ []) r }
turn_back s (y ∷ ys) (suc i) x h r p =
    let t = turn_back s ys i x (omega arith) r p.0 in
    record {
      can = t.can;
      rest = (t.rest, subst (λ (z : Slots). CanApply z y) (sym t.image) p.1);
      image = ap (λ (z : Slots). applied z y) t.image;
      changes = λ j. inverse (t.image j) y ∷ t.changes j;
    }

-- the last one of the first changes may be applied
pub can_turn_back : (s : Slots) (xs : List Change) (n : ℕ) (x : Change) → 0 < n → n ≤ length xs → x ≡ get_or xs (n - 1) x → CanUndoAll s (take n xs) → CanApply s x
can_turn_back s xs n x h w r p =
    let at : n ≡ suc (n - 1) = omega arith in
    (turn_back s xs (n - 1) x (omega arith) r (subst (λ (m : ℕ). CanUndoAll s (take m xs)) at p)).can

take-set : {X : Type 0} (xs : List X) (i : ℕ) (y : X) → take i (set xs i y) ≡ take i xs
take-set [] i y = refl
take-set (x ∷ xs) zero y = refl
take-set (x ∷ xs) (suc i) y = ap (λ (zs : List _). x ∷ zs) (take-set xs i y)

drop-set : {X : Type 0} (xs : List X) (i : ℕ) (y : X) → i < length xs → drop i (set xs i y) ≡ y ∷ drop (suc i) xs
drop-set [] i y h = absurd (omega arith)
drop-set (x ∷ xs) zero y h = refl
drop-set (x ∷ xs) (suc i) y h = drop-set xs i y (omega arith)

-- what holds when the changes from a number on are undone
pub record Remaining (s : Slots) (xs : List Change) (n : ℕ) (end : Slots) (ends : List Change) : Type 0 where
  pub can : CanUndoAll s (take n xs)
  pub image : all_undone s (take n xs) ≡ end
  pub changes : inverses_undone s (take n xs) ++ drop n xs ≡ ends

after : (s : Slots) (xs : List Change) (i : ℕ) (x : Change) (end : Slots) (ends : List Change) → i < length xs → x ≡ get_or xs i x → Remaining s xs (suc i) end ends → Remaining (applied s x) (set xs i (inverse s x)) i end ends
after s xs i x end ends h r p =
    let t = turn_back s xs i x h r p.can in
    let y = inverse s x in
    let same : take i (set xs i y) ≡ take i xs = take-set xs i y in
    record {
      can = subst (CanUndoAll (applied s x)) (sym same) t.rest;
      image = ap (all_undone (applied s x)) same ∙ t.image ∙ p.image;
      changes = (λ j. inverses_undone (applied s x) (same j) ++ drop-set xs i y h j)
          ∙ sym (append_assoc (inverses_undone (applied s x) (take i xs)) (y ∷ []) (drop (suc i) xs))
          ∙ ap (λ (zs : List Change). zs ++ drop (suc i) xs) t.changes
          ∙ p.changes;
    }

-- a turn of the loop from the last one back
pub after_turn : (s new : Slots) (xs : List Change) (n : ℕ) (x y : Change) (end : Slots) (ends : List Change) → 0 < n → n ≤ length xs → x ≡ get_or xs (n - 1) x → new ≡ applied s x → y ≡ inverse s x
    → Remaining s xs n end ends → Remaining new (set xs (n - 1) y) (n - 1) end ends
after_turn s new xs n x y end ends h w r image change p =
    let at : n ≡ suc (n - 1) = omega arith in
    let next : Remaining (applied s x) (set xs (n - 1) (inverse s x)) (n - 1) end ends =
    after s xs (n - 1) x end ends (omega arith) r (subst (λ (m : ℕ). Remaining s xs m end ends) at p) in
    subst (λ (z : Slots). Remaining z (set xs (n - 1) y) (n - 1) end ends) (sym image)
    (subst (λ (z : Change). Remaining (applied s x) (set xs (n - 1) z) (n - 1) end ends) (sym change) next)
