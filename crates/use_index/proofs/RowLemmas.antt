-- Rows by number.
use Rattle.std.proofs.Common.{◌≡◌, ◌≤◌, ◌++◌, ℕ, zero, suc, List, [], ◌∷◌, length, take, refl, sym, ap, ◌∙◌, arith}
use Rattle.std.proofs.lemmas.List.{take-take, length-take}
use Rattle.class_table.specs.declared.record.Place.{Place}
use Rattle.class_table.specs.declared.record.Place.TheVariants as place
use Rattle.use_index.specs.declared.uses.UseAt.{UseAt}
use Rattle.use_index.specs.Rows.{Used, row_of, HasRow}

-- an empty row at the end changes no row
pub row-push : (rows : List (List UseAt)) (k : ℕ) → row_of (rows ++ [] ∷ []) k ≡ row_of rows k
row-push [] zero = refl
row-push [] (suc k) = refl
row-push (r ∷ rows) zero = refl
row-push (r ∷ rows) (suc k) = row-push rows k

-- rows of which the first are those of before are no fewer
pub front-shorter : {X : Type 0} (old new : List X) → take (length old) new ≡ old → length old ≤ length new
front-shorter old new h = omega (arith, length-take (length old) new, ap length h)

-- rows of which the first are those of before, twice
pub front-front : {X : Type 0} (old mid new : List X) → take (length old) mid ≡ old → take (length mid) new ≡ mid → take (length old) new ≡ old
front-front old mid new h k = sym (take-take (length old) (length mid) new (front-shorter old mid h)) ∙ ap (take (length old)) k ∙ h

-- a place has a row where there are no fewer rows
pub HasRow-more : (x y : Used) (p : Place) → length x.methods ≤ length y.methods → length x.doits ≤ length y.doits → HasRow x p → HasRow y p
HasRow-more x y (place.Method k) l m h = omega arith
HasRow-more x y (place.DoIt n) l m h = omega arith
