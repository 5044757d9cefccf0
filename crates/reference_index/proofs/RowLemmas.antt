-- Rows and lists by number.
use Rattle.std.proofs.Common.{◌≡◌, Bool, true, false, if◌then◌else◌, ℕ, zero, suc, List, [], ◌∷◌, ◌++◌, ◌≤◌, length, take, refl, sym, ap, ◌∙◌, arith}
use Rattle.std.proofs.lemmas.List.{take-take, length-take}
use Rattle.std.specs.List.{slice_index_or}
use Rattle.std.specs.List.Sorted.{IsStrictlyIncreasing}
use Rattle.class_table.specs.declared.record.Place.TheVariants as place
use Rattle.reference_index.specs.Rows.{row_of, EachRises}

-- an empty row at the end changes no row
pub row-push : (rows : List (List ℕ)) (k : ℕ) → row_of (rows ++ [] ∷ []) k ≡ row_of rows k
row-push [] zero = refl
row-push [] (suc k) = refl
row-push (r ∷ rows) zero = refl
row-push (r ∷ rows) (suc k) = row-push rows k

-- an empty list at the end changes no list
pub list-push : {X : Type 0} (lists : List (List X)) (k : ℕ) → slice_index_or (lists ++ [] ∷ []) k [] ≡ slice_index_or lists k []
list-push [] zero = refl
list-push [] (suc k) = refl
list-push (r ∷ lists) zero = refl
list-push (r ∷ lists) (suc k) = list-push lists k

-- rows of which the first are those of before are no fewer
pub front-shorter : {X : Type 0} (old new : List X) → take (length old) new ≡ old → length old ≤ length new
front-shorter old new h = omega (arith, length-take (length old) new, ap length h)

-- rows of which the first are those of before, twice
pub front-front : {X : Type 0} (old mid new : List X) → take (length old) mid ≡ old → take (length mid) new ≡ mid → take (length old) new ≡ old
front-front old mid new h k = sym (take-take (length old) (length mid) new (front-shorter old mid h)) ∙ ap (take (length old)) k ∙ h

-- the names of each place still rise where other rows of methods do
pub methods-rise : (old new doits : List (List ℕ)) → ((k : ℕ) → IsStrictlyIncreasing (row_of new k)) → EachRises (record { methods = old; doits = doits }) → EachRises (record { methods = new; doits = doits })
methods-rise old new doits up h (place.Method k) = up k
methods-rise old new doits up h (place.DoIt n) = h (place.DoIt n)

-- and where other rows of do-its do
pub doits-rise : (methods old new : List (List ℕ)) → ((n : ℕ) → IsStrictlyIncreasing (row_of new n)) → EachRises (record { methods = methods; doits = old }) → EachRises (record { methods = methods; doits = new })
doits-rise methods old new up h (place.Method k) = h (place.Method k)
doits-rise methods old new up h (place.DoIt n) = up n

-- both of two lists rise
pub either-rises : (b : Bool) (xs ys : List ℕ) → IsStrictlyIncreasing xs → IsStrictlyIncreasing ys → IsStrictlyIncreasing (if b then xs else ys)
either-rises true xs ys h k = h
either-rises false xs ys h k = k
