-- Lists that are added to and filtered.
use Rattle.std.proofs.Common.{◌≡◌, ◌<◌, ℕ, List, [], ◌∷◌, ◌++◌, Bool, true, false, not, ◌&&◌, ◌||◌, if◌then◌else◌, nat_eq, length, get_or, take, All, refl, ap, sym, ◌∙◌, arith, ◌≤◌, Result, Ok, Err, ltb, ltb-true, ltb-false}
use Rattle.std.specs.Prelude.{filter}
use Rattle.std.specs.List.{list_any, flat_map}
use Rattle.std.specs.List.Sorted.{IsStrictlyIncreasing, IsBinarySearchResult}
use Rattle.std.specs.Result.{is_ok, MatchResult}
use Rattle.std.specs.Ordering.{nat_cmp}
use Rattle.std.proofs.lemmas.Cmp.{nat_eq_equiv}
use Rattle.std.proofs.lemmas.List.Sorted.{searched}
use Rattle.std.proofs.lemmas.Bool.Decides.{nat_tests}
use Rattle.std.proofs.lemmas.List.{append_assoc, append-nil, get_or-take, get_or_default, length-take}
use Rattle.std.proofs.lemmas.List.Elements.{All-head, All-tail, filter_passes, filter-append}
use Rattle.std.proofs.lemmas.List.Folds.{list_any_none, list_any_at}
use Rattle.std.proofs.lemmas.List.Kept.{AllPairs-from_increasing}
use Rattle.reference_index.specs.declared.fresh.Fresh.{Fresh}
use Rattle.class_table.specs.declared.record.Place.{Place}
use Rattle.reference_index.specs.Mentioned.{Mentioned}
use Rattle.reference_index.specs.Rows.{mentions}
use Rattle.reference_index.specs.Fresh.{comes}

-- a filter of a list that passes changes nothing
pub filter-all : {X : Type 0} (p : X → Bool) (xs : List X) → All (λ x. p x ≡ true) xs → filter p xs ≡ xs
filter-all p [] h = refl
filter-all p (x ∷ xs) h = rw (All-head (λ y. p y ≡ true) x xs h) (ap (λ ys. x ∷ ys) (filter-all p xs (All-tail (λ y. p y ≡ true) x xs h)))

-- a filter of what it left changes nothing
pub filter-filter : {X : Type 0} (p : X → Bool) (xs : List X) → filter p (filter p xs) ≡ filter p xs
filter-filter p xs = filter-all p (filter p xs) (filter_passes p xs)

-- one more name whose list is filtered
pub settled-more : {X : Type 0} (p : X → Bool) (old mid new : List X) (b e : Bool) → mid ≡ (if b then filter p old else old) → new ≡ (if e then filter p mid else mid) → new ≡ (if b || e then filter p old else old)
settled-more p old mid new true true h k = rw (k, h) (filter-filter p old)
settled-more p old mid new true false h k = k ∙ h
settled-more p old mid new false true h k = rw (k, h) refl
settled-more p old mid new false false h k = k ∙ h

-- one more name into whose list a place is put
pub entered-more : {X : Type 0} (x : X) (old mid new : List X) (b e m : Bool) → mid ≡ old ++ (if b && not m then x ∷ [] else []) → new ≡ mid ++ (if e then x ∷ [] else []) → (e ≡ true → m ≡ false) → (e ≡ true → b ≡ false) → new ≡ old ++ (if (b || e) && not m then x ∷ [] else [])
entered-more x old mid new true true m h k f g = absurd (cc (g refl))
entered-more x old mid new b true true h k f g = absurd (cc (f refl))
entered-more x old mid new false true false h k f g = rw (k, h, append-nil old) refl
entered-more x old mid new true false m h k f g = k ∙ append-nil mid ∙ h
entered-more x old mid new false false m h k f g = k ∙ append-nil mid ∙ h

-- one more name whose list has the place already
pub entered-same : {X : Type 0} (x : X) (old mid : List X) (b e m : Bool) → mid ≡ old ++ (if b && not m then x ∷ [] else []) → (e ≡ true → m ≡ true) → mid ≡ old ++ (if (b || e) && not m then x ∷ [] else [])
entered-same x old mid true e m h f = h
entered-same x old mid false true true h f = h
entered-same x old mid false true false h f = absurd (cc (f refl))
entered-same x old mid false false m h f = h

-- a number of a list that rises stands there once
pub rises-apart : (xs : List ℕ) (i d : ℕ) → IsStrictlyIncreasing xs → i < length xs → list_any (nat_eq (get_or xs i d)) (take i xs) ≡ false
rises-apart xs i d up h =
    list_any_none _ (take i xs)
    (λ k e l.
    let below : k < i = omega (arith, length-take i xs) in
    let same : get_or (take i xs) k e ≡ get_or xs k d = get_or_default (take i xs) k e d l ∙ get_or-take i xs k d below in
    let apart : get_or xs k d < get_or xs i d = AllPairs-from_increasing xs up k i d below h in
    rw same (grind (arith, nat_tests)))

unpassed : {X : Type 0} (p : X → Bool) (xs : List X) (x : X) (b t : Bool) → p x ≡ t → filter p (xs ++ (if b && not t then x ∷ [] else [])) ≡ filter p xs
unpassed p xs x true true e = ap (filter p) (append-nil xs)
unpassed p xs x true false e = filter-append p xs (x ∷ []) ∙ rw e (append-nil (filter p xs))
unpassed p xs x false t e = ap (filter p) (append-nil xs)

-- the same of a number that is there
pub rises-apart_at : (xs : List ℕ) (i n : ℕ) → IsStrictlyIncreasing xs → i < length xs → get_or xs i 0 ≡ n → list_any (nat_eq n) (take i xs) ≡ false
rises-apart_at xs i n up h e = rw (← e) (rises-apart xs i 0 up h)

-- a search among numbers that rise finds what is there
pub searched-among : (xs : List ℕ) (n : ℕ) (r : Result ℕ ℕ) → IsStrictlyIncreasing xs → IsBinarySearchResult (λ y. nat_cmp y n) xs r → is_ok r ≡ list_any (nat_eq n) xs
searched-among xs n r up h = go r (searched xs n r h not-down) where
  not-down : (i j : ℕ) → i ≤ j → j < length xs → get_or xs i 0 ≤ get_or xs j 0
  not-down i j le l = far (ltb i j) refl where
    far : (b : Bool) → ltb i j ≡ b → get_or xs i 0 ≤ get_or xs j 0
    far true t = let less = AllPairs-from_increasing xs up i j 0 (ltb-true i j t) l in omega arith
    far false t = let most = ltb-false i j t in let same : i ≡ j = omega arith in rw same (omega arith)

  go : (r : Result ℕ ℕ) → MatchResult r (λ i. (i < length xs) × (get_or xs i 0 ≡ n)) (λ i. (i ≤ length xs) × ((k : ℕ) → k < i → get_or xs k 0 < n) × ((k : ℕ) → i ≤ k → k < length xs → n < get_or xs k 0)) → is_ok r ≡ list_any (nat_eq n) xs
  go (Ok i) f = sym (list_any_at (nat_eq n) xs i 0 f.0 (rw f.1 (nat_eq_equiv.refl n)))
  go (Err i) f = sym (list_any_none (nat_eq n) xs (λ k d l. rw (get_or_default xs k d 0 l) (apart k l (ltb k i) refl))) where
    apart : (k : ℕ) → k < length xs → (b : Bool) → ltb k i ≡ b → nat_eq n (get_or xs k 0) ≡ false
    apart k l true t = let below = f.1 k (ltb-true k i t) in grind (arith, nat_tests)
    apart k l false t = let above = f.2 k (ltb-false k i t) l in grind (arith, nat_tests)

-- a place that does not pass is lost in a filter
pub filter-unpassed : {X : Type 0} (p : X → Bool) (xs : List X) (x : X) (b : Bool) → filter p (xs ++ (if b && not (p x) then x ∷ [] else [])) ≡ filter p xs
filter-unpassed p xs x b = unpassed p xs x b (p x) refl

-- the places that come to mention a name are lost in a filter by those that mentioned it
pub filter-comes : (x : Mentioned) (n : ℕ) (places : List Place) (fresh : List Fresh) → filter (mentions x n) (places ++ flat_map (comes x n) fresh) ≡ filter (mentions x n) places
filter-comes x n places [] = ap (filter (mentions x n)) (append-nil places)
filter-comes x n places (f ∷ fresh) =
    ap (filter (mentions x n)) (sym (append_assoc places (comes x n f) (flat_map (comes x n) fresh)))
    ∙ filter-comes x n (places ++ comes x n f) fresh
    ∙ filter-unpassed (mentions x n) places f.place (list_any (nat_eq n) f.names)
