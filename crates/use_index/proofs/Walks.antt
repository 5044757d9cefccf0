-- Walks over lists, from what is left of them.
use Rattle.std.proofs.Common.{◌≡◌, ◌+◌, ◌<◌, ℕ, zero, suc, List, [], ◌∷◌, ◌++◌, Bool, true, false, cond, map, filter, length, drop, get_or, refl, ap, sym, ◌∙◌, arith, drop-cons}
use Rattle.std.specs.List.{flat_map, range_with_len}
use Rattle.std.proofs.lemmas.List.{append_assoc, append-nil}
use Rattle.std.proofs.lemmas.List.Concat.{flat_map-cons}
use Rattle.std.proofs.lemmas.Grind.{flat_map-append}
use Rattle.use_index.specs.declared.found.Found.{Found}
use Rattle.use_index.specs.declared.found.Owner.{Owner}
use Rattle.use_index.specs.declared.uses.Sought.{Sought}
use Rattle.use_index.specs.declared.uses.UseAt.{UseAt}
use Rattle.class_table.specs.declared.record.Place.TheVariants as place
use Rattle.use_index.specs.declared.found.Owner.TheVariants as owner
use Rattle.use_index.specs.Found.{found_at, found_in_row, found_in_doits}
use Rattle.use_index.specs.Index.{Known}
use Rattle.use_index.specs.Rows.{used_of}
use Rattle.use_index.specs.Uses.{is_use}

-- what is put at the end for the first item of what is left
pub flat-step : {X Y : Type 0} (f : X → List Y) (x : X) (xs : List X) (before now all : List Y) → now ≡ before ++ f x → before ++ flat_map f (x ∷ xs) ≡ all → now ++ flat_map f xs ≡ all
flat-step f x xs before now all is whole =
    ap (λ zs. zs ++ flat_map f xs) is ∙ append_assoc before (f x) (flat_map f xs) ∙ ap (λ zs. before ++ zs) (sym (flat_map-cons f x xs)) ∙ whole

-- one number more comes last
pub range-push : (a n : ℕ) → range_with_len a (suc n) ≡ range_with_len a n ++ (a + n) ∷ []
range-push a zero = ap (λ k. k ∷ []) (omega arith)
range-push a (suc n) = ap (λ zs. a ∷ zs) (range-push (a + 1) n ∙ ap (λ k. range_with_len (a + 1) n ++ k ∷ []) (omega arith))

-- the item at a number is the first of what is left
pub drop-next : {X : Type 0} (xs : List X) (k : ℕ) (x : X) → k < length xs → x ≡ get_or xs k x → drop k xs ≡ x ∷ drop (k + 1) xs
drop-next xs k x h is =
    let e : suc k ≡ k + 1 = omega arith in
    drop-cons xs k x h ∙ ap (λ y. y ∷ drop (suc k) xs) (sym is) ∙ ap (λ j. x ∷ drop j xs) e

row-cons : (n : ℕ) (what : Sought) (o : Owner) (u : UseAt) (us : List UseAt) → found_in_row n what o (u ∷ us) ≡ found_in_row n what o (u ∷ []) ++ found_in_row n what o us
row-cons n what o u us = by (is_use n what u)
  where
    by : (b : Bool) → map (found_at o) (cond b (u ∷ filter (is_use n what) us) (filter (is_use n what) us)) ≡ map (found_at o) (cond b (u ∷ []) []) ++ map (found_at o) (filter (is_use n what) us)
    by true = refl
    by false = refl

-- what is put at the end for the first use of a row
pub row-step : (n : ℕ) (what : Sought) (o : Owner) (u : UseAt) (us : List UseAt) (before now all : List Found) → now ≡ before ++ found_in_row n what o (u ∷ [])
    → before ++ found_in_row n what o (u ∷ us) ≡ all → now ++ found_in_row n what o us ≡ all
row-step n what o u us before now all is whole =
    ap (λ zs. zs ++ found_in_row n what o us) is
    ∙ append_assoc before (found_in_row n what o (u ∷ [])) (found_in_row n what o us)
    ∙ ap (λ zs. before ++ zs) (sym (row-cons n what o u us))
    ∙ whole

-- what is left at the end
pub flat-end : {X Y : Type 0} (f : X → List Y) (rest : List X) (now all : List Y) → rest ≡ [] → now ++ flat_map f rest ≡ all → now ≡ all
flat-end f rest now all none whole = sym (append-nil now) ∙ ap (λ r. now ++ flat_map f r) (sym none) ∙ whole

pub row-end : (n : ℕ) (what : Sought) (o : Owner) (rest : List UseAt) (now all : List Found) → rest ≡ [] → now ++ found_in_row n what o rest ≡ all → now ≡ all
row-end n what o rest now all none whole = sym (append-nil now) ∙ ap (λ r. now ++ found_in_row n what o r) (sym none) ∙ whole

-- one use, where it is looked for or not
pub one-found : (n : ℕ) (what : Sought) (o : Owner) (u : UseAt) (path : List ℕ) (before : List Found) → is_use n what u ≡ true → path ≡ u.path
    → before ++ record { owner = o; path = path } ∷ [] ≡ before ++ found_in_row n what o (u ∷ [])
one-found n what o u path before is same =
    ap (λ p. before ++ record { owner = o; path = p } ∷ []) same ∙ sym (ap (λ b. before ++ map (found_at o) (cond b (u ∷ []) [])) is)

pub one-not : (n : ℕ) (what : Sought) (o : Owner) (u : UseAt) (before : List Found) → is_use n what u ≡ false → before ≡ before ++ found_in_row n what o (u ∷ [])
one-not n what o u before is = sym (append-nil before) ∙ sym (ap (λ b. before ++ map (found_at o) (cond b (u ∷ []) [])) is)

-- what is put at the end for one do-it more
pub doits-step : (x : Known) (n : ℕ) (what : Sought) (k : ℕ) (first before now : List Found) → before ≡ first ++ found_in_doits x n what k
    → now ≡ before ++ found_in_row n what (owner.DoIt k) (used_of x.uses (place.DoIt k)) → now ≡ first ++ found_in_doits x n what (k + 1)
doits-step x n what k first before now was is =
    let f : ℕ → List Found = λ j. found_in_row n what (owner.DoIt j) (used_of x.uses (place.DoIt j)) in
    let up : k + 1 ≡ suc k = omega arith in
    let same : 0 + k ≡ k = omega arith in
    let more : range_with_len 0 (k + 1) ≡ range_with_len 0 k ++ k ∷ [] = ap (λ j. range_with_len 0 j) up ∙ range-push 0 k ∙ ap (λ j. range_with_len 0 k ++ j ∷ []) same in
    let whole : flat_map f (range_with_len 0 (k + 1)) ≡ flat_map f (range_with_len 0 k) ++ f k =
    ap (flat_map f) more ∙ flat_map-append f (range_with_len 0 k) (k ∷ []) ∙ ap (λ zs. flat_map f (range_with_len 0 k) ++ zs) (flat_map-cons f k [] ∙ append-nil (f k)) in
    is ∙ ap (λ zs. zs ++ f k) was ∙ append_assoc first (flat_map f (range_with_len 0 k)) (f k) ∙ ap (λ zs. first ++ zs) (sym whole)
