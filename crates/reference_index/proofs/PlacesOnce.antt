-- Places that are sorted out and named once.
use Rattle.std.proofs.Common.{◌≡◌, ◌≤◌, ◌+◌, ℕ, List, [], ◌∷◌, ◌++◌, true, false, map, length, Contains, nat_eq, refl, arith, eqb-true, length-append, Less}
use Rattle.std.specs.List.{filter_map, IsDistinct, AllByRecursion}
use Rattle.std.specs.List.Sorted.{IsStrictlySortedBy}
use Rattle.std.specs.Ordering.{nat_cmp}
use Rattle.std.specs.Cmp.{IsEquivalence}
use Rattle.std.proofs.lemmas.Cmp.{nat_eq_equiv}
use Rattle.std.proofs.lemmas.Bool.Decides.{nat_tests}
use Rattle.std.proofs.lemmas.List.{length-map}
use Rattle.std.proofs.lemmas.List.Elements.{Contains-append_left, Contains-append_right}
use Rattle.std.proofs.lemmas.Map.Keys.{IsDistinct-cons, sorted_head, sorted_tail, sorted_from_strictly_increasing}
use Rattle.mentions.specs.Listing.{ListsOnce}
use Rattle.mentions.proofs.Lists.{Contains-mapped}
use Rattle.class_table.specs.declared.record.Place.{Place}
use Rattle.class_table.specs.declared.record.Place.TheVariants as place
use Rattle.reference_index.specs.Mentioned.{same_place}
use Rattle.reference_index.specs.Fresh.{slot_in, number_in, IsOnce}
use Rattle.reference_index.proofs.Members.{IsDistinct-nil, Contains-given}

-- places are one where they are said to be
pub place-is : (p q : Place) → same_place p q ≡ true → p ≡ q
place-is (place.Method j) (place.Method k) h = rw (eqb-true j k h) refl
place-is (place.Method j) (place.DoIt n) h = absurd (cc h)
place-is (place.DoIt m) (place.Method k) h = absurd (cc h)
place-is (place.DoIt m) (place.DoIt n) h = rw (eqb-true m n h) refl

place-refl : (p : Place) → same_place p p ≡ true
place-refl (place.Method j) = nat_eq_equiv.refl j
place-refl (place.DoIt n) = nat_eq_equiv.refl n

place-symm : (p q : Place) → same_place p q ≡ same_place q p
place-symm (place.Method j) (place.Method k) = nat_eq_equiv.symm j k
place-symm (place.Method j) (place.DoIt n) = refl
place-symm (place.DoIt m) (place.Method k) = refl
place-symm (place.DoIt m) (place.DoIt n) = nat_eq_equiv.symm m n

place-congr : (p q r : Place) → same_place p q ≡ true → same_place p r ≡ same_place q r
place-congr p q r h = rw (place-is p q h) refl

-- the test of places
pub place_equiv : IsEquivalence same_place
place_equiv = record { refl = place-refl; symm = place-symm; congr = place-congr }

-- each place is in one of the lists
pub length-sorted_out : (ps : List Place) → length (filter_map slot_in ps) + length (filter_map number_in ps) ≡ length ps
length-sorted_out [] = refl
length-sorted_out (place.Method k ∷ ps) = let rest = length-sorted_out ps in omega arith
length-sorted_out (place.DoIt n ∷ ps) = let rest = length-sorted_out ps in omega arith

less-apart : (n m : ℕ) → nat_cmp n m ≡ Less → nat_eq n m ≡ false
less-apart n m h = grind (arith, nat_tests)

apart-doits : (n : ℕ) (ns : List ℕ) → AllByRecursion (λ m. nat_cmp n m ≡ Less) ns → AllByRecursion (λ p. same_place (place.DoIt n) p ≡ false) (map place.DoIt ns)
apart-doits n [] h = tt
apart-doits n (m ∷ ns) h = (less-apart n m h.0, apart-doits n ns h.1)

apart-methods : (k : ℕ) (ss ns : List ℕ) → AllByRecursion (λ j. nat_cmp k j ≡ Less) ss → AllByRecursion (λ p. same_place (place.Method k) p ≡ false) (map place.Method ss ++ map place.DoIt ns)
apart-methods k [] [] h = tt
apart-methods k [] (n ∷ ns) h = (refl, apart-methods k [] ns tt)
apart-methods k (j ∷ ss) ns h = (less-apart k j h.0, apart-methods k ss ns h.1)

doits-distinct : (ns : List ℕ) → IsStrictlySortedBy nat_cmp ns → IsDistinct same_place (map place.DoIt ns)
doits-distinct [] h = IsDistinct-nil same_place
doits-distinct (n ∷ ns) h =
    IsDistinct-cons same_place (place.DoIt n) (map place.DoIt ns)
    (apart-doits n ns (sorted_head nat_cmp n ns h))
    (doits-distinct ns (sorted_tail nat_cmp n ns h))

places-distinct : (ss ns : List ℕ) → IsStrictlySortedBy nat_cmp ss → IsStrictlySortedBy nat_cmp ns → IsDistinct same_place (map place.Method ss ++ map place.DoIt ns)
places-distinct [] ns h g = doits-distinct ns g
places-distinct (k ∷ ss) ns h g =
    IsDistinct-cons same_place (place.Method k) (map place.Method ss ++ map place.DoIt ns)
    (apart-methods k ss ns (sorted_head nat_cmp k ss h))
    (places-distinct ss ns (sorted_tail nat_cmp k ss h) g)

places-kept : (ps : List Place) (ss ns : List ℕ) → ((k : ℕ) → Contains (filter_map slot_in ps) k → Contains ss k) → ((n : ℕ) → Contains (filter_map number_in ps) n → Contains ns n) → (p : Place) → Contains ps p → Contains (map place.Method ss ++ map place.DoIt ns) p
places-kept ps ss ns f g (place.Method k) h =
    Contains-append_left (map place.Method ss) (map place.DoIt ns) (place.Method k)
    (Contains-mapped place.Method ss k (f k (Contains-given slot_in ps (place.Method k) k refl h)))
places-kept ps ss ns f g (place.DoIt n) h =
    Contains-append_right (map place.Method ss) (map place.DoIt ns) (place.DoIt n)
    (Contains-mapped place.DoIt ns n (g n (Contains-given number_in ps (place.DoIt n) n refl h)))

-- places that are sorted out, and of which each slot and number is left once
pub places-once : (ps : List Place) (ss ns : List ℕ) → ListsOnce (filter_map slot_in ps) ss → ListsOnce (filter_map number_in ps) ns → length ss ≤ length (filter_map slot_in ps) → length ns ≤ length (filter_map number_in ps) → IsOnce ps (map place.Method ss ++ map place.DoIt ns)
places-once ps ss ns slots numbers l m = record {
  distinct = places-distinct ss ns (sorted_from_strictly_increasing ss slots.once) (sorted_from_strictly_increasing ns numbers.once);
  members = places-kept ps ss ns (λ k. (slots.members k).1) (λ n. (numbers.members n).1);
  shorter = let all = length-sorted_out ps in rw (length-append, length-map, length-map) (omega arith);
}
