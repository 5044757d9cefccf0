-- The places at which there is code, and the index of an image without code.
use Rattle.std.proofs.Common.{◌≡◌, ◌<◌, ◌+◌, ◌++◌, inl, inr, ℕ, List, [], ◌∷◌, Bool, true, false, length, Contains, nat_eq, refl, ◌∙◌, sym, arith, ltb, ltb-true, ltb-false}
use Rattle.std.specs.List.{list_any}
use Rattle.std.proofs.lemmas.List.Elements.{Contains-append_left, Contains-push}
use Rattle.std.proofs.lemmas.Option.{slice_get_cases}
use Rattle.mentions.specs.Listing.{ListsOnce}
use Rattle.class_table.specs.declared.record.Place.{Place}
use Rattle.class_table.specs.declared.record.Place.TheVariants as place
use Rattle.class_table.specs.Slots.{Slots}
use Rattle.reference_index.specs.Mentioned.{IsIndexOf, DiffersAtMost, names_at}
use Rattle.reference_index.proofs.Members.{number-found}

-- the slots without code
abbrev pub without_code : Slots → Slots
without_code s = record s { methods = []; method_order = []; doits = [] }

-- where there is no code no name is mentioned
pub names-nowhere : (s : Slots) (ps : List Place) → ((k : ℕ) → Contains s.method_order k → Contains ps (place.Method k)) → ((n : ℕ) → n < length s.doits → Contains ps (place.DoIt n)) → (p : Place) → (Contains ps p → ⊥) → names_at s p ≡ []
names-nowhere s ps methods doits (place.Method k) out = go (list_any (nat_eq k) s.method_order) refl where
  go : (b : Bool) → list_any (nat_eq k) s.method_order ≡ b → names_at s (place.Method k) ≡ []
  go true t = absurd (out (methods k (number-found k s.method_order t)))
  go false t = rw t refl
names-nowhere s ps methods doits (place.DoIt n) out =
    elim (slice_get_cases s.doits n).1 [
      | inl g ↦ absurd (out (doits n g.1))
      | inr g ↦ rw g.1 refl
    ]

-- one more do-it
pub doits-more : (ps : List Place) (m : ℕ) → ((n : ℕ) → n < m → Contains ps (place.DoIt n)) → (n : ℕ) → n < m + 1 → Contains (ps ++ place.DoIt m ∷ []) (place.DoIt n)
doits-more ps m all n h = go (ltb n m) refl where
  go : (b : Bool) → ltb n m ≡ b → Contains (ps ++ place.DoIt m ∷ []) (place.DoIt n)
  go true t = Contains-append_left ps (place.DoIt m ∷ []) (place.DoIt n) (all n (ltb-true n m t))
  go false t = let le = ltb-false n m t in let same : n ≡ m = omega arith in rw same (Contains-push ps (place.DoIt m))

names-without_code : (s : Slots) (p : Place) → names_at (without_code s) p ≡ []
names-without_code s (place.Method k) = refl
names-without_code s (place.DoIt n) = refl

once-nothing : ListsOnce [] []
once-nothing = record { once = λ k h. absurd (omega arith); members = λ n. ((λ h. h), (λ h. h)) }

-- the index of slots without code
pub index-without_code : (s : Slots) → IsIndexOf (without_code s) (record { methods = []; doits = [] })
index-without_code s (place.Method k) = once-nothing
index-without_code s (place.DoIt n) = once-nothing

-- the code differs from none at most where there is code
pub differs-from_none : (s : Slots) (ps : List Place) → ((p : Place) → (Contains ps p → ⊥) → names_at s p ≡ []) → DiffersAtMost (without_code s) s ps
differs-from_none s ps none p out = none p out ∙ sym (names-without_code s p)
