-- The places at which there is code, and the index of an image without code.
use Rattle.std.proofs.Common.{◌≡◌, ◌<◌, inl, inr, ℕ, List, [], Bool, true, false, length, Contains, nat_eq, refl, ◌∙◌, sym}
use Rattle.std.specs.List.{list_any}
use Rattle.std.proofs.lemmas.Option.{slice_get_cases}
use Rattle.class_table.specs.declared.record.Place.{Place}
use Rattle.class_table.specs.declared.record.Place.TheVariants as place
use Rattle.class_table.specs.Slots.{Slots}
use Rattle.reference_index.specs.Mentioned.{names_at}
use Rattle.reference_index.proofs.CodePlaces.{without_code, index-without_code}
use Rattle.reference_index.proofs.Members.{number-found}
use Rattle.use_index.specs.Index.{Known, IsUseIndexOf, UsesDifferAtMost, AreUsesOf, uses_at}

-- where there is no code there is no use
pub uses-nowhere : (s : Slots) (ps : List Place) → ((k : ℕ) → Contains s.method_order k → Contains ps (place.Method k)) → ((n : ℕ) → n < length s.doits → Contains ps (place.DoIt n)) → (p : Place) → (Contains ps p → ⊥) → uses_at s p ≡ []
uses-nowhere s ps methods doits (place.Method k) out = go (list_any (nat_eq k) s.method_order) refl where
  go : (b : Bool) → list_any (nat_eq k) s.method_order ≡ b → uses_at s (place.Method k) ≡ []
  go true t = absurd (out (methods k (number-found k s.method_order t)))
  go false t = rw t refl
uses-nowhere s ps methods doits (place.DoIt n) out =
    elim (slice_get_cases s.doits n).1 [
      | inl g ↦ absurd (out (doits n g.1))
      | inr g ↦ rw g.1 refl
    ]

uses-without_code : (s : Slots) (p : Place) → uses_at (without_code s) p ≡ []
uses-without_code s (place.Method k) = refl
uses-without_code s (place.DoIt n) = refl

-- an index of nothing
abbrev pub nothing : Known
nothing = record { names = record { methods = []; doits = [] }; uses = record { methods = []; doits = [] } }

none : (s : Slots) → AreUsesOf (without_code s) (record { methods = []; doits = [] })
none s (place.Method k) = refl
none s (place.DoIt n) = refl

-- the index of slots without code
pub index-of_nothing : (s : Slots) → IsUseIndexOf (without_code s) nothing
index-of_nothing s = record { names = index-without_code s; uses = none s }

names-without_code : (s : Slots) (p : Place) → names_at (without_code s) p ≡ []
names-without_code s (place.Method k) = refl
names-without_code s (place.DoIt n) = refl

-- the code differs from none at most where there is code
pub differs-from_none : (s : Slots) (ps : List Place) → ((p : Place) → (Contains ps p → ⊥) → names_at s p ≡ []) → ((p : Place) → (Contains ps p → ⊥) → uses_at s p ≡ []) → UsesDifferAtMost (without_code s) s ps
differs-from_none s ps names uses = record {
  names = λ p out. names p out ∙ sym (names-without_code s p);
  uses = λ p out. uses p out ∙ sym (uses-without_code s p);
}
