-- The names that are kept after the fresh ones.
use Rattle.std.proofs.Common.{◌≡◌, ◌≤◌, ◌⊎◌, inl, inr, ℕ, List, [], ◌∷◌, ◌++◌, Bool, true, false, cond, if◌then◌else◌, Option, None, Some, length, Contains, refl, ap, ◌∙◌, arith}
use Rattle.std.specs.Prelude.{find}
use Rattle.std.specs.List.{IsDistinct}
use Rattle.std.specs.List.Sorted.{IsStrictlyIncreasing}
use Rattle.std.specs.Option.{option_map_or}
use Rattle.std.proofs.lemmas.List.Elements.{All-contains, All-weaker}
use Rattle.std.proofs.lemmas.Map.Keys.{IsDistinct-head, IsDistinct-tail}
use Rattle.mentions.specs.Listing.{ListsOnce}
use Rattle.mentions.proofs.Lists.{Contains-first, Contains-later, Contains-cases, Contains-mapped}
use Rattle.class_table.specs.declared.record.Place.{Place}
use Rattle.class_table.specs.declared.record.Place.TheVariants as place
use Rattle.class_table.specs.Slots.{Slots}
use Rattle.reference_index.specs.declared.fresh.Fresh.{Fresh}
use Rattle.reference_index.specs.Mentioned.{Mentioned, kept_of, names_at, same_place, IsIndexOf, DiffersAtMost}
use Rattle.reference_index.specs.Rows.{Fits}
use Rattle.reference_index.specs.Fresh.{places_of, kept_after, AreNamesAt, IsOnce, AllRise}
use Rattle.reference_index.proofs.Members.{fact-of, none-in_nothing}
use Rattle.reference_index.proofs.PlacesOnce.{place-is, place_equiv}

-- names that can be kept can be kept where there are no fewer rows
pub Fits-more : (x y : Mentioned) (p : Place) (names : List ℕ) → length x.methods ≤ length y.methods → length x.doits ≤ length y.doits → Fits x p names → Fits y p names
Fits-more x y (place.Method k) names l m h = λ some. let there = h some in omega arith
Fits-more x y (place.DoIt n) names l m h = λ some. let there = h some in omega arith

-- the search for the names of a place
abbrev pub found_at : List Fresh → Place → Option Fresh
found_at fresh p = find (λ (f : Fresh). same_place f.place p) fresh

-- the names of a place are found
pub record IsFound (fresh : List Fresh) (p : Place) : Type 0 where
  pub names : Fresh
  pub among : Contains fresh names
  pub at : names.place ≡ p
  pub is : found_at fresh p ≡ Some names

-- it is none of the places
pub record IsOther (fresh : List Fresh) (p : Place) : Type 0 where
  pub is : found_at fresh p ≡ None
  pub out : Contains (places_of fresh) p → ⊥

found-more : (f : Fresh) (fresh : List Fresh) (p : Place) (b : Bool) → same_place f.place p ≡ b → IsFound fresh p ⊎ IsOther fresh p → IsFound (f ∷ fresh) p ⊎ IsOther (f ∷ fresh) p
found-more f fresh p true e rest = inl (record { names = f; among = Contains-first f f fresh refl; at = place-is f.place p e; is = rw e refl })
found-more f fresh p false e (inl g) = inl (record { names = g.names; among = Contains-later f g.names fresh g.among; at = g.at; is = rw e g.is })
found-more f fresh p false e (inr g) =
    inr
    (record {
      is = rw e g.is;
      out =
          λ h. elim (Contains-cases f.place p (places_of fresh) h) [
            | inl same ↦ let t : same_place f.place p ≡ true = rw same (place_equiv.refl p) in absurd (cc)
            | inr there ↦ g.out there
          ];
    })

-- the search for the names of a place finds them, where it is one of the places
pub found : (fresh : List Fresh) (p : Place) → IsFound fresh p ⊎ IsOther fresh p
found [] p = inr (record { is = refl; out = λ h. none-in_nothing p h })
found (f ∷ fresh) p = found-more f fresh p (same_place f.place p) refl (found fresh p)

-- where no place is named twice the names of each are found
pub found-once : (fresh : List Fresh) (f : Fresh) → IsDistinct same_place (places_of fresh) → Contains fresh f → found_at fresh f.place ≡ Some f
found-once [] f d h = absurd (none-in_nothing f h)
found-once (g ∷ fresh) f d h =
    elim (Contains-cases g f fresh h) [
      | inl same ↦ rw (same, place_equiv.refl f.place) refl
      | inr there ↦
          let apart : same_place g.place f.place ≡ false =
          fact-of (λ q. same_place g.place q ≡ false) (places_of fresh) f.place
          (IsDistinct-head same_place g.place (places_of fresh) d)
          (Contains-mapped (λ (k : Fresh). k.place) fresh f there) in
          rw apart (found-once fresh f (IsDistinct-tail same_place g.place (places_of fresh) d) there)
    ]

-- the names that are kept of one of the places
pub kept-fresh : (x : Mentioned) (fresh : List Fresh) (f : Fresh) → IsDistinct same_place (places_of fresh) → Contains fresh f → kept_after x fresh f.place ≡ f.names
kept-fresh x fresh f d h = ap (λ o. option_map_or (λ (g : Fresh). g.names) o (kept_of x f.place)) (found-once fresh f d h)

pub kept-fresh_at : (x : Mentioned) (fresh : List Fresh) (f : Fresh) (p : Place) → IsDistinct same_place (places_of fresh) → Contains fresh f → f.place ≡ p → kept_after x fresh p ≡ f.names
kept-fresh_at x fresh f p d h e = rw (← e) (kept-fresh x fresh f d h)

-- the names at places rise
pub names-rise : (s : Slots) (fresh : List Fresh) → AreNamesAt s fresh → AllRise fresh
names-rise s fresh h = All-weaker (λ (f : Fresh). ListsOnce (names_at s f.place) f.names) (λ (f : Fresh). IsStrictlyIncreasing f.names) (λ f k. k.once) fresh h

-- one more place
pub places-push : (fresh : List Fresh) (f : Fresh) → places_of (fresh ++ f ∷ []) ≡ places_of fresh ++ f.place ∷ []
places-push [] f = refl
places-push (g ∷ fresh) f = ap (λ ps. g.place ∷ ps) (places-push fresh f)

last-alone : (b : Bool) (f : Fresh) (names : List ℕ) → (if b then f.names else names) ≡ option_map_or (λ (g : Fresh). g.names) (cond b (Some f) None) names
last-alone true f names = refl
last-alone false f names = refl

before-last : (b : Bool) (g : Fresh) (o u : Option Fresh) (names others : List ℕ) → option_map_or (λ (g : Fresh). g.names) o names ≡ option_map_or (λ (g : Fresh). g.names) u others → option_map_or (λ (g : Fresh). g.names) (cond b (Some g) o) names ≡ option_map_or (λ (g : Fresh). g.names) (cond b (Some g) u) others
before-last true g o u names others h = refl
before-last false g o u names others h = h

-- the names of the last place are kept before those of the others
pub kept_after-last : (x y : Mentioned) (fresh : List Fresh) (f : Fresh) (p : Place) → kept_of y p ≡ (if same_place f.place p then f.names else kept_of x p) → kept_after y fresh p ≡ kept_after x (fresh ++ f ∷ []) p
kept_after-last x y [] f p h = h ∙ last-alone (same_place f.place p) f (kept_of x p)
kept_after-last x y (g ∷ fresh) f p h =
    before-last (same_place g.place p) g (found_at fresh p) (found_at (fresh ++ f ∷ []) p) (kept_of y p) (kept_of x p) (kept_after-last x y fresh f p h)

-- the same names are kept after the fresh ones where the same were before
pub kept_after-same : (x y : Mentioned) (fresh : List Fresh) (p : Place) → kept_of y p ≡ kept_of x p → kept_after y fresh p ≡ kept_after x fresh p
kept_after-same x y fresh p h = ap (option_map_or (λ (g : Fresh). g.names) (found_at fresh p)) h

-- what is kept after the fresh names is the index of the image in which only code at these places mentions others
pub index-after : (s t : Slots) (x : Mentioned) (touched : List Place) (fresh : List Fresh) → IsIndexOf s x → DiffersAtMost s t touched → IsOnce touched (places_of fresh) → AreNamesAt t fresh → (p : Place) → ListsOnce (names_at t p) (kept_after x fresh p)
index-after s t x touched fresh index differs once names p =
    elim (found fresh p) [
      | inl f ↦ rw (f.is, ← f.at) (All-contains (λ (g : Fresh). ListsOnce (names_at t g.place) g.names) fresh f.names names f.among)
      | inr out ↦ rw (out.is, differs p (λ h. out.out (once.members p h))) (index p)
    ]
