-- The uses that are kept after the fresh ones.
use Rattle.std.proofs.Common.{◌≡◌, ◌⊎◌, inl, inr, List, [], ◌∷◌, ◌++◌, Bool, true, false, cond, if◌then◌else◌, Option, None, Some, Contains, refl, ◌∙◌, sym, ap}
use Rattle.std.specs.Prelude.{find}
use Rattle.std.specs.Option.{option_map_or}
use Rattle.std.proofs.lemmas.List.Elements.{All-contains}
use Rattle.mentions.proofs.Lists.{Contains-first, Contains-later, Contains-cases}
use Rattle.class_table.specs.declared.record.Place.{Place}
use Rattle.class_table.specs.Slots.{Slots}
use Rattle.reference_index.specs.Mentioned.{same_place}
use Rattle.reference_index.proofs.Members.{none-in_nothing}
use Rattle.reference_index.proofs.PlacesOnce.{place-is, place_equiv}
use Rattle.use_index.specs.declared.fresh.FreshUses.{FreshUses}
use Rattle.use_index.specs.declared.uses.UseAt.{UseAt}
use Rattle.use_index.specs.Fresh.{places_of, used_after, AreUsesAt}
use Rattle.use_index.specs.Index.{AreUsesOf, uses_at}
use Rattle.use_index.specs.Rows.{Used, used_of}

-- the search for the uses of a place
abbrev pub found_at : List FreshUses → Place → Option FreshUses
found_at fresh p = find (λ (f : FreshUses). same_place f.place p) fresh

-- the uses of a place are found
pub record IsFound (fresh : List FreshUses) (p : Place) : Type 0 where
  pub uses : FreshUses
  pub among : Contains fresh uses
  pub at : uses.place ≡ p
  pub is : found_at fresh p ≡ Some uses

-- it is none of the places
pub record IsOther (fresh : List FreshUses) (p : Place) : Type 0 where
  pub is : found_at fresh p ≡ None
  pub out : Contains (places_of fresh) p → ⊥

found-more : (f : FreshUses) (fresh : List FreshUses) (p : Place) (b : Bool) → same_place f.place p ≡ b → IsFound fresh p ⊎ IsOther fresh p → IsFound (f ∷ fresh) p ⊎ IsOther (f ∷ fresh) p
found-more f fresh p true e rest = inl (record { uses = f; among = Contains-first f f fresh refl; at = place-is f.place p e; is = rw e refl })
found-more f fresh p false e (inl g) = inl (record { uses = g.uses; among = Contains-later f g.uses fresh g.among; at = g.at; is = rw e g.is })
found-more f fresh p false e (inr g) =
    inr
    (record {
      is = rw e g.is;
      out =
          λ h. elim (Contains-cases f.place p (places_of fresh) h) [
            | inl same ↦ let t : same_place f.place p ≡ true = rw same (place_equiv.refl p) in absurd (cc)
            | inr there ↦ g.out there
          ];
    })

-- the search for the uses of a place finds them, where it is one of the places
pub found : (fresh : List FreshUses) (p : Place) → IsFound fresh p ⊎ IsOther fresh p
found [] p = inr (record { is = refl; out = λ h. none-in_nothing p h })
found (f ∷ fresh) p = found-more f fresh p (same_place f.place p) refl (found fresh p)

last-alone : (b : Bool) (f : FreshUses) (uses : List UseAt) → (if b then f.uses else uses) ≡ option_map_or (λ (g : FreshUses). g.uses) (cond b (Some f) None) uses
last-alone true f uses = refl
last-alone false f uses = refl

before-last : (b : Bool) (g : FreshUses) (o u : Option FreshUses) (uses others : List UseAt) → option_map_or (λ (g : FreshUses). g.uses) o uses ≡ option_map_or (λ (g : FreshUses). g.uses) u others → option_map_or (λ (g : FreshUses). g.uses) (cond b (Some g) o) uses ≡ option_map_or (λ (g : FreshUses). g.uses) (cond b (Some g) u) others
before-last true g o u uses others h = refl
before-last false g o u uses others h = h

-- the uses of the last place are kept before those of the others
pub used_after-last : (x y : Used) (fresh : List FreshUses) (f : FreshUses) (p : Place) → used_of y p ≡ (if same_place f.place p then f.uses else used_of x p) → used_after y fresh p ≡ used_after x (fresh ++ f ∷ []) p
used_after-last x y [] f p h = h ∙ last-alone (same_place f.place p) f (used_of x p)
used_after-last x y (g ∷ fresh) f p h =
    before-last (same_place g.place p) g (found_at fresh p) (found_at (fresh ++ f ∷ []) p) (used_of y p) (used_of x p) (used_after-last x y fresh f p h)

-- the same uses are kept after the fresh ones where the same were before
pub used_after-same : (x y : Used) (fresh : List FreshUses) (p : Place) → used_of y p ≡ used_of x p → used_after y fresh p ≡ used_after x fresh p
used_after-same x y fresh p h = ap (option_map_or (λ (g : FreshUses). g.uses) (found_at fresh p)) h

-- what is kept after the fresh uses are those of the image in which only code at these places has others
pub uses-after : (s t : Slots) (x : Used) (touched : List Place) (fresh : List FreshUses) → AreUsesOf s x → ((p : Place) → (Contains touched p → ⊥) → uses_at t p ≡ uses_at s p)
    → places_of fresh ≡ touched → AreUsesAt t fresh → (p : Place) → used_after x fresh p ≡ uses_at t p
uses-after s t x touched fresh are differs places uses p =
    elim (found fresh p) [
      | inl f ↦ rw (f.is, ← f.at) (sym (All-contains (λ (g : FreshUses). uses_at t g.place ≡ g.uses) fresh f.uses uses f.among))
      | inr out ↦ rw out.is (are p ∙ sym (differs p (λ h. out.out (rw places h))))
    ]
