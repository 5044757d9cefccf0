-- Live classes and their names.
use Rattle.std.proofs.Common.{◌≡◌, ◌≢◌, ◌⊎◌, inl, inr, ℕ, true, false, Some, option_map, slice_get, sym, ap, ◌∙◌}
use Rattle.std.specs.Prelude.{nat_eq}
use Rattle.std.specs.Option.{option_eq}
use Rattle.std.proofs.Math.Dec.{eqb}
use Rattle.std.proofs.lemmas.Bool.Decides.{eqb_tells}
use Rattle.class_table.specs.declared.record.ClassRec.{ClassRec}
use Rattle.class_table.specs.Slots.{Slots}
use Rattle.class_table.specs.View.{class_name}
use Rattle.class_table.specs.Valid.{IsLive, IsOrderly}
use Rattle.class_table.proofs.Live.{there}

-- two live classes have one name where they are one
pub classes-agree : (s : Slots) → IsOrderly s → (a b : ℕ) (c d : ClassRec) → IsLive s.class_order a → slice_get s.classes a ≡ Some c → IsLive s.class_order b → slice_get s.classes b ≡ Some d → nat_eq c.name d.name ≡ nat_eq a b
classes-agree s orderly a b c d la ea lb eb = by (eqb_tells c.name d.name) (eqb_tells a b)
  where
    named : (k : ℕ) (x : ClassRec) → slice_get s.classes k ≡ Some x → class_name s.classes k ≡ Some x.name
    named k x e = ap (option_map (λ (y : ClassRec). y.name)) e

    by : ((eqb c.name d.name ≡ true) × (c.name ≡ d.name)) ⊎ ((eqb c.name d.name ≡ false) × (c.name ≢ d.name)) → ((eqb a b ≡ true) × (a ≡ b)) ⊎ ((eqb a b ≡ false) × (a ≢ b)) → nat_eq c.name d.name ≡ nat_eq a b
    by (inl m) (inl n) = m.0 ∙ sym n.0
    by (inl m) (inr n) = absurd (n.1 (orderly.class_names_distinct a b c.name la lb (named a c ea) (named b d eb ∙ ap Some (sym m.1))))
    by (inr m) (inl n) = let same : Some c ≡ Some d = sym ea ∙ ap (slice_get s.classes) n.1 ∙ eb in let is : c ≡ d = cc in absurd (m.1 (ap (λ (x : ClassRec). x.name) is))
    by (inr m) (inr n) = m.0 ∙ sym n.0

-- the same, of the names that there may be
pub same_classes : (s : Slots) → IsOrderly s → (a b : ℕ) → IsLive s.class_order a → IsLive s.class_order b → option_eq nat_eq (class_name s.classes a) (class_name s.classes b) ≡ nat_eq a b
same_classes s orderly a b la lb =
    let c = there s.classes a (orderly.class_order.below a la) in
    let d = there s.classes b (orderly.class_order.below b lb) in
    (λ i. option_eq nat_eq (ap (option_map (λ (x : ClassRec). x.name)) c.1 i) (ap (option_map (λ (x : ClassRec). x.name)) d.1 i)) ∙ classes-agree s orderly a b c.0 d.0 la c.1 lb d.1
