-- Slots with one more method each, and orders with one more slot each.
use Rattle.std.proofs.Common.{◌≡◌, ℕ, suc, ◌<◌, ◌≤◌, false, List, [], ◌∷◌, ◌++◌, length, Some, slice_get, refl, sym, ap, subst, ◌∙◌, arith}
use Rattle.std.specs.Prelude.{insert}
use Rattle.std.specs.List.{list_any}
use Rattle.std.proofs.Math.Dec.{eqb}
use Rattle.std.proofs.lemmas.List.{append-nil}
use Rattle.std.proofs.lemmas.List.Edits.{insert_end}
use Rattle.class_table.specs.declared.record.MethodRec.{MethodRec}
use Rattle.class_table.specs.declared.record.Place.{Place}
use Rattle.class_table.specs.declared.record.Place.TheVariants as place
use Rattle.class_table.specs.declared.record.Slot.TheVariants as slot
use Rattle.class_table.specs.Order.{without}
use Rattle.class_table.specs.Slots.{Slots}
use Rattle.class_table.specs.Valid.{IsOrderly}
use Rattle.class_table.specs.Kept.{FitsMethod}
use Rattle.image_laws.proofs.Orders.{absent-without}
use Rattle.change_set.specs.declared.change.Change.{Change}
use Rattle.change_set.specs.declared.change.Change.TheVariants as change
use Rattle.wider_slots.specs.Wider.{one_method, widened}
use Rattle.method_plans.proofs.Leads.{Leads, leads-same, leads-in, leads-roomy, roomy-orderly}

-- one more item
pub length-end : {X : Type 0} (xs : List X) (x : X) → length (xs ++ x ∷ []) ≡ suc (length xs)
length-end [] x = refl
length-end (y ∷ ys) x = ap suc (length-end ys x)

-- the slots with one more method
abbrev pub and_method : Slots → MethodRec → Slots
and_method s m = record s { methods = s.methods ++ m ∷ [] }

pub roomy-is : (s : Slots) (m : MethodRec) → widened (one_method m) s ≡ and_method s m
roomy-is s m = λ j. record s { names = append-nil s.names j; classes = append-nil s.classes j; methods = s.methods ++ m ∷ [] }

pub orderly-more : (s : Slots) (m : MethodRec) → IsOrderly s → FitsMethod s m → IsOrderly (and_method s m)
orderly-more s m o fits = subst IsOrderly (roomy-is s m) (roomy-orderly s o m fits)

pub leads-more : (s : Slots) (cs : List Change) (ps : List Place) (t : Slots) (m : MethodRec) → IsOrderly s → Leads s cs ps t → FitsMethod t m → Leads (and_method s m) cs ps (and_method t m)
leads-more s cs ps t m o l fits =
    subst (λ (u : Slots). Leads u cs ps (and_method t m)) (roomy-is s m)
    (subst (λ (v : Slots). Leads (widened (one_method m) s) cs ps v) (roomy-is t m) (leads-roomy s cs ps t m o l fits))

-- a slot comes to the end of the order
pub leads-last : (s : Slots) (cs : List Change) (ps : List Place) (t : Slots) (k : ℕ) (m : MethodRec) → Leads s cs ps t → list_any (eqb k) t.method_order ≡ false → slice_get t.methods k ≡ Some m → FitsMethod t m
    → Leads s (cs ++ change.Live (slot.Method k) (Some (length t.method_order)) ∷ []) (ps ++ place.Method k ∷ []) (record t { method_order = t.method_order ++ k ∷ [] })
leads-last s cs ps t k m l absent there fits =
    let gone : without k t.method_order ≡ t.method_order = absent-without k t.method_order absent in
    let within : length t.method_order ≤ length (without k t.method_order) = omega (arith, ap (λ (ks : List ℕ). length ks) gone) in
    leads-same s (cs ++ change.Live (slot.Method k) (Some (length t.method_order)) ∷ []) (ps ++ place.Method k ∷ [])
    (record t { method_order = insert (without k t.method_order) (length t.method_order) k }) (record t { method_order = t.method_order ++ k ∷ [] })
    (ap (λ (ks : List ℕ). record t { method_order = ks }) (ap (λ (ks : List ℕ). insert ks (length t.method_order) k) gone ∙ insert_end t.method_order k))
    (leads-in s cs ps t k (length t.method_order) m l there fits within)
