-- Classes that are found by name among the slots of an image.
use Rattle.std.proofs.Common.{◌≡◌, ℕ, true, false, List, is_some, Option, Some, None, option_map, slice_get, refl, sym, ap, ◌∙◌, true≢false}
use Rattle.std.specs.Prelude.{nat_eq}
use Rattle.std.specs.Option.{ForSome, option_and_then, option_map_or}
use Rattle.std.specs.HashMap.{get}
use Rattle.file_model.specs.Hierarchy.{has_class}
use Rattle.class_table.specs.declared.record.ClassRec.{ClassRec}
use Rattle.class_table.specs.Slots.{Slots}
use Rattle.class_table.specs.View.{class_name, class_of, class_at, number_image}
use Rattle.class_table.specs.Valid.{IsLive, IsOrderly}
use Rattle.class_table.specs.Finding.{is_named, named_in}
use Rattle.class_table.proofs.Live.{eqb-equal, find-passes, there}
use Rattle.class_table.proofs.Found.{class_named-live, class_named-named_in}
use Rattle.image_building.specs.Built.{ClassTable, IsBuilt}

-- a slot that is found is live and holds a class of the name
pub found_live : (classes : List ClassRec) (order : List ℕ) (n k : ℕ) → named_in classes order n ≡ Some k → IsLive order k × (class_name classes k ≡ Some n)
found_live classes order n k e = let passes = find-passes (is_named classes n) order k e in (passes.1, by (class_name classes k) refl passes.0)
  where
    by : (o : Option ℕ) → class_name classes k ≡ o → option_map_or (nat_eq n) o false ≡ true → class_name classes k ≡ Some n
    by None q h = absurd (true≢false (sym h))
    by (Some m) q h = q ∙ ap Some (sym (eqb-equal n m h))

-- a class that is there is found
pub there_found : (s : Slots) (n : ℕ) → has_class nat_eq (number_image s).classes n ≡ true → (k : ℕ) × (named_in s.classes s.class_order n ≡ Some k)
there_found s n h = by (named_in s.classes s.class_order n) refl (sym (ap is_some (class_named-named_in s n)) ∙ h)
  where
    by : (o : Option ℕ) → named_in s.classes s.class_order n ≡ o → is_some (option_and_then (class_at s) o) ≡ true → (k : ℕ) × (named_in s.classes s.class_order n ≡ Some k)
    by None e q = absurd (true≢false (sym q))
    by (Some k) e q = (k, e)

-- no class is found where none is there
pub absent_unfound : (s : Slots) (n : ℕ) → has_class nat_eq (number_image s).classes n ≡ false → named_in s.classes s.class_order n ≡ None
absent_unfound s n h = by (named_in s.classes s.class_order n) refl (sym (ap is_some (class_named-named_in s n)) ∙ h)
  where
    held : (k : ℕ) (o : Option ClassRec) → slice_get s.classes k ≡ o → option_map (λ (c : ClassRec). c.name) o ≡ Some n → is_some (option_map (class_of s.classes) o) ≡ false → ⊥
    held k None e q r = cc
    held k (Some c) e q r = true≢false r

    by : (o : Option ℕ) → named_in s.classes s.class_order n ≡ o → is_some (option_and_then (class_at s) o) ≡ false → named_in s.classes s.class_order n ≡ None
    by None e q = e
    by (Some k) e q = absurd (held k (slice_get s.classes k) refl (found_live s.classes s.class_order n k e).1 q)

-- a name that no class has is that of no live slot
pub absent_live : (s : Slots) (o : IsOrderly s) (n j : ℕ) → has_class nat_eq (number_image s).classes n ≡ false → IsLive s.class_order j → class_name s.classes j ≡ Some n → ⊥
absent_live s o n j h l e =
    let at = there s.classes j (o.class_order.below j l) in
    let same : at.0.name ≡ n = some (sym (ap (option_map (λ (c : ClassRec). c.name)) at.1) ∙ e) in
    true≢false (sym (ap is_some (class_named-live s o j at.0 l at.1)) ∙ ap (has_class nat_eq (number_image s).classes) same ∙ h)
  where
    some : {a b : ℕ} → Some a ≡ Some b → a ≡ b
    some q = cc

module _ (table : ClassTable) (s : Slots) (b : IsBuilt table s) where
  -- a table has the class that is there
  pub table_has : (n : ℕ) → has_class nat_eq (number_image s).classes n ≡ true → is_some (get nat_eq table n) ≡ true
  table_has n h = ap is_some (b.by_name n ∙ (there_found s n h).1)

  -- the slot that a table gives is live and holds the class of the name
  pub table_gives : (n k : ℕ) → get nat_eq table n ≡ Some k → IsLive s.class_order k × (class_name s.classes k ≡ Some n)
  table_gives n k e = found_live s.classes s.class_order n k (sym (b.by_name n) ∙ e)

  -- the name of the superclass that a table gives
  pub superclass_given : (o : Option ℕ) → ForSome o (λ n. has_class nat_eq (number_image s).classes n ≡ true) → option_and_then (class_name s.classes) (option_and_then (get nat_eq table) o) ≡ o
  superclass_given None h = refl
  superclass_given (Some n) h = let at = there_found s n (h n refl) in ap (option_and_then (class_name s.classes)) (b.by_name n ∙ at.1) ∙ (found_live s.classes s.class_order n at.0 at.1).1

  pub superclass_live : (o : Option ℕ) (j : ℕ) → option_and_then (get nat_eq table) o ≡ Some j → IsLive s.class_order j
  superclass_live None j e = absurd (cc)
  superclass_live (Some n) j e = (table_gives n j e).0
