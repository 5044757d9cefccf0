-- The slot that is made for a class, and the plan over the slots with it.
use Rattle.std.proofs.Common.{◌≡◌, ℕ, ◌<◌, ◌||◌, Bool, true, false, List, [], length, Option, None, Some, Result, Ok, Err, option_map, refl, sym, ap, subst, ◌∙◌, arith, true≢false}
use Rattle.std.specs.Prelude.{nat_eq, IfOk}
use Rattle.std.specs.List.{list_any}
use Rattle.std.proofs.Math.Dec.{eqb}
use Rattle.file_laws.proofs.Repeats.{none_pass}
use Rattle.image_model.specs.Image.{ClassOf, DoItOf}
use Rattle.image_model.specs.ImageNames.{OptionNames}
use Rattle.rename_model.specs.Conditions.{is_name_unused}
use Rattle.rename_model.specs.NamesThere.{is_named_by_class, is_named_in_method, is_named_in, is_named}
use Rattle.class_table.specs.declared.record.ClassRec.{ClassRec}
use Rattle.class_table.specs.Finding.{named_in}
use Rattle.class_table.specs.Slots.{Slots}
use Rattle.class_table.specs.Valid.{IsLive, IsOrderly}
use Rattle.class_table.specs.View.{class_name, class_of, number_image}
use Rattle.class_table.proofs.Live.{eqb-refl, live-fact, there}
use Rattle.image_laws.proofs.Middles.{get-middle}
use Rattle.image_laws.proofs.Orders.{or_false}
use Rattle.change_set.specs.declared.change.Change.{Change}
use Rattle.wider_slots.specs.Closed.{IsClosed}
use Rattle.wider_slots.specs.Wider.{one_class, widened, Wider}
use Rattle.wider_slots.proofs.Append.{further}
use Rattle.wider_slots.proofs.Fitting.{class-more}
use Rattle.wider_slots.proofs.Images.{name-still}
use Rattle.wider_slots.proofs.Opened.{more-closed}
use Rattle.wider_slots.proofs.Orderly.{orderly-wider}
use Rattle.command_model.specs.Commands.{AddClass}
use Rattle.command_model.specs.Hierarchy.{is_class}
use Rattle.command_model.specs.Judged.{first_false}
use Rattle.command_model.proofs.Held.{all-hold}
use Rattle.command_numbers.specs.CommandNames.{CommandNames}
use Rattle.commands.specs.Views.{asked_by}
use Rattle.class_questions.proofs.ChainLaws.{named-slot}
use Rattle.class_table.specs.declared.record.Place.{Place}
use Rattle.plans.specs.declared.plan.Plan.{Plan}
use Rattle.plans.specs.Plan.{IsPlan}
use Rattle.class_plans.specs.Added.{new_record, class_comes}
use Rattle.class_plans.proofs.Gone.{found-there, not-passes}
use Rattle.class_plans.proofs.Coming.{IsComing, come-plan}

-- the slots with the new one
abbrev pub with_slot : Slots → (d p : ℕ) → Slots
with_slot s d p = widened (one_class (new_record s d p)) s

-- the new slot names what is there
pub slot-wider : (s : Slots) → IsClosed s → (d p : ℕ) → d < length s.names → Wider s (with_slot s d p)
slot-wider s closed d p known = record {
  more = one_class (new_record s d p);
  state = refl;
  closed = closed;
  still = more-closed (one_class (new_record s d p)) s closed (class-more s (new_record s d p) closed (record {
    name = known;
    superclass = above (named_in s.classes s.class_order p) refl;
    instance = tt;
    shared = tt;
    class_side = tt;
  }));
}
  where
    above : (o : Option ℕ) → named_in s.classes s.class_order p ≡ o → OptionNames (λ k. k < length s.classes) o
    above None e = tt
    above (Some k) e = closed.orders.classes.below k (named-slot s.classes s.class_order p k e).0

-- where a name is unused, no live class has it
no-class-named : (s : Slots) → IsOrderly s → (d : ℕ) → is_name_unused nat_eq (number_image s) d ≡ true → (j : ℕ) → IsLive s.class_order j → class_name s.classes j ≡ Some d → ⊥
no-class-named s o d unused j l e =
    let i = number_image s in
    let none = or_false (list_any (is_named_by_class nat_eq d) i.classes) (list_any (is_named_in_method nat_eq d) i.methods || list_any (λ (x : DoItOf ℕ). is_named_in nat_eq d x.body) i.doits) (not-passes (is_named nat_eq i d) unused) in
    let at = there s.classes j (o.class_order.below j l) in
    let fails = live-fact (λ (c : ClassOf ℕ). is_named_by_class nat_eq d c ≡ false) (class_of s.classes) s.classes s.class_order j at.0 (none_pass (is_named_by_class nat_eq d) i.classes none.0) l at.1 in
    let apart = or_false (nat_eq d (at.0).name) (list_any (nat_eq d) (at.0).instance || (list_any (nat_eq d) (at.0).shared || list_any (nat_eq d) (at.0).class_side)) fails in
    let given : Some (at.0).name ≡ Some d = sym (ap (option_map (λ (c : ClassRec). c.name)) at.1) ∙ e in
    let same : (at.0).name ≡ d = cc in
    true≢false (sym (ap (eqb d) same ∙ eqb-refl d) ∙ apart.0)

module _ (s : Slots) (closed : IsClosed s) (o : IsOrderly s) (d p : ℕ) (under : List ℕ) (known : CommandNames (λ n. n < length s.names) (AddClass d p under))
    (holds : first_false (asked_by s.names) (number_image s) (AddClass d p under) ≡ None) where
  parent-there : is_class nat_eq (number_image s) p ≡ true
  parent-there = (all-hold (asked_by s.names) (number_image s) (AddClass d p under) holds).parent_there

  unused : is_name_unused nat_eq (number_image s) d ≡ true
  unused = (all-hold (asked_by s.names) (number_image s) (AddClass d p under) holds).unused_name

  coming : IsComing (with_slot s d p) d p (length s.classes)
  coming = by (named_in s.classes s.class_order p) refl
    where
      dead : (b : Bool) → list_any (eqb (length s.classes)) s.class_order ≡ b → b ≡ false
      dead true e = absurd (let less : length s.classes < length s.classes = o.class_order.below (length s.classes) e in omega (arith, less))
      dead false e = refl

      by : (x : Option ℕ) → named_in s.classes s.class_order p ≡ x → IsComing (with_slot s d p) d p (length s.classes)
      by None e = absurd (found-there s p parent-there e)
      by (Some k) e =
          let slot = named-slot s.classes s.class_order p k e in
          record {
            above = k;
            above_live = slot.0;
            above_named = name-still s closed (one_class (new_record s d p)) k (o.class_order.below k slot.0) ∙ slot.1;
            held = get-middle s.classes (new_record s d p) [] ∙ (λ i. Some (record (new_record s d p) { superclass = e i }));
            dead = dead (list_any (eqb (length s.classes)) s.class_order) refl;
            known = further s.names [] d known.0;
            new = λ j l f. no-class-named s o d unused j l (sym (name-still s closed (one_class (new_record s d p)) j (o.class_order.below j l)) ∙ f);
          }

  -- the plan over the slots with the new one
  pub new-plan : {E : Type 0} (t : Slots) (n : ℕ) (r : Result Plan E) → t ≡ with_slot s d p → n ≡ length s.classes → IfOk r (λ found. found.changes ≡ class_comes t under n) → IfOk r (λ found. found.touched.items ≡ [])
      → IfOk r (λ found. IsPlan t (AddClass d p under) found.changes found.touched.items)
  new-plan t n (Err e) a b c f = tt
  new-plan t n (Ok found) a b c f =
      subst (λ (cs : List Change). IsPlan t (AddClass d p under) cs found.touched.items) (sym c) (
      subst (λ (ps : List Place). IsPlan t (AddClass d p under) (class_comes t under n) ps) (sym f) (
      subst (λ (m : ℕ). IsPlan t (AddClass d p under) (class_comes t under m) []) (sym b) (
      subst (λ (z : Slots). IsPlan z (AddClass d p under) (class_comes z under (length s.classes)) []) (sym a) (
      come-plan (with_slot s d p) (orderly-wider s (with_slot s d p) (slot-wider s closed d p known.0) o) d p (length s.classes) under coming))))
