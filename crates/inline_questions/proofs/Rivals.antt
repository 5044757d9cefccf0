-- Classes below a class that have a method of their own.
use Rattle.std.proofs.Common.{◌≡◌, ℕ, Bool, true, false, not, ◌&&◌, Option, None, Some, is_some, is_none, refl, sym, ap, ◌∙◌}
use Rattle.std.specs.Prelude.{nat_eq}
use Rattle.image_model.specs.Lookup.{own_method}
use Rattle.rename_model.specs.Conditions.{stands_below}
use Rattle.class_table.specs.declared.record.ClassRec.{ClassRec}
use Rattle.class_table.specs.Slots.{Slots}
use Rattle.class_table.specs.View.{class_of, live_at, number_image}
use Rattle.class_questions.specs.LiveClasses.{is_live_that}
use Rattle.commands.specs.declared.command.MethodName.{MethodName}
use Rattle.hierarchy_questions.proofs.NamesThat.{test-told}
use Rattle.inline_questions.specs.Targets.{is_rival}

some-none : {X : Type 0} (o : Option X) → is_some o ≡ not (is_none o)
some-none None = refl
some-none (Some x) = refl

and-false : (b : Bool) → (b && false) ≡ false
and-false true = refl
and-false false = refl

module _ (s : Slots) (m : MethodName) (k : ℕ) (c : ClassRec) (told : live_at s.classes s.class_order k ≡ Some c) where
  abbrev below : Bool
  below = stands_below nat_eq (number_image s).classes m.class (class_of s.classes c)

  -- what is asked of the class in a slot
  asked : (same none : Bool) → nat_eq m.class c.name ≡ same → is_none (own_method nat_eq (number_image s).methods c.name m.meta m.selector) ≡ none
      → is_live_that (is_rival s m) s k ≡ (below && (not same && not none))
  asked same none e n =
      test-told (is_rival s m) s k c told
      ∙ (λ i. below && (not (e i) && (some-none (own_method nat_eq (number_image s).methods c.name m.meta m.selector) ∙ ap not n) i))

  -- the class itself is none; a class without a method of its own is none; any other one is, if it stands below
  pub rival-itself : nat_eq m.class c.name ≡ true → false ≡ is_live_that (is_rival s m) s k
  rival-itself e = sym (asked true (is_none (own_method nat_eq (number_image s).methods c.name m.meta m.selector)) e refl ∙ and-false below)

  pub rival-without : nat_eq m.class c.name ≡ false → is_none (own_method nat_eq (number_image s).methods c.name m.meta m.selector) ≡ true → false ≡ is_live_that (is_rival s m) s k
  rival-without e n = sym (asked false true e n ∙ and-false below)

  pub rival-below : (b : Bool) → b ≡ below → nat_eq m.class c.name ≡ false → is_none (own_method nat_eq (number_image s).methods c.name m.meta m.selector) ≡ false → b ≡ is_live_that (is_rival s m) s k
  rival-below b h e n = sym (asked false false e n ∙ by below ∙ sym h)
    where
      by : (b : Bool) → (b && true) ≡ b
      by true = refl
      by false = refl
