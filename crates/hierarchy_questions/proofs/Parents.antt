-- The superclass of the class of a name.
use Rattle.std.proofs.Common.{◌≡◌, ℕ, Option, None, Some, option_map, refl, ap, ◌∙◌}
use Rattle.std.specs.Prelude.{nat_eq}
use Rattle.std.specs.Option.{option_and_then}
use Rattle.image_model.specs.Image.{ClassOf}
use Rattle.class_table.specs.declared.record.ClassRec.{ClassRec}
use Rattle.class_table.specs.Slots.{Slots}
use Rattle.class_table.specs.View.{class_of, live_at, number_image}
use Rattle.class_table.specs.Finding.{named_in}
use Rattle.command_model.specs.Hierarchy.{superclass_name}
use Rattle.class_questions.proofs.ChainLaws.{named-record}
use Rattle.hierarchy_questions.specs.Parents.{parent_in}

-- it is read in the slot that is found for the name
pub named-parent : (s : Slots) (c : ℕ) → option_and_then (parent_in s) (named_in s.classes s.class_order c) ≡ superclass_name nat_eq (number_image s) c
named-parent s c = by (named_in s.classes s.class_order c) ∙ ap (option_and_then (λ (e : ClassOf ℕ). e.superclass)) (named-record s c)
  where
    at : (o : Option ClassRec) → option_and_then (λ (d : ClassRec). (class_of s.classes d).superclass) o ≡ option_and_then (λ (e : ClassOf ℕ). e.superclass) (option_map (class_of s.classes) o)
    at None = refl
    at (Some d) = refl

    by : (o : Option ℕ) → option_and_then (parent_in s) o ≡ option_and_then (λ (e : ClassOf ℕ). e.superclass) (option_map (class_of s.classes) (option_and_then (live_at s.classes s.class_order) o))
    by None = refl
    by (Some k) = at (live_at s.classes s.class_order k)
