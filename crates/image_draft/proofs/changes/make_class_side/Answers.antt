use Rattle.std.proofs.Common.{◌≡◌, ℕ, Bool, true, false, List, [], ◌∷◌, is_some, nat_eq, length, None, refl, sym, ap, subst, ◌∙◌, not}
use Rattle.std.specs.Prelude.{◌&&◌, ◌==◌}
use Rattle.std.specs.List.{AllByRecursion}
use Rattle.std.proofs.lemmas.Result.{IfOk-weaker}
use Rattle.image_model.specs.Image.{ClassOf}
use Rattle.image_model.specs.Means.{of_class_side}
use Rattle.file_model.specs.Causes.{Condition, when, first_cause, UnknownClass, KernelReplaced, VariableTwice}
use Rattle.file_model.specs.Hierarchy.{has_class, is_kernel_class, has_repeat, stands_twice}
use Rattle.file_model.specs.Applied.{with_class_side}
use Rattle.image_draft.specs.Early.{late_side_refusals}
use Rattle.image_draft.specs.Once.{KeepsSide}
use Rattle.image_draft.specs.Owners.{is_noted_for}
use Rattle.image_draft.proofs.Answered.{where_none}
use Rattle.image_draft.proofs.Owned.{of_either, side_owned, side_apart}
use Rattle.image_draft.proofs.PartsKept.{side_parts}
use Rattle.image_draft.proofs.Sound.{side_free, side_sound}
use Rattle.image_draft.proofs.changes.make_class_side.Goals as goal

-- the conditions that the classes before decide do not hold, and the others are left
passed_over : (a b : Bool) (rest : List Condition) → first_cause (when a UnknownClass ∷ when b KernelReplaced ∷ []) ≡ None → first_cause rest ≡ first_cause (when a UnknownClass ∷ when b KernelReplaced ∷ rest)
passed_over true b rest e = absurd (cc)
passed_over false true rest e = absurd (cc)
passed_over false false rest e = refl

judged : (cs new : List (ClassOf ℕ)) (n : ℕ) (names : List ℕ) → new ≡ with_class_side nat_eq n names cs
    → first_cause (when (not (has_class nat_eq cs n)) UnknownClass ∷ when (is_kernel_class nat_eq cs n && not (length names == 0)) KernelReplaced ∷ []) ≡ None
    → first_cause (late_side_refusals new n) ≡ first_cause (when (not (has_class nat_eq cs n)) UnknownClass ∷ when (is_kernel_class nat_eq cs n && not (length names == 0)) KernelReplaced ∷ when (stands_twice nat_eq (with_class_side nat_eq n names cs) of_class_side n) VariableTwice ∷ [])
judged cs new n names is none =
    ap (λ (ds : List (ClassOf ℕ)). first_cause (late_side_refusals ds n)) is
    ∙ passed_over (not (has_class nat_eq cs n)) (is_kernel_class nat_eq cs n && not (length names == 0)) (late_side_refusals (with_class_side nat_eq n names cs) n) none

pub late_side_refusal-requires-clause-parts : goal.late_side_refusal-requires-clause-parts
late_side_refusal-requires-clause-parts c =
    side_parts c.args.classes.now c.args.name c.args.names c.requires.sound c.put_class_side.new.classes c.put_class_side.ensures.changed

pub late_side_refusal-requires-clause-kept : goal.late_side_refusal-requires-clause-kept
late_side_refusal-requires-clause-kept c =
    let classes : List (ClassOf ℕ) = c.args.classes.now in
    of_either c.keeps_side-kept.result c.in_ok-apart.apart c.is_either.result c.is_either.ensures
    (λ same. side_free classes c.args.name c.args.names c.requires.sound c.put_class_side.new.classes c.put_class_side.ensures.changed (subst (λ (names : List ℕ). KeepsSide classes c.args.name names) c.as_slice.ensures (c.keeps_side-kept.ensures same)))
    (λ apart. side_apart classes c.put_class_side.new.classes c.args.name c.args.names c.requires.sound c.put_class_side.ensures.changed c.args.owners.now c.note_side.new.self c.requires.owned c.in_ok-apart.ensures.instance_kept c.in_ok-apart.ensures.class_side_kept c.in_ok-apart.ensures.superclasses_kept
    (subst (λ (names : List ℕ). AllByRecursion (λ m. is_noted_for c.note_side.new.self.class_side c.args.name m ≡ true) names) c.as_slice-2.ensures c.in_ok-apart.ensures.noted) (c.in_ok-apart.ensures.apart apart).0 (ap (has_repeat nat_eq) (sym c.as_slice-2.ensures) ∙ (c.in_ok-apart.ensures.apart apart).1) c.args.name)

pub returns-clause-cause : goal.returns-clause-cause
returns-clause-cause c =
    IfOk-weaker c.late_side_refusal.result _ _ (λ cause e. e ∙ judged c.args.classes.now c.put_class_side.new.classes c.args.name c.args.names c.put_class_side.ensures.changed c.requires.free) c.late_side_refusal.ensures.cause

pub returns-clause-some : goal.returns-clause-some
returns-clause-some c =
    IfOk-weaker c.late_side_refusal.result _ _ (λ cause e. e ∙ ap is_some (judged c.args.classes.now c.put_class_side.new.classes c.args.name c.args.names c.put_class_side.ensures.changed c.requires.free)) c.late_side_refusal.ensures.some

pub returns-clause-sound : goal.returns-clause-sound
returns-clause-sound c =
    where_none c.late_side_refusal.result _ c.late_side_refusal.ensures.some
    (side_sound c.args.classes.now c.args.name c.args.names c.requires.sound c.put_class_side.new.classes c.put_class_side.ensures.changed)

pub returns-clause-owned : goal.returns-clause-owned
returns-clause-owned c =
    IfOk-weaker c.late_side_refusal.result _ _
    (λ _ _. side_owned c.args.classes.now c.put_class_side.new.classes c.args.name c.args.names c.requires.sound c.put_class_side.ensures.changed c.args.owners.now c.note_side.new.self c.requires.owned c.in_ok-apart.ensures.instance_kept c.in_ok-apart.ensures.class_side_kept c.in_ok-apart.ensures.superclasses_kept
    (subst (λ (names : List ℕ). AllByRecursion (λ m. is_noted_for c.note_side.new.self.class_side c.args.name m ≡ true) names) c.as_slice-2.ensures c.in_ok-apart.ensures.noted))
    c.late_side_refusal.ensures.some
