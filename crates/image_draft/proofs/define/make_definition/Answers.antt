use Rattle.std.proofs.Common.{ℕ, List, is_some, nat_eq, refl, sym, ap, ◌∙◌}
use Rattle.std.specs.Prelude.{◌&&◌, ◌||◌}
use Rattle.std.proofs.lemmas.Result.{IfOk-weaker}
use Rattle.image_model.specs.Image.{ClassOf}
use Rattle.image_model.specs.Means.{of_instance, of_class_side}
use Rattle.file_model.specs.Refusals.{is_one_class_too_many}
use Rattle.image_draft.proofs.Alone.{and_true, instance_alone, class_side_stays}
use Rattle.image_draft.proofs.Answered.{where_none}
use Rattle.image_draft.proofs.Childless.{childless_instance, childless_class_side}
use Rattle.image_draft.proofs.Ordered.{judged}
use Rattle.image_draft.proofs.Owned.{of_either, noted_still, defined_owned, instance_apart, class_side_apart}
use Rattle.image_draft.proofs.PartsKept.{defined_parts}
use Rattle.image_draft.proofs.Sound.{kept_free, defined_sound}
use Rattle.image_draft.proofs.define.make_definition.Goals as goal

pub late_refusal-requires-clause-instance : goal.late_refusal-requires-clause-instance
late_refusal-requires-clause-instance c =
    let classes : List (ClassOf ℕ) = c.args.classes.now in
    of_either c.or.result.instance c.kept_alone.result.instance c.or-kept.result.instance c.or-kept.ensures.instance
    (of_either c.kept_chains-kept.result.instance c.in_ok-noted.noted.apart.instance c.or.result.instance c.or.ensures.instance
    (λ same. kept_free classes c.put_in_order.new.classes c.args.definition c.args.kernel c.name_of-name.result of_instance c.requires.sound.order c.requires.sound.instance c.requires.free c.in_ok-put_in_order.ensures.changed c.name_of-name.ensures (c.kept_chains-kept.ensures.instance same))
    (λ apart. instance_apart classes c.put_in_order.new.classes c.args.definition c.args.kernel c.requires.sound c.requires.free c.in_ok-put_in_order.ensures.changed c.args.owners.now c.note_definition.new.self c.requires.owned c.in_ok-noted.ensures.instance_kept c.in_ok-noted.ensures.class_side_kept c.in_ok-noted.ensures.superclasses_kept c.in_ok-noted.ensures.noted c.in_ok-noted.ensures.superclass
    (c.in_ok-noted.ensures.instance apart).0 (c.in_ok-noted.ensures.instance apart).1 c.name_of-name.result))
    (λ both. let parts = and_true (c.args.standing.stays || c.args.standing.childless) c.in_ok-noted.noted.alone (sym c.kept_alone.ensures.instance ∙ both) in
    let unshared = c.in_ok-noted.ensures.alone parts.1 in
    of_either c.args.standing.stays c.args.standing.childless (c.args.standing.stays || c.args.standing.childless) refl
    (λ stays. instance_alone classes c.put_in_order.new.classes c.args.definition c.args.kernel c.name_of-name.result c.requires.sound c.requires.free c.in_ok-put_in_order.ensures.changed c.name_of-name.ensures (c.requires.stays stays) c.args.owners.now.instance c.note_definition.new.self.instance
    c.in_ok-noted.ensures.instance_kept c.requires.owned.instance c.in_ok-noted.ensures.noted unshared.0 unshared.1)
    (λ childless. childless_instance classes c.args.definition c.requires.free (c.requires.childless childless) c.put_in_order.new.classes c.args.kernel c.name_of-name.result c.requires.sound c.in_ok-put_in_order.ensures.changed c.name_of-name.ensures c.note_definition.new.self.instance
    (noted_still c.args.owners.now.instance c.note_definition.new.self.instance c.in_ok-noted.ensures.instance_kept of_instance classes c.requires.owned.instance) c.in_ok-noted.ensures.noted unshared.0 unshared.1)
    parts.0)

pub late_refusal-requires-clause-instance_parts : goal.late_refusal-requires-clause-instance_parts
late_refusal-requires-clause-instance_parts c =
    let classes : List (ClassOf ℕ) = c.args.classes.now in
    defined_parts classes c.put_in_order.new.classes c.args.definition c.args.kernel c.name_of-name.result of_instance c.requires.sound.order c.requires.sound.instance c.requires.free c.in_ok-put_in_order.ensures.changed c.name_of-name.ensures

pub late_refusal-requires-clause-class_side_parts : goal.late_refusal-requires-clause-class_side_parts
late_refusal-requires-clause-class_side_parts c =
    let classes : List (ClassOf ℕ) = c.args.classes.now in
    defined_parts classes c.put_in_order.new.classes c.args.definition c.args.kernel c.name_of-name.result of_class_side c.requires.sound.order c.requires.sound.class_side c.requires.free c.in_ok-put_in_order.ensures.changed c.name_of-name.ensures

pub late_refusal-requires-clause-class_side : goal.late_refusal-requires-clause-class_side
late_refusal-requires-clause-class_side c =
    let classes : List (ClassOf ℕ) = c.args.classes.now in
    of_either c.or.result.class_side c.kept_alone.result.class_side c.or-kept.result.class_side c.or-kept.ensures.class_side
    (of_either c.kept_chains-kept.result.class_side c.in_ok-noted.noted.apart.class_side c.or.result.class_side c.or.ensures.class_side
    (λ same. kept_free classes c.put_in_order.new.classes c.args.definition c.args.kernel c.name_of-name.result of_class_side c.requires.sound.order c.requires.sound.class_side c.requires.free c.in_ok-put_in_order.ensures.changed c.name_of-name.ensures (c.kept_chains-kept.ensures.class_side same))
    (λ apart. class_side_apart classes c.put_in_order.new.classes c.args.definition c.args.kernel c.requires.sound c.requires.free c.in_ok-put_in_order.ensures.changed c.args.owners.now c.note_definition.new.self c.requires.owned c.in_ok-noted.ensures.instance_kept c.in_ok-noted.ensures.class_side_kept c.in_ok-noted.ensures.superclasses_kept c.in_ok-noted.ensures.noted c.in_ok-noted.ensures.superclass
    (c.in_ok-noted.ensures.class_side apart) c.name_of-name.result))
    (λ either. of_either c.args.standing.stays (c.args.standing.childless && c.args.standing.plain) c.kept_alone.result.class_side c.kept_alone.ensures.class_side
    (λ stays. class_side_stays classes c.put_in_order.new.classes c.args.definition c.args.kernel c.name_of-name.result c.requires.sound c.requires.free c.in_ok-put_in_order.ensures.changed c.name_of-name.ensures (c.requires.stays stays) c.args.owners.now.class_side c.requires.owned.class_side)
    (λ both. let parts = and_true c.args.standing.childless c.args.standing.plain both in
    childless_class_side classes c.args.definition c.requires.free (c.requires.childless parts.0) c.put_in_order.new.classes c.args.kernel c.name_of-name.result c.requires.sound c.in_ok-put_in_order.ensures.changed c.name_of-name.ensures c.args.owners.now.class_side c.requires.owned.class_side
    (c.requires.plain parts.1))
    either)

pub returns-clause-cause : goal.returns-clause-cause
returns-clause-cause c =
    IfOk-weaker c.late_refusal.result _ _ (λ cause e. e ∙ judged c.args.classes.now c.put_in_order.new.classes c.args.definition c.args.kernel c.name_of-name.result c.in_ok-repeats.repeats c.is_one_class_too_many-too_many.result c.requires.sound.order c.requires.free c.in_ok-put_in_order.ensures.changed c.name_of-name.ensures c.in_ok-repeats.ensures
    (c.is_one_class_too_many-too_many.ensures ∙ ap (is_one_class_too_many nat_eq c.args.classes.now) c.name_of-name.ensures)) c.late_refusal.ensures.cause

pub returns-clause-some : goal.returns-clause-some
returns-clause-some c =
    IfOk-weaker c.late_refusal.result _ _ (λ cause e. e ∙ ap is_some (judged c.args.classes.now c.put_in_order.new.classes c.args.definition c.args.kernel c.name_of-name.result c.in_ok-repeats.repeats c.is_one_class_too_many-too_many.result c.requires.sound.order c.requires.free c.in_ok-put_in_order.ensures.changed c.name_of-name.ensures c.in_ok-repeats.ensures
    (c.is_one_class_too_many-too_many.ensures ∙ ap (is_one_class_too_many nat_eq c.args.classes.now) c.name_of-name.ensures))) c.late_refusal.ensures.some

pub returns-clause-sound : goal.returns-clause-sound
returns-clause-sound c =
    where_none c.late_refusal.result _ c.late_refusal.ensures.some
    (defined_sound c.args.classes.now c.put_in_order.new.classes c.args.definition c.args.kernel c.name_of-name.result c.in_ok-repeats.repeats c.is_one_class_too_many-too_many.result c.requires.sound c.requires.free c.in_ok-put_in_order.ensures.changed c.name_of-name.ensures)

pub returns-clause-owned : goal.returns-clause-owned
returns-clause-owned c =
    IfOk-weaker c.late_refusal.result _ _ (λ _ _. defined_owned c.args.classes.now c.put_in_order.new.classes c.args.definition c.args.kernel c.requires.sound c.requires.free c.in_ok-put_in_order.ensures.changed c.args.owners.now c.note_definition.new.self c.requires.owned c.in_ok-noted.ensures.instance_kept c.in_ok-noted.ensures.class_side_kept c.in_ok-noted.ensures.superclasses_kept c.in_ok-noted.ensures.noted c.in_ok-noted.ensures.superclass)
    c.late_refusal.ensures.some
