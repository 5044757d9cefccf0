use Rattle.std.proofs.Common.{◌≡◌, ◌+◌, length, sym, ap, ◌∙◌, arith}
use Rattle.abstract_plans.proofs.Fits.{class-found}
use Rattle.abstract_plans.proofs.Whole.{wider-first, wider-second, whole-plan}
use Rattle.abstract_plans.proofs.planning.plan_abstraction.Goals as goal

pub returns-in_default-clause-plan : goal.returns-in_default-clause-plan
returns-in_default-clause-plan g c = absurd (class-found c.args.image.now c.args.abstraction.now c.requires.holds (sym c.class_named.ensures ∙ c.in_default.is))

pub code_changes-requires-clause-known : goal.code_changes-requires-clause-known
code_changes-requires-clause-known g c = c.law_known.ensures c.args.image.now c.args.abstraction.now c.requires.orderly c.requires.known c.requires.self_known

pub returns-in_default-room_for_method-2-clause-wider : goal.returns-in_default-room_for_method-2-clause-wider
returns-in_default-room_for_method-2-clause-wider g c =
    wider-first c.args.image.now c.requires.orderly c.args.abstraction.now c.requires.known c.in-Some.class (sym c.class_named.ensures ∙ c.in-Some.is) c.in_ok-reader.field-0.reader c.in_ok-reader.field-0.writer c.in_ok-reader.ensures.reader
    c.room_for_method-2.new.image (c.in_default-room_for_method-2.ensures.err ∙ c.in-Ok.ensures.ok) c.requires.closed

pub returns-in_err-put_live-clause-wider : goal.returns-in_err-put_live-clause-wider
returns-in_err-put_live-clause-wider g c =
    wider-second c.args.image.now c.requires.orderly c.args.abstraction.now c.requires.known c.in-Some.class (sym c.class_named.ensures ∙ c.in-Some.is) c.in_ok-reader.field-0.reader c.in_ok-reader.field-0.writer c.in_ok-reader.ensures.reader
    c.room_for_method.new.image c.in-Ok.ensures.ok c.in_ok-reader.ensures.writer c.room_for_method-2.new.image c.in-Ok-room_for_method.ensures.ok c.requires.closed

pub returns-in_err-put_live-2-clause-wider : goal.returns-in_err-put_live-2-clause-wider
returns-in_err-put_live-2-clause-wider g c =
    wider-second c.args.image.now c.requires.orderly c.args.abstraction.now c.requires.known c.in-Some.class (sym c.class_named.ensures ∙ c.in-Some.is) c.in_ok-reader.field-0.reader c.in_ok-reader.field-0.writer c.in_ok-reader.ensures.reader
    c.room_for_method.new.image c.in-Ok.ensures.ok c.in_ok-reader.ensures.writer c.room_for_method-2.new.image c.in-Ok-room_for_method.ensures.ok c.requires.closed

pub returns-clause-wider : goal.returns-clause-wider
returns-clause-wider g c =
    wider-second c.args.image.now c.requires.orderly c.args.abstraction.now c.requires.known c.in-Some.class (sym c.class_named.ensures ∙ c.in-Some.is) c.in_ok-reader.field-0.reader c.in_ok-reader.field-0.writer c.in_ok-reader.ensures.reader
    c.room_for_method.new.image c.in-Ok.ensures.ok c.in_ok-reader.ensures.writer c.room_for_method-2.new.image c.in-Ok-room_for_method.ensures.ok c.requires.closed

pub returns-clause-plan : goal.returns-clause-plan
returns-clause-plan g c =
    let next : c.in-Some-checked_add.last ≡ length c.methods-place.result.now + 1 = grind (arith, c.in-Some-checked_add.ensures, c.checked_add.ensures) in
    whole-plan c.args.image.now c.requires.orderly c.args.abstraction.now c.requires.known c.in-Some.class (sym c.class_named.ensures ∙ c.in-Some.is) c.in_ok-reader.field-0.reader c.in_ok-reader.field-0.writer c.in_ok-reader.ensures.reader
    c.room_for_method.new.image c.in-Ok.ensures.ok c.in_ok-reader.ensures.writer c.room_for_method-2.new.image c.in-Ok-room_for_method.ensures.ok
    c.args.index.now c.in_ok-plan.plan.changes c.put_live.new.plan.changes c.put_live-2.new.plan.changes c.in_ok-plan.plan.touched.items c.put_live.new.plan.touched.items c.put_live-2.new.plan.touched.items
    (length c.methods-place.result.now) c.in-Some-checked_add.last c.in-Ok.first c.in-Ok-room_for_method.second
    (c.law_known.ensures c.args.image.now c.args.abstraction.now c.requires.orderly c.requires.known c.requires.self_known) c.requires.index c.requires.is_self c.in_ok-plan.ensures
    (ap length c.methods-place.ensures.value) next c.in-Ok.ensures.slot c.in-Ok-room_for_method.ensures.slot
    c.in_ok-put_live.ensures.changes c.in_ok-put_live-2.ensures.changes c.in_ok-put_live.ensures.touched c.in_ok-put_live-2.ensures.touched
