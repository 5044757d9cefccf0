use Rattle.std.proofs.Common.{◌≡◌, ◌+◌, Some, slice_get, length, sym, ap, ◌∙◌, arith}
use Rattle.std.specs.Prelude.{nat_eq}
use Rattle.std.specs.List.{list_any}
use Rattle.plans.specs.declared.plan.Plan.{Plan}
use Rattle.method_plans.proofs.Orders.{item-at}
use Rattle.temporary_plans.proofs.Retelling.{retelling-start, retelling-same, retelling-hit, retelling-miss}
use Rattle.code_plans.specs.Extractions.{IsExtraction}
use Rattle.code_plans.proofs.PartsPlanned.{planned-nothing, room-orderly, room-wider, sender-fits, users-roomy, planned}
use Rattle.code_plans.proofs.extraction.plan_extraction.Goals as goal
use Rattle.code_plans.proofs.extraction.plan_extraction.Goals.{then-is_listed+in_ok-put_retold, else-is_listed}

pub returns-in_default-clause-plan : goal.returns-in_default-clause-plan
returns-in_default-clause-plan g c =
    planned-nothing c.args.image.now c.requires.orderly c.args.part.now c.args.to c.no_changes.result.changes c.no_changes.result.touched.items c.no_changes.ensures.changes c.no_changes.ensures.touched
    (c.in_ok-found.ensures.none c.in_default.is)

pub loop-other-init : goal.loop-other-init
loop-other-init g c =
    let s = c.args.image.now in
    let u = c.room_for_method.new.image in
    let made = c.in-Some.found in
    let is : IsExtraction s c.args.part.now c.args.to made = c.in_ok-found.ensures.some made c.in-Some.is in
    retelling-start u (room-orderly s c.requires.orderly c.args.part.now c.args.to made is u c.in-Ok.ensures.ok) c.args.part.now.method made.sender
    (sender-fits s c.requires.orderly c.args.part.now c.args.to made is u c.in-Ok.ensures.ok)
    c.no_changes-plan.result.changes c.no_changes-plan.result.touched.items c.no_changes-plan.ensures.changes c.no_changes-plan.ensures.touched

pub put_retold-requires : goal.put_retold-requires
put_retold-requires g c =
    record { known = sender-fits c.args.image.now c.requires.orderly c.args.part.now c.args.to c.in-Some.found (c.in_ok-found.ensures.some c.in-Some.found c.in-Some.is) c.room_for_method.new.image c.in-Ok.ensures.ok }

pub returns-in_err-put_retold-clause-wider : goal.returns-in_err-put_retold-clause-wider
returns-in_err-put_retold-clause-wider g c =
    room-wider c.args.image.now c.requires.orderly c.args.part.now c.args.to c.in-Some.found (c.in_ok-found.ensures.some c.in-Some.found c.in-Some.is) c.room_for_method.new.image c.requires.closed c.in-Ok.ensures.ok

pub loop-other-preserved : goal.loop-other-preserved
loop-other-preserved g c =
    let s = c.args.image.now in
    let u = c.room_for_method.new.image in
    let made = c.in-Some.found in
    let m = c.args.part.now.method in
    let is : IsExtraction s c.args.part.now c.args.to made = c.in_ok-found.ensures.some made c.in-Some.is in
    let o = room-orderly s c.requires.orderly c.args.part.now c.args.to made is u c.in-Ok.ensures.ok in
    let known = sender-fits s c.requires.orderly c.args.part.now c.args.to made is u c.in-Ok.ensures.ok in
    let i = c.loop-other.other-index in
    let k = c.other-item.result in
    let at : slice_get u.method_order i ≡ Some k = item-at c.methods-other-items.result.now u.method_order i k c.methods-other-items.ensures.value c.loop-other-test.true c.other-item.is in
    let users = c.is_listed.ensures ∙ ap (list_any (nat_eq k)) c.as_slice-own.ensures.value ∙ c.in_ok-users.ensures k in
    let same = users-roomy s c.requires.orderly c.args.part.now c.args.to made is u c.in-Ok.ensures.ok i k at in
    elim c.if-is_listed.branch [
      | then-is_listed+in_ok-put_retold w ↦
          retelling-same u m made.sender (i + 1) _ _ _ _
          (ap (λ (p : Plan). p.changes) w.plan-is ∙ w.in_ok-put_retold.ensures.changes)
          (ap (λ (p : Plan). p.touched.items) w.plan-is ∙ w.in_ok-put_retold.ensures.touched)
          (retelling-hit u o m made.sender known i k c.loop-other.plan.changes c.loop-other.plan.touched.items at (same ∙ sym users ∙ w.if-is_listed.true) c.loop-other.invariant)
      | else-is_listed w ↦
          retelling-same u m made.sender (i + 1) _ _ _ _ (ap (λ (p : Plan). p.changes) w.plan-is) (ap (λ (p : Plan). p.touched.items) w.plan-is)
          (retelling-miss u o m made.sender known i k c.loop-other.plan.changes c.loop-other.plan.touched.items at (same ∙ sym users ∙ w.if-is_listed.false) c.loop-other.invariant)
    ]

pub returns-in_err-put_live-clause-wider : goal.returns-in_err-put_live-clause-wider
returns-in_err-put_live-clause-wider g c =
    room-wider c.args.image.now c.requires.orderly c.args.part.now c.args.to c.in-Some.found (c.in_ok-found.ensures.some c.in-Some.found c.in-Some.is) c.room_for_method.new.image c.requires.closed c.in-Ok.ensures.ok

pub returns-clause-wider : goal.returns-clause-wider
returns-clause-wider g c =
    room-wider c.args.image.now c.requires.orderly c.args.part.now c.args.to c.in-Some.found (c.in_ok-found.ensures.some c.in-Some.found c.in-Some.is) c.room_for_method.new.image c.requires.closed c.in-Ok.ensures.ok

pub returns-clause-plan : goal.returns-clause-plan
returns-clause-plan g c =
    let s = c.args.image.now in
    let u = c.room_for_method.new.image in
    let made = c.in-Some.found in
    let is : IsExtraction s c.args.part.now c.args.to made = c.in_ok-found.ensures.some made c.in-Some.is in
    let end : c.loop-other.other-index ≡ length u.method_order = omega (arith, ap length c.methods-other-items.ensures.value) in
    planned s c.requires.orderly c.args.part.now c.args.to made is c.requires.closed u c.loop-other.other-index c.in-Ok.slot c.loop-other.plan.changes c.put_live.new.plan.changes
    c.loop-other.plan.touched.items c.put_live.new.plan.touched.items c.in-Ok.ensures.ok end c.in-Ok.ensures.slot c.loop-other.invariant c.in_ok-put_live.ensures.changes c.in_ok-put_live.ensures.touched
