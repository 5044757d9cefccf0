use Rattle.std.proofs.Common.{◌≡◌, ℕ, List, ◌+◌, ◌++◌, ◌∙◌, drop, sym, ap, subst, slice_get, Some, None}
use Rattle.std.specs.Borrow.{Bor}
use Rattle.class_table.specs.declared.record.ClassRec.{ClassRec}
use Rattle.class_table.specs.Valid.{IsLive}
use Rattle.change_file.specs.Shown.{class_texts, AreWritable}
use Rattle.change_file.proofs.ClassLists.{user_texts, item_at, IsLive-at, live_at-live, user_taken, kernel_left, none_left, writable_push, writable_class, users_end}
use Rattle.change_file.proofs.classes.user_recs.Goals as goal
use Rattle.change_file.proofs.classes.user_recs.Goals.{in-Some+then-not-rec+in_ok-push, in-Some+else-not-rec, in_default}

pub loop-id-preserved : goal.loop-id-preserved
loop-id-preserved c =
    let s = c.args.image.now in
    let items = c.classes-id-items.result.now in
    let i = c.loop-id.id-index in
    let k = c.id-item.result in
    let at = item_at items i k c.loop-id-test.true c.id-item.is in
    let l : IsLive s.class_order k = subst (λ (order : List ℕ). IsLive order k) c.classes-id-items.ensures.value (IsLive-at items i k at) in
    let there = live_at-live s.classes s.class_order k l in
    let rest = user_texts s (drop (i + 1) items) in
    elim c.match-class_rec.branch [
      | in-Some+then-not-rec+in_ok-push w ↦
          let e : slice_get s.classes k ≡ Some w.in-Some.rec.now = sym there ∙ sym w.in-Some.ensures in
          let put = ap (λ v. v.items) w.recs-is ∙ w.in_ok-push.ensures.items in (
            ap (λ (rs : List (Bor ClassRec)). class_texts s rs ++ rest) put ∙ user_taken s items i k at c.loop-id.recs.items w.in-Some.rec _ e w.if-not-rec.true c.loop-id.invariant.0,
            subst (AreWritable s) (sym put) (writable_push s c.loop-id.recs.items w.in-Some.rec c.loop-id.invariant.1 (writable_class s k w.in-Some.rec.now c.requires l e)),
          )
      | in-Some+else-not-rec w ↦
          let e : slice_get s.classes k ≡ Some w.in-Some.rec.now = sym there ∙ sym w.in-Some.ensures in (
            ap (λ v. class_texts s v.items ++ rest) w.recs-is ∙ kernel_left s items i k at c.loop-id.recs.items w.in-Some.rec.now _ e w.if-not-rec.false c.loop-id.invariant.0,
            subst (AreWritable s) (sym (ap (λ v. v.items) w.recs-is)) c.loop-id.invariant.1,
          )
      | in_default w ↦
          let e : slice_get s.classes k ≡ None = sym there ∙ sym w.in_default.ensures in (
            ap (λ v. class_texts s v.items ++ rest) w.recs-is ∙ none_left s items i k at c.loop-id.recs.items _ e c.loop-id.invariant.0,
            subst (AreWritable s) (sym (ap (λ v. v.items) w.recs-is)) c.loop-id.invariant.1,
          )
    ]

pub returns-clause-classes : goal.returns-clause-classes
returns-clause-classes c =
    users_end c.args.image.now c.classes-id-items.result.now c.loop-id.id-index c.loop-id.recs.items _ c.loop-id-test.false c.loop-id.invariant.0
    ∙ ap (user_texts c.args.image.now) c.classes-id-items.ensures.value
