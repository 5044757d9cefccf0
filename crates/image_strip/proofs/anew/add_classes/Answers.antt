use Rattle.std.proofs.Common.{◌≡◌, ◌+◌, ℕ, None, map, filter, take, false, slice_get, sym, ap, subst, ◌∙◌}
use Rattle.std.specs.Option.{option_map_or}
use Rattle.class_table.specs.declared.record.ClassRec.{ClassRec}
use Rattle.class_table.specs.Slots.{Slots}
use Rattle.class_table.specs.View.{live}
use Rattle.class_questions.proofs.AnyLive.{live_at-live, live-live_at}
use Rattle.image_laws.proofs.Orders.{stands-live}
use Rattle.image_strip.specs.Anew.{placed_class, plus_class, with_classes}
use Rattle.image_strip.specs.Reached.{is_marked}
use Rattle.image_strip.specs.Stripped.{is_class_marked}
use Rattle.image_strip.proofs.AnewLoops.{class-turn, class-left, is-at}
use Rattle.image_strip.proofs.anew.add_classes.Goals as goal
use Rattle.image_strip.proofs.anew.add_classes.Goals.{in-Some+then-has_class+in_ok-copy+in_ok-put_class, in-Some+else-has_class, in_default}

pub loop-id-preserved : goal.loop-id-preserved
loop-id-preserved c =
    let s = c.args.image.now in
    let t = c.args.made.now in
    let marks = c.args.reach.now.classes in
    let p : ℕ → _ = is_class_marked s.classes marks in
    let order = c.classes-id-items.result.now in
    let i = c.loop-id.id-index in
    let k = c.id-item.result in
    let u = c.loop-id.made in
    let h = c.loop-id-test.true in
    let read = c.id-item.is in
    let places = c.args.places.now in
    let all : (n : ℕ) → Slots = λ n. with_classes t (map (placed_class places) (live s.classes (filter p (take n order)))) in
    elim c.match-class_rec.branch [
      | in-Some+then-has_class+in_ok-copy+in_ok-put_class w ↦
          let at = live-live_at s.classes s.class_order k w.in-Some.rec.now (sym w.in-Some.ensures) in
          let kept = ap (λ o. option_map_or (λ (d : ClassRec). is_marked marks d.name) o false) at.1 ∙ sym w.has_class.ensures ∙ w.if-has_class.true in
          let added = w.in_ok-put_class.ensures ∙ ap (plus_class u) w.in_ok-copy.ensures in
          subst (λ (v : Slots). v ≡ all (i + 1)) (sym w.made-is)
          (class-turn t places p order i k h read u w.put_class.new.made s.classes w.in-Some.rec.now kept at.1 c.loop-id.invariant added)
      | in-Some+else-has_class w ↦
          let at = live-live_at s.classes s.class_order k w.in-Some.rec.now (sym w.in-Some.ensures) in
          let kept = ap (λ o. option_map_or (λ (d : ClassRec). is_marked marks d.name) o false) at.1 ∙ sym w.has_class.ensures ∙ w.if-has_class.false in
          subst (λ (v : Slots). v ≡ all (i + 1)) (sym w.made-is) (class-left t places p order i k h read u u s.classes kept c.loop-id.invariant)
      | in_default w ↦
          let at : slice_get s.classes k ≡ None =
          sym (live_at-live s.classes s.class_order k (stands-live k s.class_order i (is-at order s.class_order i k c.classes-id-items.ensures.value h read))) ∙ sym w.in_default.ensures in
          let kept = ap (λ o. option_map_or (λ (d : ClassRec). is_marked marks d.name) o false) at in
          subst (λ (v : Slots). v ≡ all (i + 1)) (sym w.made-is) (class-left t places p order i k h read u u s.classes kept c.loop-id.invariant)
    ]
