use Rattle.std.proofs.Common.{◌≡◌, ◌+◌, ℕ, Bool, map, filter, take, option_map, sym, ap, subst, ◌∙◌}
use Rattle.class_table.specs.Slots.{Slots}
use Rattle.class_table.specs.View.{live}
use Rattle.class_questions.proofs.AnyLive.{live_at-live}
use Rattle.image_laws.proofs.Orders.{stands-live}
use Rattle.image_strip.specs.Anew.{placed_method, plus_method, with_methods}
use Rattle.image_strip.specs.Reached.{is_marked}
use Rattle.image_strip.proofs.AnewLoops.{method-turn, method-left, is-at}
use Rattle.image_strip.proofs.anew.add_methods.Goals as goal
use Rattle.image_strip.proofs.anew.add_methods.Goals.{then-has_method+in_ok-copy+in_ok-put_method, else-has_method}

pub loop-slot-preserved : goal.loop-slot-preserved
loop-slot-preserved g c =
    let s = c.args.image.now in
    let t = c.args.made.now in
    let p : ℕ → Bool = is_marked c.args.reach.now.methods in
    let order = c.methods-slot-items.result.now in
    let i = c.loop-slot.slot-index in
    let k = c.slot-item.result in
    let u = c.loop-slot.made in
    let h = c.loop-slot-test.true in
    let read = c.slot-item.is in
    let places = c.args.places.now in
    let all : (n : ℕ) → Slots = λ n. with_methods t (map (placed_method places) (live s.methods (filter p (take n order)))) in
    elim c.if-has_method.branch [
      | then-has_method+in_ok-copy+in_ok-put_method w ↦
          let held = live_at-live s.methods s.method_order k (stands-live k s.method_order i (is-at order s.method_order i k c.methods-slot-items.ensures.value h read)) in
          let added = w.in_ok-put_method.ensures ∙ ap (plus_method u) (w.in_ok-copy.ensures ∙ ap (option_map (placed_method places)) held) in
          subst (λ (v : Slots). v ≡ all (i + 1)) (sym w.made-is)
          (method-turn t places p order i k h read u w.put_method.new.made s.methods (sym c.has_method.ensures ∙ w.if-has_method.true) c.loop-slot.invariant added)
      | else-has_method w ↦
          subst (λ (v : Slots). v ≡ all (i + 1)) (sym w.made-is)
          (method-left t places p order i k h read u u s.methods (sym c.has_method.ensures ∙ w.if-has_method.false) c.loop-slot.invariant)
    ]
