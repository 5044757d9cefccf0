use Rattle.std.proofs.Common.{◌≡◌, ℕ, suc, ◌+◌, ◌<◌, length, None, Some, take, slice_get, option_map, sym, ap, subst, ◌∙◌, arith}
use Rattle.st_tree.specs.declared.tree.Sequence.{Sequence}
use Rattle.class_table.specs.declared.record.DoIt.{DoIt}
use Rattle.class_table.specs.Slots.{Slots}
use Rattle.class_table.proofs.Live.{there}
use Rattle.image_strip.specs.Code.{doit_at}
use Rattle.image_strip.specs.Least.{AreDoItsAdded, IsAdded}
use Rattle.image_strip.specs.Reached.{Marks}
use Rattle.image_strip.proofs.Steps.{doit-added}
use Rattle.image_strip.proofs.least.add_doits.Goals as goal
use Rattle.image_strip.proofs.least.add_doits.Goals.{in-Some+in_ok-add_doit, in_default}

-- the do-it of a number whose body is known
next : (s : Slots) (k : ℕ) (body : Sequence) (a b c : Marks) → k < length s.doits → Some body ≡ option_map (λ (d : DoIt). d.body) (slice_get s.doits k) → IsAdded (doit_at s body) b c → AreDoItsAdded s (take k s.doits) a b → AreDoItsAdded s (take (suc k) s.doits) a c
next s k body a b c h e added before =
    let at = there s.doits k h in
    doit-added s k at.0 a b c at.1 (subst (λ (x : Sequence). IsAdded (doit_at s x) b c) (some (e ∙ ap (option_map (λ (d : DoIt). d.body)) at.1)) added) before
  where
    some : {u v : Sequence} → Some u ≡ Some v → u ≡ v
    some q = cc

-- there is one
lost : (s : Slots) (k : ℕ) → k < length s.doits → None ≡ option_map (λ (d : DoIt). d.body) (slice_get s.doits k) → ⊥
lost s k h e =
    let at = there s.doits k h in
    none (e ∙ ap (option_map (λ (d : DoIt). d.body)) at.1)
  where
    none : {u : Sequence} → None ≡ Some u → ⊥
    none q = absurd (cc)

pub loop-number-preserved : goal.loop-number-preserved
loop-number-preserved g c =
    let s = c.args.image.now in
    let k = c.loop-number.number in
    let within : k < length s.doits = omega (arith, c.loop-number-test.true, c.doits-number-end.ensures) in
    let one : suc k ≡ k + 1 = omega arith in
    elim c.match-open_doit.branch [
      | in-Some+in_ok-add_doit w ↦
          subst (λ (m : Marks). AreDoItsAdded s (take (k + 1) s.doits) c.args.reach.now m) (sym w.reach-is)
          (subst (λ (n : ℕ). AreDoItsAdded s (take n s.doits) c.args.reach.now w.add_doit.new.reach) one
          (next s k w.in-Some.body.now c.args.reach.now c.loop-number.reach w.add_doit.new.reach within w.in-Some.ensures.body w.in_ok-add_doit.ensures c.loop-number.invariant))
      | in_default w ↦ absurd (lost s k within w.in_default.ensures.body)
    ]
