use Rattle.std.proofs.Common.{◌<◌, length, sym, ap, ◌∙◌, arith}
use Rattle.std.specs.List.{list_all}
use Rattle.std.proofs.lemmas.List.{take_all}
use Rattle.image_heights.specs.Low.{is_doit_low}
use Rattle.image_heights.proofs.LowCode.{all-low, high-method, high-doit, next-doit, no-doit}
use Rattle.image_heights.proofs.heights.is_shallow.Goals as goal
use Rattle.image_heights.proofs.heights.is_shallow.Goals.{in-Some+else-is_high, in_default}

pub returns-then-not-is_low_method : goal.returns-then-not-is_low_method
returns-then-not-is_low_method g c =
    high-method c.args.image.now c.methods-slot-items.result.now c.loop-slot.slot-index c.slot-item.result c.methods-slot-items.ensures.value c.loop-slot-test.true c.slot-item.is (sym c.is_low_method.ensures ∙ c.if-not-is_low_method.true)

pub returns-then-is_high : goal.returns-then-is_high
returns-then-is_high g c =
    let s = c.args.image.now in
    let k = c.loop-number.number in
    let h : k < length s.doits = omega (arith, c.doits-number-end.ensures) in
    high-doit s k h c.in-Some.body.now c.loop-number.invariant.methods c.in-Some.ensures.body (sym c.is_high.ensures ∙ c.if-is_high.true)

pub loop-number-preserved : goal.loop-number-preserved
loop-number-preserved g c =
    let s = c.args.image.now in
    let k = c.loop-number.number in
    let h : k < length s.doits = omega (arith, c.doits-number-end.ensures) in
    record {
      methods = c.loop-number.invariant.methods;
      doits =
          elim c.match-open_doit.branch [
            | in-Some+else-is_high w ↦ next-doit s k h w.in-Some.body.now w.in-Some.ensures.body (sym w.is_high.ensures ∙ w.if-is_high.false) c.loop-number.invariant.doits
            | in_default w ↦ absurd (no-doit s k h w.in_default.ensures.body)
          ];
    }

pub returns : goal.returns
returns g c =
    let s = c.args.image.now in
    all-low s c.loop-number.invariant.methods (sym (ap (list_all is_doit_low) (take_all c.loop-number.number s.doits (omega (arith, c.doits-number-end.ensures)))) ∙ c.loop-number.invariant.doits)
