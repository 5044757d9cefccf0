use Rattle.std.proofs.Common.{◌-◌, Option, sym, ap, ◌∙◌, ℕ}
use Rattle.image_model.specs.Upwards.{nth_above}
use Rattle.class_table.specs.Finding.{above}
use Rattle.class_table.proofs.Walks.{nth_above-step}
use Rattle.class_table.proofs.image.Image.chain_at.Goals as goal

pub loop-left-preserved : goal.loop-left-preserved
loop-left-preserved c =
    let up : ℕ → Option ℕ = above c.args.self.now.classes c.args.self.now.class_order in
    ap (nth_above up (c.loop-left.left - 1)) c.above-at.ensures ∙ sym (nth_above-step up c.loop-left.left c.in_ok-at.field-0 c.loop-left-test.true)
    ∙ ap (nth_above up c.loop-left.left) (sym c.in_ok-at.was) ∙ c.loop-left.invariant
