use Rattle.std.proofs.Common.{◌<◌, ap, subst, ◌∙◌}
use Rattle.image_strip.specs.Anew.{plus_doit}
use Rattle.image_strip.proofs.AnewLoops.{doit-turn}
use Rattle.image_strip.proofs.anew.add_doits.Goals as goal

pub loop-number-preserved : goal.loop-number-preserved
loop-number-preserved g c =
    let s = c.args.image.now in
    let n = c.loop-number.number in
    doit-turn c.args.made.now c.loop-number.made c.put_doit.new.made s.doits n (subst (λ m. n < m) c.doits-number-end.ensures c.loop-number-test.true) c.loop-number.invariant
    (c.in_ok-put_doit.ensures ∙ ap (plus_doit c.loop-number.made) c.in_ok-copy.ensures)
