use Rattle.std.proofs.Common.{arith}
use Rattle.std.proofs.lemmas.Grind.{common_steps}
use Rattle.std.proofs.lemmas.List.Elements.{filter_map-append}
use Rattle.reference_index.proofs.fresh.sort_out.Goals as goal
use Rattle.reference_index.proofs.fresh.sort_out.Goals.{in-Method+in_ok-push-in-Method, in-DoIt+in_ok-push-in-DoIt}

pub loop-place-preserved : goal.loop-place-preserved
loop-place-preserved c =
    elim c.match-place.branch [
      | in-Method+in_ok-push-in-Method w ↦ rw (w.slots-is, w.numbers-is) (grind (arith, common_steps, filter_map-append), grind (arith, common_steps, filter_map-append))
      | in-DoIt+in_ok-push-in-DoIt w ↦ rw (w.slots-is, w.numbers-is) (grind (arith, common_steps, filter_map-append), grind (arith, common_steps, filter_map-append))
    ]
