use Rattle.std.proofs.Common.{◌≡◌, ◌++◌}
use Rattle.image_maker.specs.Generated.{pieces, run_text}
use Rattle.image_maker.proofs.image.push_runs.Given as goal

abbrev pub invariant-loop-number : goal.invariant-loop-number
invariant-loop-number l = l.out ≡ l.fn.out ++ pieces run_text l.number
