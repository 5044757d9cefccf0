use Rattle.std.proofs.Common.{◌≡◌, ◌++◌}
use Rattle.image_maker.specs.Generated.{pieces, definition_text}
use Rattle.image_maker.proofs.image.push_definitions.Given as goal

abbrev pub invariant-loop-number : goal.invariant-loop-number
invariant-loop-number l = l.out ≡ l.fn.out ++ pieces definition_text l.number
