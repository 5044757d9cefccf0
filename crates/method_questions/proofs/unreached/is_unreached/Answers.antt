use Rattle.std.proofs.Common.{◌∙◌}
use Rattle.method_questions.proofs.Unchanged.{owners-known}
use Rattle.method_questions.proofs.unreached.is_unreached.Goals as goal

pub is_any_reached-requires-clause-owners : goal.is_any_reached-requires-clause-owners
is_any_reached-requires-clause-owners g c =
    owners-known c.args.image.now c.requires.orderly c.args.moved.now c.listed-places.result.now c.as_slice-own.result.now (c.as_slice-own.ensures.value ∙ c.in_ok-owners.ensures)
