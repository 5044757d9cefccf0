-- The stripped images are as the definitions have them.
use Rattle.std.proofs.Common.{refl}
use Rattle.scope_model.specs.SpecialNames.{is_pseudo_variable}
use Rattle.law_examples.specs.StripExamples.{AreStripped}

pub are-stripped : AreStripped
unfolding is_pseudo_variable
are-stripped = record { one_left = refl; one_lines = refl; two_left = refl; two_lines = refl; not_closed = refl }
