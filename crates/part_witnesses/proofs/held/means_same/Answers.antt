use Rattle.std.proofs.Common.{◌∙◌}
use Rattle.std.specs.Prelude.{nat_eq}
use Rattle.command_model.specs.SameMethods.{same_meaning}
use Rattle.part_witnesses.proofs.held.means_same.Goals as goal

pub returns : goal.returns
returns c = c.same_meaning.ensures ∙ (λ j. same_meaning nat_eq (c.meaning_in-meaning.ensures j) (c.meaning_in-again.ensures j))
