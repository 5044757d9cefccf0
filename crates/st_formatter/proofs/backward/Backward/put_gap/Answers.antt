use Rattle.std.proofs.Common.{arith}
use Rattle.std.proofs.lemmas.Grind.{common_steps}
use Rattle.st_formatter.proofs.Parts.{parts_text-last}
use Rattle.st_formatter.proofs.backward.Backward.put_gap.Goals as goal

pub returns : goal.returns
returns c = grind (arith, common_steps, parts_text-last)
