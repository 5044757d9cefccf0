use Rattle.std.proofs.Common.{sym, ◌∙◌}
use Rattle.file_reading.proofs.Replacing.{place_in-positive}
use Rattle.file_reading.proofs.replace.doit_number.Goals as goal

pub returns-then-number-count-clause-positive : goal.returns-then-number-count-clause-positive
returns-then-number-count-clause-positive c = place_in-positive c.args.numeral.now c.in_ok-number.number (sym c.place_in.ensures ∙ c.in_ok-number.was)
