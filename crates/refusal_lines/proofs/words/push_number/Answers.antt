use Rattle.refusal_lines.proofs.Begins.{begins_either}
use Rattle.refusal_lines.proofs.words.push_number.Goals as goal

pub returns-clause-begins : goal.returns-clause-begins
returns-clause-begins c = begins_either c.push_slice.result _ c.push_slice.ensures.ok c.push_slice.ensures.err
