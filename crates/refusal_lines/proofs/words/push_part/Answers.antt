use Rattle.refusal_lines.proofs.Begins.{begins_twice}
use Rattle.refusal_lines.proofs.words.push_part.Goals as goal

pub returns-clause-begins : goal.returns-clause-begins
returns-clause-begins c = begins_twice c.push_method.ensures.begins c.push_words.ensures.begins
