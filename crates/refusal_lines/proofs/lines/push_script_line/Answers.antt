use Rattle.std.proofs.Common.{refl}
use Rattle.refusal_lines.proofs.Begins.{begins_same}
use Rattle.refusal_lines.proofs.lines.push_script_line.Goals as goal

pub returns-in-Memory-clause-begins : goal.returns-in-Memory-clause-begins
returns-in-Memory-clause-begins c = begins_same refl
