use Rattle.std.proofs.Common.{◌≡◌, ◌++◌, take, map}
use Rattle.std.specs.Prelude.{codes}
use Rattle.std.specs.Fmt.{decimal}
use Rattle.text_model.specs.Pieces.{pieces_behind}
use Rattle.refusal_lines.proofs.certificate.push_path.Given as goal

abbrev pub invariant-loop-number : goal.invariant-loop-number
invariant-loop-number l = l.out ≡ l.initial.out ++ pieces_behind (codes ".") (map decimal (take l.number-index l.rest))
