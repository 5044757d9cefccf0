use Rattle.std.proofs.Common.{◌≡◌, drop}
use Rattle.std.specs.List.{list_any}
use Rattle.let_code.specs.Lets.{let_as}
use Rattle.let_questions.specs.Places.{is_before}
use Rattle.let_questions.proofs.form.is_any_before.Given as goal

abbrev pub invariant-loop-read : goal.invariant-loop-read
invariant-loop-read l = list_any (is_before (let_as l.assignment)) (drop l.read-index l.reads) ≡ list_any (is_before (let_as l.assignment)) l.reads
