use Rattle.std.proofs.Common.{◌≡◌, drop}
use Rattle.std.specs.List.{list_all}
use Rattle.let_questions.specs.Places.{are_names_kept}
use Rattle.let_questions.proofs.kept.is_kept_at.Given as goal

abbrev pub invariant-loop-read : goal.invariant-loop-read
invariant-loop-read l = list_all (are_names_kept l.image l.question l.names) (drop l.read-index l.reads) ≡ list_all (are_names_kept l.image l.question l.names) l.reads
