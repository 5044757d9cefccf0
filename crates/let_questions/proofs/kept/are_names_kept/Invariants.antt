use Rattle.std.proofs.Common.{◌≡◌, drop}
use Rattle.std.specs.List.{list_all}
use Rattle.let_questions.specs.Places.{is_name_kept}
use Rattle.let_questions.proofs.kept.are_names_kept.Given as goal

abbrev pub invariant-loop-name : goal.invariant-loop-name
invariant-loop-name l = list_all (is_name_kept l.image l.question l.read) (drop l.name-index l.names) ≡ list_all (is_name_kept l.image l.question l.read) l.names
