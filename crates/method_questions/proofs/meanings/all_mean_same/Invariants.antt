use Rattle.std.proofs.Common.{◌≡◌, drop}
use Rattle.std.specs.List.{list_all}
use Rattle.method_questions.specs.Meanings.{means_same_at}
use Rattle.method_questions.proofs.meanings.all_mean_same.Given as goal

abbrev pub invariant-loop-name : goal.invariant-loop-name
invariant-loop-name l = list_all (means_same_at l.image l.method l.other) (drop l.name-index l.names) ≡ list_all (means_same_at l.image l.method l.other) l.names
