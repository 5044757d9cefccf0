use Rattle.commands.specs.Views.{HasSelf}
use Rattle.session.specs.Log.{IsLogOf}
use Rattle.session_tests.proofs.renamed.are_done.Given as goal

abbrev pub invariant-loop-row : goal.invariant-loop-row
invariant-loop-row g l = record {
  log : IsLogOf l.image l.session;
  self_known : HasSelf l.image.names;
}
