use Rattle.team_laws.proofs.Idling.{event-idle, reached-idle, begun-idle, run-idle}
use Rattle.team_laws.proofs.laws.law_idle.Goals as goal

pub returns : goal.returns
returns g c = record {
  start = λ p none s idle. none s;
  event = λ rules p q e r idle a. event-idle rules p e.session e.act r q idle a;
  run = λ old new f g p q es rs idle h. run-idle old f p es rs new g q idle h;
  reached = λ rules p es idle. reached-idle rules p es idle;
  begun = λ rules p q s r idle a accepted. begun-idle rules p s r q idle a accepted;
}
