use Rattle.shown_logs.proofs.Steady.{run-start}
use Rattle.shown_logs.proofs.laws.law_steady.Goals as goal

pub returns : goal.returns
returns g c = record {
  replies = λ old new f k p q es rs runs fit fits. (run-start old new f k p q es rs runs fit fits).0;
  reached = λ old new f k p q es rs runs fit fits. (run-start old new f k p q es rs runs fit fits).1;
}
