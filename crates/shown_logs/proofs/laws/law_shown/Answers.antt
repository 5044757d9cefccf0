use Rattle.shown_logs.proofs.Replies.{replies-shown, reached-shown}
use Rattle.shown_logs.proofs.laws.law_shown.Goals as goal

pub returns : goal.returns
returns g c = record {
  replies = λ f h a b are p es. replies-shown f h a b are p es;
  history = λ f h a b are p es. reached-shown f h a b are p es;
}
