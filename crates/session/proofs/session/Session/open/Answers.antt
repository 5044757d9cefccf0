use Rattle.std.proofs.Common.{List, sym, subst}
use Rattle.class_table.specs.View.{image_of}
use Rattle.matched_histories.specs.MatchedHistories.{IsMatchedHistory}
use Rattle.session.specs.Log.{Done, log_at}
use Rattle.session.specs.History.{history_of}
use Rattle.session.proofs.Steps.{opened-log}
use Rattle.session.proofs.session.Session.open.Goals as goal

pub returns-clause-log : goal.returns-clause-log
returns-clause-log g c =
    opened-log c.args.image.now c.in_ok-index.index c.clear.new.self.items c.clear-2.new.self.items c.requires.closed c.requires.orderly c.in_ok-index.ensures.index c.clear.ensures.items c.clear-2.ensures.items

pub returns-clause-matched : goal.returns-clause-matched
returns-clause-matched g c =
    let s = c.args.image.now in
    subst (λ (es : List Done). IsMatchedHistory (image_of s) (history_of s (log_at c.in_ok-index.index c.clear.new.self.items es 0))) (sym {A = List Done} c.clear-2.ensures.items)
    (c.law_matched_histories.ensures.opened (image_of s))
