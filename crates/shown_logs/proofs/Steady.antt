-- A run whose rules widen is the log by the rules at its start, if what is proposed fits them.
use Rattle.std.proofs.Common.{◌≡◌, ℕ, Bool, IsTrue, List, [], ◌∷◌, refl, sym, ◌∙◌}
use Rattle.std.specs.List.{AllByRecursion, list_all}
use Rattle.team_core.specs.declared.reply.Reply.{Reply}
use Rattle.team_core.specs.History.{RulesOf, Keeps}
use Rattle.team_core.specs.Events.{PointOf, Answers}
use Rattle.team_core.proofs.Answering.{Keeps-same}
use Rattle.team_laws.specs.Logs.{EventOf, Fits, Runs, reply_to, next, replies, reached}
use Rattle.team_laws.proofs.Running.{Runs-keeps, run-log}

module _ {S C Q : Type 0} (old new : RulesOf S C Q) (f g : C → Bool) (keeps : Keeps old f new g) where
  -- the log by the rules at the start is a run
  own-run : (p : PointOf S C) (es : List (EventOf C)) → AllByRecursion (λ (e : EventOf C). Fits f e.act) es → Runs old f p es (replies old p es) new g (reached old p es)
  own-run p [] fits = (refl, keeps)
  own-run p (e ∷ es) fits =
      let answers : Answers old p e.session e.act (reply_to old p e) (next old p e) = record { reply = refl; log = refl; proposed = λ t. refl; history = refl } in
      (old, f, next old p e, Keeps-same old f, answers, fits.0, own-run (next old p e) es fits.1)

-- the replies and the point
pub run-start : {S C Q : Type 0} (old new : RulesOf S C Q) (f g : C → Bool) (p q : PointOf S C) (es : List (EventOf C)) (rs : List (Reply Q)) → Runs old f p es rs new g q →
    ((s : ℕ) → IsTrue (list_all f (p.proposed s))) → AllByRecursion (λ (e : EventOf C). Fits f e.act) es → (rs ≡ replies old p es) × (q ≡ reached old p es)
run-start old new f g p q es rs runs fit fits =
    let there = run-log old f p es rs new g q runs fit in
    let here = run-log old f p es (replies old p es) new g (reached old p es) (own-run old new f g (Runs-keeps old f p es rs new g q runs) p es fits) fit in
    (there.0 ∙ sym here.0, there.1 ∙ sym here.1)
