-- Logs whose commands and causes are shown otherwise.
use Rattle.std.specs.Prelude.{◌≡◌, ℕ, map, Result, Ok, Err}
use Rattle.team_core.specs.declared.reply.Reply.{Reply}
use Rattle.team_core.specs.declared.reply.Reply.TheVariants.{Accepted, AlreadyOpen, NotOpen, Full, Stale, Refused}
use Rattle.team_core.specs.History.{RulesOf, by_result}
use Rattle.team_core.specs.Events.{ActOf, Begin, Propose, Commit, Undo, Redo, PointOf}
use Rattle.team_laws.specs.Logs.{EventOf}

-- a reply whose cause is shown otherwise
abbrev pub shown : {Q R : Type 0} → (R → Q) → Reply R → Reply Q
shown g (Accepted revision) = Accepted revision
shown g AlreadyOpen = AlreadyOpen
shown g NotOpen = NotOpen
shown g Full = Full
shown g (Stale revision event) = Stale revision event
shown g (Refused nth cause) = Refused nth (g cause)

-- an act, an event and a point with each command shown otherwise
abbrev pub act_shown : {C D : Type 0} → (C → D) → ActOf C → ActOf D
act_shown f Begin = Begin
act_shown f (Propose c) = Propose (f c)
act_shown f Commit = Commit
act_shown f Undo = Undo
act_shown f Redo = Redo

abbrev pub event_shown : {C D : Type 0} → (C → D) → EventOf C → EventOf D
event_shown f e = record { session = e.session; act = act_shown f e.act }

abbrev pub point_shown : {S C D : Type 0} → (C → D) → PointOf S C → PointOf S D
point_shown f p = record { log = p.log; proposed = λ s. map f (p.proposed s); history = p.history }

-- rules over other commands and other causes
pub record AreShown {S C D Q R : Type 0} (f : C → D) (g : R → Q) (a : RulesOf S C Q) (b : RulesOf S D R) : Type 0 where
  pub relation : (s : S) (c : C) → a.relation s c ≡ by_result (λ t. Ok t) (λ r. Err (g r)) (b.relation s (f c))
  pub no_earlier : a.no_earlier ≡ g b.no_earlier
  pub no_later : a.no_later ≡ g b.no_later
