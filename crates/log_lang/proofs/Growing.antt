-- Events over tables of names that grow.
use Rattle.std.proofs.Common.{◌≡◌, ◌≤◌, List, [], ◌∷◌, length, refl, ap, arith, length-append}
use Rattle.script_model.specs.Makers.{Text}
use Rattle.event_trees.specs.Naming.{Grows}
use Rattle.ruled_model.specs.RuledScripts.{Asked}
use Rattle.team_core.specs.Events as model
use Rattle.proposals.proofs.MoreNames.{asked-later}
use Rattle.log_model.specs.Events as log
use Rattle.log_lang.specs.declared.event.Act.{Act}
use Rattle.log_lang.specs.declared.event.Act.TheVariants as act
use Rattle.log_lang.specs.declared.event.Event.{Event}
use Rattle.log_lang.specs.Shown.{act_in, IsKnownAct, events_in, AreKnownEvents}

module _ {names later : List Text} (g : Grows names later) where
  act-grown : (a : Act) → IsKnownAct names a → act_in later a ≡ act_in names a
  act-grown act.Begin h = refl
  act-grown (act.Propose p) h = ap (λ (a : Asked). let o : log.Act = model.Propose a in o) (asked-later names p h.0 later g)
  act-grown act.Commit h = refl
  act-grown act.Undo h = refl
  act-grown act.Redo h = refl

  longer : length names ≤ length later
  longer = omega (arith, ap length g.grown, length-append names g.more)

  act_known-grown : (a : Act) → IsKnownAct names a → IsKnownAct later a
  act_known-grown act.Begin h = tt
  act_known-grown (act.Propose p) h = (omega (arith, h.0, longer), h.1)
  act_known-grown act.Commit h = tt
  act_known-grown act.Undo h = tt
  act_known-grown act.Redo h = tt

  -- events
  pub events-grown : (es : List Event) → AreKnownEvents names es → events_in later es ≡ events_in names es
  events-grown [] h = refl
  events-grown (e ∷ es) h = λ i. record { session = e.session; act = act-grown e.act h.0.act i } ∷ events-grown es h.1 i

  pub all_known-grown : (es : List Event) → AreKnownEvents names es → AreKnownEvents later es
  all_known-grown [] h = tt
  all_known-grown (e ∷ es) h = (record { first = h.0.first; last = h.0.last; act = act_known-grown e.act h.0.act }, all_known-grown es h.1)
