-- Events of the program in the words of the definitions.
use Rattle.std.specs.Prelude.{◌≡◌, ℕ, ◌≤◌, ◌<◌, ◌++◌, ◌∷◌, [], List, length, map, Option, Result, Ok, Err}
use Rattle.std.specs.List.{AllByRecursion}
use Rattle.std.specs.Option.{option_map_or}
use Rattle.team_core.specs.Events as model
use Rattle.proposals.specs.declared.proposal.Asked.{Asked}
use Rattle.proposals.specs.Proposed.{Proposed, IsNamed, asked_over, asked_in}
use Rattle.script_model.specs.Commands.{Cause, BadArgument}
use Rattle.log_model.specs.Events as log
use Rattle.log_lang.specs.declared.event.Act.{Act}
use Rattle.log_lang.specs.declared.event.Act.TheVariants as act
use Rattle.log_lang.specs.declared.event.Event.{Event}

-- what a session does, over texts
abbrev pub act_in : List (List ℕ) → Act → log.Act
act_in names act.Begin = model.Begin
act_in names (act.Propose p) = model.Propose (asked_in names p)
act_in names act.Commit = model.Commit
act_in names act.Undo = model.Undo
act_in names act.Redo = model.Redo

-- the names of what is proposed are among the first ones, as many as it says
abbrev pub IsKnownProposal : List (List ℕ) → Proposed → Type 0
IsKnownProposal names p = (p.names ≤ length names) × IsNamed p.names p.asked

abbrev pub IsKnownAct : List (List ℕ) → Act → Type 0
IsKnownAct names act.Begin = Unit {0}
IsKnownAct names (act.Propose p) = IsKnownProposal names p
IsKnownAct names act.Commit = Unit {0}
IsKnownAct names act.Undo = Unit {0}
IsKnownAct names act.Redo = Unit {0}

-- an event over texts; it is one of a session from 1 to 64
abbrev pub event_in : List (List ℕ) → Event → log.Event
event_in names e = record { session = e.session; act = act_in names e.act }

pub record IsKnownEvent (names : List (List ℕ)) (e : Event) : Type 0 where
  pub first : 1 ≤ e.session
  pub last : e.session ≤ 64
  pub act : IsKnownAct names e.act

-- events
abbrev pub events_in : List (List ℕ) → List Event → List log.Event
events_in names es = map (event_in names) es

abbrev pub AreKnownEvents : List (List ℕ) → List Event → Type 0
AreKnownEvents names es = AllByRecursion (IsKnownEvent names) es

-- what is proposed by lines, of which the one that asks for something to propose is the only one, if it is there
abbrev pub answer_of : List (List ℕ) → Option Asked → Result log.Act Cause
answer_of names found = option_map_or (λ a. Ok (model.Propose (asked_over names a))) found (Err BadArgument)

-- a line asks for the event that was put after the others
pub record HasAsked (names : List (List ℕ)) (line : List ℕ) (before after : List Event) : Type 0 where
  pub event : Event
  pub says : log.EventSays line (Ok (event_in names event))
  pub known : IsKnownEvent names event
  pub room : length before < log.event_limit
  pub added : after ≡ before ++ event ∷ []
