-- Events and replies of the program in the words of the definitions.
use Rattle.std.specs.Prelude.{◌≡◌, ℕ, suc, codes, List, [], ◌∷◌, ◌++◌, map}
use Rattle.std.specs.Fmt.{decimal}
use Rattle.rule_model.specs.RuleCommands.{Reason}
use Rattle.team_core.specs.declared.reply.Reply.{Reply}
use Rattle.team_core.specs.declared.reply.Reply.TheVariants.{Accepted, AlreadyOpen, NotOpen, Full, Stale, Refused}
use Rattle.team_core.specs.Events.{ActOf, Begin, Propose, Commit, Undo, Redo, PointOf}
use Rattle.team_laws.specs.Logs.{EventOf, replies, reached}
use Rattle.shown_logs.specs.Shown.{shown}
use Rattle.script_model.specs.Makers.{Text}
use Rattle.ruled_model.specs.RuledScripts.{Version}
use Rattle.apply_model.specs.Lines.{line}
use Rattle.proposals.specs.Proposed.{Proposed}
use Rattle.session_book.specs.Shared.{Shared, reason_text, book_rules, shared_history}
use Rattle.log_lang.specs.declared.event.Act.{Act}
use Rattle.log_lang.specs.declared.event.Act.TheVariants as act
use Rattle.log_lang.specs.declared.event.Event.{Event}

-- what a session does, and an event, for a team
abbrev pub team_act : Act → ActOf Proposed
team_act act.Begin = Begin
team_act (act.Propose p) = Propose p
team_act act.Commit = Commit
team_act act.Undo = Undo
team_act act.Redo = Redo

abbrev pub team_event : Event → EventOf Proposed
team_event e = record { session = e.session; act = team_act e.act }

abbrev pub team_events : List Event → List (EventOf Proposed)
team_events es = map team_event es

-- a reply with its reason as it is printed
abbrev pub told : Reply Reason → Reply Text
told r = shown reason_text r

-- it in words
abbrev pub told_text : Reply Text → Text
told_text (Accepted revision) = codes "ok " ++ decimal revision
told_text AlreadyOpen = codes "open"
told_text NotOpen = codes "closed"
told_text Full = codes "full"
told_text (Stale revision event) = codes "stale " ++ decimal revision ++ codes " " ++ decimal event
told_text (Refused nth cause) = codes "refused " ++ decimal nth ++ cause

-- its line, and the lines of several, the first of which has this number
abbrev pub told_line : ℕ → Reply Text → Text
told_line n r = line (decimal n ++ codes " " ++ told_text r)

abbrev pub told_lines : ℕ → List (Reply Text) → Text
told_lines n [] = []
told_lines n (r ∷ rs) = told_line n r ++ told_lines (suc n) rs

-- what is told of events that are played from a point on, by the rules of a table of names, and the history then
abbrev pub told_of : List Text → PointOf Version Proposed → List (EventOf Proposed) → Text
told_of names p es = told_lines 1 (replies (book_rules names) p es)

-- the team has played events, and these lines tell the replies
pub record HasPlayed (names : List Text) (p : PointOf Version Proposed) (es : List (EventOf Proposed)) (b : Shared) (before after : Text) : Type 0 where
  pub lines : after ≡ before ++ told_of names p es
  pub history : shared_history b ≡ (reached (book_rules names) p es).history
