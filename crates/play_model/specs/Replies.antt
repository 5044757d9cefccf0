-- The replies to a log in an image, and the lines that tell them.
use Rattle.std.specs.Prelude.{ℕ, suc, codes, List, [], ◌∷◌, ◌++◌}
use Rattle.std.specs.Fmt.{decimal}
use Rattle.text_model.specs.Pieces.{pieces_joined}
use Rattle.image_model.specs.Image.{ImageOf}
use Rattle.history_model.specs.History.{after_action}
use Rattle.history_model.specs.History as history
use Rattle.rule_model.specs.RuleCommands.{Reason}
use Rattle.ruled_model.specs.RuledScripts.{Asked, Version, ruled}
use Rattle.team_core.specs.declared.reply.Reply.{Reply}
use Rattle.team_core.specs.declared.reply.Reply.TheVariants.{Accepted, AlreadyOpen, NotOpen, Full, Stale, Refused}
use Rattle.team_core.specs.History.{RulesOf}
use Rattle.team_core.specs.Events.{PointOf}
use Rattle.team_laws.specs.Logs.{replies, reached}
use Rattle.script_model.specs.Makers.{Text}
use Rattle.log_model.specs.Events.{Event}
use Rattle.apply_model.specs.Lines.{line, reason_words}

-- what commands, composites and rules make of versions of an image, and why undo and redo are refused
abbrev pub team_rules : RulesOf Version Asked Reason
team_rules = record { relation = after_action ruled; no_earlier = ruled.undo_left; no_later = ruled.redo_left }

-- a point of a log: its events, what each session has proposed, and the versions
abbrev pub Point : Type 0
Point = PointOf Version Asked

-- where a log begins: nothing has happened, and the image is the only version
abbrev pub opening : ImageOf Text → Point
opening i = record { log = []; proposed = λ s. []; history = record { earlier = []; now = (history.opened ruled i).now; later = [] } }

-- the replies to the events of a log, and where it leads
abbrev pub replies_in : ImageOf Text → List Event → List (Reply Reason)
replies_in i events = replies team_rules (opening i) events

abbrev pub led_to : ImageOf Text → List Event → Point
led_to i events = reached team_rules (opening i) events

-- a reply in words
abbrev pub reply_text : Reply Reason → Text
reply_text (Accepted revision) = codes "ok " ++ decimal revision
reply_text AlreadyOpen = codes "open"
reply_text NotOpen = codes "closed"
reply_text Full = codes "full"
reply_text (Stale revision event) = codes "stale " ++ decimal revision ++ codes " " ++ decimal event
reply_text (Refused nth reason) = pieces_joined (codes " ") (codes "refused" ∷ decimal nth ∷ reason_words reason)

-- the line of an event: its number and its reply
abbrev pub reply_line : ℕ → Reply Reason → Text
reply_line n reply = line (decimal n ++ codes " " ++ reply_text reply)

-- the lines of events, the first of which has this number
abbrev pub reply_lines : ℕ → List (Reply Reason) → Text
reply_lines n [] = []
reply_lines n (r ∷ rs) = reply_line n r ++ reply_lines (suc n) rs
