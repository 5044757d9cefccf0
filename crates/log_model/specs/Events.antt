-- What the text of a log asks for: what sessions do, in order, or its first line that is wrong.
use Rattle.std.specs.Prelude.{◌≡◌, ℕ, ◌+◌, ◌≤◌, nat_lt, Bool, false, true, if◌then◌else◌, codes, List, [], ◌∷◌, ◌++◌, length, Option, Some, None, Result, Ok, Err}
use Rattle.std.specs.List.{list_all}
use Rattle.rb_base.specs.Names.{text_eq}
use Rattle.token_model.specs.Bytes.{is_blank}
use Rattle.command_words.specs.Spelling.{number_of}
use Rattle.history_model.specs.Rules.{Perform}
use Rattle.ruled_model.specs.RuledScripts.{Asked, Line}
use Rattle.team_core.specs.Events.{ActOf, Begin, Propose, Commit, Undo, Redo}
use Rattle.team_laws.specs.Logs.{EventOf}
use Rattle.script_model.specs.Makers.{Text}
use Rattle.script_model.specs.Commands.{Cause, UnknownCommand, BadArgument, TooMany}
use Rattle.script_model.specs.Additions.{first_word, behind_word}
use Rattle.script_model.specs.Lines.{lines_of, is_skipped, spoken}
use Rattle.script_model.specs.Scripts.{Says, IsRefused}

-- what a session does, and an event: which session does what
abbrev pub Act : Type 0
Act = ActOf Asked

abbrev pub Event : Type 0
Event = EventOf Asked

-- the most events of a log, and the highest number of a session
abbrev pub event_limit : ℕ
event_limit = 10000

abbrev pub last_session : ℕ
last_session = 64

-- what a session does by a word that stands alone
abbrev pub lone_act : Text → Option Act
lone_act w =
    if text_eq w (codes "begin") then Some Begin
    else if text_eq w (codes "commit") then Some Commit
    else if text_eq w (codes "undo") then Some Undo
    else if text_eq w (codes "redo") then Some Redo
    else None

-- whether a text says nothing
abbrev pub is_blank_text : Text → Bool
is_blank_text t = list_all is_blank t

-- the word by which a session proposes
abbrev pub IsPropose : Text → Type 0
IsPropose w = text_eq w (codes "propose") ≡ true

-- what is proposed by a script: what its line asks for, a rule with its certificate too, if that is all; undo and redo are not proposed
abbrev pub proposing : List Line → Result Act Cause
proposing (Perform asked ∷ []) = Ok (Propose asked)
proposing requests = Err BadArgument

-- What a session does by a word and the text after it: a word that stands alone; or `propose`, with a script of one command after it; or nothing.
pub data ActSays (w behind : Text) (answer : Result Act Cause) : Type 0 where
  Alone : (act : Act) → text_eq w (codes "propose") ≡ false → lone_act w ≡ Some act → answer ≡ (if is_blank_text behind then Ok act else Err BadArgument) → ActSays w behind answer
  Proposes : (requests : List Line) → IsPropose w → Says behind requests → answer ≡ proposing requests → ActSays w behind answer
  ProposesWrong : (number : ℕ) (cause : Cause) → IsPropose w → IsRefused behind number cause → answer ≡ Err cause → ActSays w behind answer
  NoAct : text_eq w (codes "propose") ≡ false → lone_act w ≡ None → answer ≡ Err UnknownCommand → ActSays w behind answer

-- the event of a session that does so
abbrev pub done_by : ℕ → Result Act Cause → Result Event Cause
done_by session (Ok act) = Ok (record { session = session; act = act })
done_by session (Err cause) = Err cause

-- What a line asks for, or why it asks for nothing: the number of a session, and after it what that session does.
pub data EventSays (line : Text) (answer : Result Event Cause) : Type 0 where
  NoSession : number_of last_session (first_word line) ≡ None → answer ≡ Err BadArgument → EventSays line answer
  Wordless : (session : ℕ) → number_of last_session (first_word line) ≡ Some session → is_blank_text (behind_word line) ≡ true → answer ≡ Err BadArgument → EventSays line answer
  Does : (session : ℕ) (act : Result Act Cause) → number_of last_session (first_word line) ≡ Some session → is_blank_text (behind_word line) ≡ false →
      ActSays (first_word (behind_word line)) (behind_word (behind_word line)) act → answer ≡ done_by session act → EventSays line answer

-- each of these lines asks for one of these, in order
abbrev pub EachSays : List Text → List Event → Type 0
EachSays [] [] = Unit {0}
EachSays [] (e ∷ es) = ⊥
EachSays (l ∷ ls) [] = ⊥
EachSays (l ∷ ls) (e ∷ es) = EventSays l (Ok e) × EachSays ls es

-- The lines ask for these events, but for those that say nothing; there are no more events than there may be.
pub record Say (lines : List Text) (events : List Event) : Type 0 where
  pub each : EachSays (spoken lines) events
  pub few : length events ≤ event_limit

-- what a log asks for
abbrev pub LogSays : Text → List Event → Type 0
LogSays text events = Say (lines_of text) events

-- why a line is wrong, after so many events
abbrev pub cause_of : ℕ → Result Event Cause → Option Cause
cause_of count (Ok event) = if nat_lt count event_limit then None else Some TooMany
cause_of count (Err cause) = Some cause

-- a line is wrong with this cause, after so many events
pub record IsWrong (line : Text) (count : ℕ) (cause : Cause) : Type 0 where
  pub answer : Result Event Cause
  pub says : EventSays line answer
  pub wrong : cause_of count answer ≡ Some cause

-- The line of this number, from 1, is the first of a log that is wrong: the lines before it ask for something each, and it asks for nothing, or is one too many.
pub record IsLogRefused (text : Text) (number : ℕ) (cause : Cause) : Type 0 where
  pub before : List Text
  pub line : Text
  pub after : List Text
  pub events : List Event
  pub parts : lines_of text ≡ before ++ line ∷ after
  pub numbered : number ≡ length before + 1
  pub said_before : Say before events
  pub says_something : is_skipped line ≡ false
  pub wrong : IsWrong line (length events) cause
