-- What is answered to a log that is played, and to one that is wrong.
use Rattle.std.proofs.Common.{◌≡◌, ℕ, List, [], ◌++◌, Option, Some, None, refl, ap, subst, sym, codes}
use Rattle.std.specs.Prelude.{MatchOption}
use Rattle.image_model.specs.Image.{ImageOf}
use Rattle.class_table.specs.View.{image_of}
use Rattle.history_model.specs.History.{opened}
use Rattle.session_model.specs.Scripts.{rules}
use Rattle.ruled_model.specs.RuledScripts.{Version}
use Rattle.team_core.specs.History.{HistoryOf, IsOpening, Keeps}
use Rattle.team_core.proofs.Answering.{Keeps-same}
use Rattle.script_model.specs.Makers.{Text}
use Rattle.script_model.specs.Commands.{Cause}
use Rattle.script_lang.specs.declared.fault.ScriptFault.{ScriptFault}
use Rattle.script_lang.specs.Shown.{fault_shown}
use Rattle.file_model.specs.Written.{file_of}
use Rattle.apply_model.specs.declared.status.Status.TheVariants as status
use Rattle.apply_model.specs.Lines.{line, script_line}
use Rattle.log_model.specs.Events.{IsLogRefused}
use Rattle.log_lang.specs.declared.event.Event.{Event}
use Rattle.log_lang.specs.Shown.{events_in}
use Rattle.session_book.specs.Shared.{Shared, book_of, book_rules, fits_in}
use Rattle.play_model.specs.Played.{played, PlaysIn, NoLog}
use Rattle.played_logs.specs.Told.{team_events, HasPlayed}
use Rattle.played_logs.proofs.Playing.{Point, lines-played, history-played, all-played}

-- a log that is wrong
pub wrong-log : (i : ImageOf Text) (log sent : Text) (fault : ScriptFault) → ((n : ℕ) (cause : Cause) → fault_shown fault ≡ Some (n, cause) → IsLogRefused log n cause)
    → MatchOption (fault_shown fault) ⊥ (λ f. sent ≡ script_line f.0 f.1) → PlaysIn i log status.ScriptText sent
wrong-log i log sent fault told told_line = by (fault_shown fault) refl told_line
  where
    by : (o : Option (ℕ × Cause)) → fault_shown fault ≡ o → MatchOption o ⊥ (λ f. sent ≡ script_line f.0 f.1) → PlaysIn i log status.ScriptText sent
    by None e l = absurd l
    by (Some f) e l = NoLog f.0 f.1 (told f.0 f.1 e) refl l

-- the rules and what fits stay if the book does
pub book-stays : (old new : Shared) → new ≡ old → Keeps (book_rules old.image.names) (fits_in old.image.names) (book_rules new.image.names) (fits_in new.image.names)
book-stays old new e = subst (λ (b : Shared). Keeps (book_rules old.image.names) (fits_in old.image.names) (book_rules b.image.names) (fits_in b.image.names)) (sym e) (Keeps-same (book_rules old.image.names) (fits_in old.image.names))

-- the book of an image with which nothing was done
pub is-opening : (i : ImageOf Text) (b : HistoryOf Version) → b ≡ book_of (opened rules i) → IsOpening b
is-opening i b e = subst (λ (h : HistoryOf Version). IsOpening h) (sym e) (refl, refl)

-- the answer to a log that is played from the first version of an image on
pub answer-played : (names start : List Text) (i : ImageOf Text) (p : Point) (es : List Event) (b : Shared) (before lines marked sent : Text) → start ≡ names → p.log ≡ [] → ((s : ℕ) → p.proposed s ≡ [])
    → p.history ≡ book_of (opened rules i) → HasPlayed start p (team_events es) b before lines → before ≡ [] → marked ≡ lines ++ line (codes "--") → sent ≡ marked ++ file_of (image_of b.image)
    → sent ≡ played i (events_in names es)
answer-played names start i p es b before lines marked sent same log proposed history has empty mark file =
    let all : HasPlayed start p (team_events es) b [] lines = subst (λ (t : Text). HasPlayed start p (team_events es) b t lines) empty has in
    subst (λ (ns : List Text). sent ≡ played i (events_in ns es)) same (
    all-played i (events_in start es) lines marked sent (image_of b.image) (lines-played start i p es b lines log proposed history all)
    (ap (λ (h : HistoryOf Version). h.now.image) (history-played start i p es b lines log proposed history all)) mark file)
