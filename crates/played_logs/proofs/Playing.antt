-- How far a log was played.
use Rattle.std.proofs.Common.{◌≡◌, ◌<◌, ◌≤◌, ℕ, ◌+◌, Bool, IsTrue, List, [], ◌∷◌, ◌++◌, length, map, refl, sym, ap, subst, ◌∙◌, arith, append_assoc, length-append, codes}
use Rattle.std.specs.List.{AllByRecursion, list_all}
use Rattle.std.proofs.lemmas.Bool.{le-leb}
use Rattle.std.proofs.lemmas.List.{append-nil}
use Rattle.image_model.specs.Image.{ImageOf}
use Rattle.history_model.specs.History.{opened}
use Rattle.session_model.specs.Scripts.{rules}
use Rattle.ruled_model.specs.RuledScripts.{Version}
use Rattle.team_core.specs.declared.reply.Reply.{Reply}
use Rattle.team_core.specs.History.{RulesOf, Keeps}
use Rattle.team_core.specs.Events.{ActOf, Begin, Propose, Commit, Undo, Redo, PointOf, Answers, entry_of}
use Rattle.team_laws.specs.Logs.{EventOf, Fits, Runs, replies, reached}
use Rattle.team_laws.proofs.Running.{Runs-keeps, Runs-more}
use Rattle.team_core.proofs.Answering.{Keeps-same}
use Rattle.script_model.specs.Makers.{Text}
use Rattle.apply_model.specs.Lines.{line}
use Rattle.file_model.specs.Written.{file_of}
use Rattle.log_model.specs.Events.{Event as Asked}
use Rattle.log_lang.specs.declared.event.Act.{Act}
use Rattle.log_lang.specs.declared.event.Act.TheVariants as act
use Rattle.log_lang.specs.declared.event.Event.{Event}
use Rattle.log_lang.specs.Shown.{act_in, events_in, IsKnownAct, AreKnownEvents}
use Rattle.proposals.specs.Proposed.{Proposed, asked_in}
use Rattle.session_book.specs.Shared.{Shared, book_of, book_rules, fits_in, shared_history, reason_text}
use Rattle.play_model.specs.Replies.{team_rules, opening, replies_in, led_to, reply_lines}
use Rattle.play_model.specs.Played.{played}
use Rattle.played_logs.specs.Told.{team_act, team_event, team_events, told, told_line, told_lines, HasPlayed}
use Rattle.shown_logs.specs.Shown.{act_shown, event_shown, point_shown, AreShown}
use Rattle.shown_logs.proofs.Replies.{replies-shown, reached-shown}
use Rattle.shown_logs.proofs.Steady.{run-start}
use Rattle.played_logs.proofs.LinesWritten.{lines-told, lines-more}

-- a point of a log over the numbers of names
abbrev pub Point : Type 0
Point = PointOf Version Proposed

-- what a session proposes fits, if its names are among those of the image
fits-act : (names : List Text) (a : Act) → IsKnownAct names a → Fits (fits_in names) (team_act a)
fits-act names act.Begin h = tt
fits-act names (act.Propose p) h = le-leb p.names (length names) h.0
fits-act names act.Commit h = tt
fits-act names act.Undo h = tt
fits-act names act.Redo h = tt

fits-kept : {S C Q : Type 0} (old new : RulesOf S C Q) (f g : C → Bool) → Keeps old f new g → (a : ActOf C) → Fits f a → Fits g a
fits-kept old new f g keeps Begin h = tt
fits-kept old new f g keeps (Propose c) h = keeps.fit c h
fits-kept old new f g keeps Commit h = tt
fits-kept old new f g keeps Undo h = tt
fits-kept old new f g keeps Redo h = tt

-- The events before the rest are played: they have these replies and lead to this point, and their lines are appended. There is room for the rest.
pub record IsAmid (start : List Text) (p : Point) (all : List Event) (rest : List Event) (names : List Text) (q : Point) (number : ℕ) (before after : Text) : Type 0 where
  pub done : List (EventOf Proposed)
  pub told_so_far : List (Reply Text)
  pub parts : done ++ team_events rest ≡ team_events all
  pub runs : Runs (book_rules start) (fits_in start) p done told_so_far (book_rules names) (fits_in names) q
  pub fit : AllByRecursion (λ (e : EventOf Proposed). Fits (fits_in start) e.act) done
  pub counted : number ≡ length told_so_far
  pub lines : after ≡ before ++ told_lines 1 told_so_far
  pub known : AreKnownEvents start rest
  pub room : length q.log + length rest ≤ 10000
  pub few : number + length rest ≤ 10000

pub amid-none : (start : List Text) (p : Point) (all left : List Event) (text : Text) → left ≡ all → AreKnownEvents start all → length p.log + length all ≤ 10000 → IsAmid start p all left start p 0 text text
amid-none start p all left text same known room = subst (λ (es : List Event). IsAmid start p all es start p 0 text text) (sym same) (record {
  done = [];
  told_so_far = [];
  parts = refl;
  runs = (refl, Keeps-same (book_rules start) (fits_in start));
  fit = tt;
  counted = refl;
  lines = sym (append-nil text);
  known = known;
  room = room;
  few = omega (arith, room);
})

lines-at : (before after longer first last both : Text) → after ≡ before ++ first → longer ≡ after ++ last → first ++ last ≡ both → longer ≡ before ++ both
lines-at before after longer first last both so more join =
    more ∙ ap (λ (t : Text). t ++ last) so ∙ append_assoc before first last ∙ ap (λ (t : Text). before ++ t) join

-- one more line after others
lines-next : (before after longer : Text) (rs : List (Reply Text)) (r : Reply Text) (number : ℕ) → number ≡ length rs → after ≡ before ++ told_lines 1 rs → longer ≡ after ++ told_line (number + 1) r
    → longer ≡ before ++ told_lines 1 (rs ++ r ∷ [])
lines-next before after longer rs r number counted so more =
    let place : number + 1 ≡ 1 + length rs = omega (arith, counted) in
    let last : told_lines 1 rs ++ told_line (number + 1) r ≡ told_lines 1 (rs ++ r ∷ []) = ap (λ (k : ℕ). told_lines 1 rs ++ told_line k r) place ∙ sym (lines-more 1 rs r) in
    lines-at before after longer (told_lines 1 rs) (told_line (number + 1) r) (told_lines 1 (rs ++ r ∷ [])) so more last

one-more : {X : Type 0} (P : X → Type 0) (xs : List X) (x : X) → AllByRecursion P xs → P x → AllByRecursion P (xs ++ x ∷ [])
one-more P [] x all h = (h, tt)
one-more P (y ∷ ys) x all h = (all.0, one-more P ys x all.1 h)

module _ {start : List Text} {p : Point} {all left : List Event} {names : List Text} {q : Point} {number : ℕ} {before after : Text} (e : Event) (rest : List Event) (cut : left ≡ e ∷ rest)
    (here : IsAmid start p all left names q number before after) where
  amid : IsAmid start p all (e ∷ rest) names q number before after
  amid = subst (λ (es : List Event). IsAmid start p all es names q number before after) cut here

  -- the next event is one of a session, and there is room for it
  pub session-next : (1 ≤ e.session) × (e.session ≤ 64)
  session-next = (amid.known.0.first, amid.known.0.last)

  pub room-next : length q.log < 10000
  room-next = omega (arith, amid.room)

  pub count-next : number < 10000
  count-next = omega (arith, amid.few)

  -- it fits
  pub fits-next : Fits (fits_in names) (team_act e.act)
  fits-next =
      fits-kept (book_rules start) (book_rules names) (fits_in start) (fits_in names) (Runs-keeps (book_rules start) (fits_in start) p amid.done amid.told_so_far (book_rules names) (fits_in names) q amid.runs)
      (team_act e.act) (fits-act start e.act amid.known.0.act)

  -- and is played
  pub amid-next : (r : Reply Text) (m : Point) (later : List Text) (longer : Text) → Answers (book_rules names) q e.session (team_act e.act) r m →
      Keeps (book_rules names) (fits_in names) (book_rules later) (fits_in later) → longer ≡ after ++ told_line (number + 1) r → IsAmid start p all rest later m (number + 1) before longer
  amid-next r m later longer answers keeps more = record {
    done = amid.done ++ team_event e ∷ [];
    told_so_far = amid.told_so_far ++ r ∷ [];
    parts = append_assoc amid.done (team_event e ∷ []) (team_events rest) ∙ amid.parts;
    runs = Runs-more (book_rules start) (fits_in start) p amid.done amid.told_so_far (book_rules names) (fits_in names) q amid.runs (team_event e) r m answers fits-next (book_rules later) (fits_in later) keeps;
    fit = one-more (λ (d : EventOf Proposed). Fits (fits_in start) d.act) amid.done (team_event e) amid.fit (fits-act start e.act amid.known.0.act);
    counted = omega (arith, amid.counted, length-append amid.told_so_far (r ∷ []));
    lines = lines-next before after longer amid.told_so_far r number amid.counted amid.lines more;
    known = amid.known.1;
    room = omega (arith, amid.room, ap length answers.log, length-append q.log (entry_of q e.session (team_act e.act) r ∷ []));
    few = omega (arith, amid.few);
  }

nil-of : {X : Type 0} (xs : List X) → length xs ≡ 0 → xs ≡ []
nil-of [] e = refl
nil-of (x ∷ xs) e = absurd (omega (arith, e))

-- all events
pub amid-all : {start : List Text} {p : Point} {all left : List Event} {names : List Text} {q : Point} {number : ℕ} {before after : Text} (b : Shared) → length left ≡ 0 → q.history ≡ shared_history b →
    ((s : ℕ) → IsTrue (list_all (fits_in start) (p.proposed s))) → IsAmid start p all left names q number before after → HasPlayed start p (team_events all) b before after
amid-all {start} {p} {all} {left} {names} {q} {number} {before} {after} b none at fit here =
    let amid : IsAmid start p all [] names q number before after = subst (λ (es : List Event). IsAmid start p all es names q number before after) (nil-of left none) here in
    let every : amid.done ≡ team_events all = sym (append-nil amid.done) ∙ amid.parts in
    let by = run-start (book_rules start) (book_rules names) (fits_in start) (fits_in names) p q amid.done amid.told_so_far amid.runs fit amid.fit in
    record {
      lines = amid.lines ∙ ap (λ (rs : List (Reply Text)). before ++ told_lines 1 rs) (by.0 ∙ ap (replies (book_rules start) p) every);
      history = sym at ∙ ap (λ (x : Point). x.history) (by.1 ∙ ap (reached (book_rules start) p) every);
    }

-- the events over texts
events-shown : (names : List Text) (es : List Event) → map (event_shown (asked_in names)) (team_events es) ≡ events_in names es
events-shown names [] = refl
events-shown names (e ∷ es) = λ i. record { session = e.session; act = by e.act i } ∷ events-shown names es i
  where
    by : (a : Act) → act_shown (asked_in names) (team_act a) ≡ act_in names a
    by act.Begin = refl
    by (act.Propose p) = refl
    by act.Commit = refl
    by act.Undo = refl
    by act.Redo = refl

-- the rules over texts
are-shown : (names : List Text) → AreShown (asked_in names) reason_text (book_rules names) team_rules
are-shown names = record { relation = λ s c. refl; no_earlier = refl; no_later = refl }

module _ (names : List Text) (i : ImageOf Text) (p : Point) (es : List Event) (b : Shared) (text : Text)
    (log : p.log ≡ []) (proposed : (s : ℕ) → p.proposed s ≡ []) (history : p.history ≡ book_of (opened rules i)) (has : HasPlayed names p (team_events es) b [] text) where
  opens : point_shown (asked_in names) p ≡ opening i
  opens = λ j. record { log = log j; proposed = λ s. map (asked_in names) (proposed s j); history = history j }

  -- the lines are those of the replies
  pub lines-played : text ≡ reply_lines 1 (replies_in i (events_in names es))
  lines-played =
      has.lines
      ∙ ap (told_lines 1) (replies-shown (asked_in names) reason_text (book_rules names) team_rules (are-shown names) p (team_events es)
      ∙ (λ j. map told (replies team_rules (opens j) (events-shown names es j))))
      ∙ lines-told 1 (replies_in i (events_in names es))

  -- and the history is that of the log
  pub history-played : shared_history b ≡ (led_to i (events_in names es)).history
  history-played =
      has.history
      ∙ reached-shown (asked_in names) reason_text (book_rules names) team_rules (are-shown names) p (team_events es)
      ∙ (λ j. (reached team_rules (opens j) (events-shown names es j)).history)

-- what is sent in all
sent-in-all : (lines wanted between last file marked sent : Text) → lines ≡ wanted → last ≡ file → marked ≡ lines ++ between → sent ≡ marked ++ last → sent ≡ (wanted ++ between) ++ file
sent-in-all lines wanted between last file marked sent are is mark all =
    all ∙ ap (λ (t : Text). t ++ last) (mark ∙ ap (λ (t : Text). t ++ between) are) ∙ ap (λ (t : Text). (wanted ++ between) ++ t) is

pub all-played : (i : ImageOf Text) (es : List Asked) (lines marked sent : Text) (j : ImageOf Text) → lines ≡ reply_lines 1 (replies_in i es) → j ≡ (led_to i es).history.now.image →
    marked ≡ lines ++ line (codes "--") → sent ≡ marked ++ file_of j → sent ≡ played i es
all-played i es lines marked sent j told_are image mark file =
    sent-in-all lines (reply_lines 1 (replies_in i es)) (line (codes "--")) (file_of j) (file_of (led_to i es).history.now.image) marked sent told_are (ap file_of image) mark file
