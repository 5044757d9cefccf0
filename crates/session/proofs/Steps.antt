-- Each way in which a step ends.
use Rattle.std.proofs.Common.{◌≡◌, ◌<◌, ◌≤◌, ℕ, ◌+◌, List, [], ◌∷◌, ◌++◌, length, take, drop, reverse, get_or, set, Option, None, Some, Result, Ok, Err, refl, sym, ap, subst, ◌∙◌}
use Rattle.std.specs.Prelude.{OnErr}
use Rattle.std.specs.Option.{option_map_or}
use Rattle.std.proofs.lemmas.List.{drop_all, set-get_or}
use Rattle.rb_base.specs.Names.{name_at, text_eq}
use Rattle.run_model.specs.Values.{Name}
use Rattle.class_table.specs.Slots.{Slots}
use Rattle.class_table.specs.Valid.{IsOrderly}
use Rattle.class_table.specs.View.{image_of}
use Rattle.class_table.specs.declared.record.Place.{Place}
use Rattle.history_model.specs.Rules.{Perform, Undo, Redo}
use Rattle.history_model.specs.History.{stepped, by_result, after_all, appended}
use Rattle.rename_model.specs.ClassRenamed.{canonical}
use Rattle.command_model.specs.Asked.{text_asked}
use Rattle.command_model.specs.Commands.{CommandOf}
use Rattle.command_model.specs.Conditions.{ConditionOf}
use Rattle.command_numbers.specs.MappedCommands.{map_condition}
use Rattle.session_model.specs.Actions.{ActionOf}
use Rattle.session_model.specs.OwnConditions.{first_own_false}
use Rattle.session_model.specs.Steps.{steps_of}
use Rattle.session_model.specs.Scripts.{Version, History, rules}
use Rattle.commands.specs.Views.{condition_of}
use Rattle.commands.specs.declared.condition.Condition.{Condition}
use Rattle.commands.specs.declared.condition.Condition.TheVariants as condition
use Rattle.reference_index.specs.Mentioned.{Mentioned, IsIndexOf}
use Rattle.wider_slots.specs.Closed.{IsClosed}
use Rattle.wider_slots.proofs.StepLemmas.{wider-same}
use Rattle.session.specs.Log.{Done, Log, log_at, taken_back, done_again, CanGoBack, CanGoForth, EntriesKnown, IsLogOf}
use Rattle.session.specs.History.{renamed_back, renaming_at, version_behind, history_of}
use Rattle.session.specs.Stepping.{IsUnderWay, IsCarriedOut, IsStepped, after_commands}
use Rattle.session.specs.declared.refusal.StepRefusal.{StepRefusal}
use Rattle.session.specs.declared.refusal.StepRefusal.TheVariants as refusal
use Rattle.session.proofs.Kept.{again-names, back-names}
use Rattle.session.proofs.Room.{room-names, room-back, room-version, room-before, room-log, room-history, entries-longer}
use Rattle.session.proofs.Logs.{again, back_again, renewed, is-index, log-again, log-back, history-again, history-back}
use Rattle.session.proofs.UnderWay.{Follows}
use Rattle.session.proofs.Entries.{last-done, first-undone, last-done-set, first-undone-set, last-pushed}

-- what becomes of a step
abbrev pub Outcome : Type 0
Outcome = Result History (ConditionOf Name)

module _ (s : Slots) (log : Log) (wanted : Outcome) (is : IsLogOf s log) where
  -- nothing is changed for want of memory
  pub stays : IsStepped s log wanted s log (Err refusal.Memory)
  stays = record { log = is; names = refl; done = tt; same = refl; room = wider-same s is.closed; refused = λ c e. cc }

  -- or for a condition
  pub refuses : (c : Condition) → wanted ≡ Err (map_condition (name_at s.names) (condition_of c)) → IsStepped s log wanted s log (Err (refusal.Condition c))
  refuses c e = record {
    log = is;
    names = refl;
    done = tt;
    same = refl;
    room = wider-same s is.closed;
    refused = λ d same.
        let one : c ≡ d = cc in
        subst (λ (b : Condition). wanted ≡ Err (map_condition (name_at s.names) (condition_of b))) one e;
  }

-- what is made of a log that stands for the same history as a former one
module _ (s : Slots) (former log : Log) (wanted : Outcome) (same : history_of s log ≡ history_of s former) where
  pub stepped-since : (t : Slots) (next : Log) (result : Result (Unit {0}) StepRefusal) → IsStepped s log wanted t next result → IsStepped s former wanted t next result
  stepped-since t next result is = record {
    log = is.log;
    names = is.names;
    done = is.done;
    same = subst (λ (h : History). OnErr result (history_of t next ≡ h)) same is.same;
    room = is.room;
    refused = is.refused;
  }

  pub refused-since : IsLogOf s log → (e : StepRefusal) → ((c : Condition) → e ≡ refusal.Condition c → wanted ≡ Err (map_condition (name_at s.names) (condition_of c))) → IsStepped s former wanted s log (Err e)
  refused-since is e why = record { log = is; names = refl; done = tt; same = same; room = wider-same s is.closed; refused = why }

-- where the slots, the index and the entry are as before
pub stays-with : (s t : Slots) (x y : Mentioned) (stale : List Place) (es : List Done) (k n : ℕ) (d e : Done) (wanted : Outcome) → IsLogOf s (log_at x stale es n) → t ≡ s → e ≡ d → y ≡ x → d ≡ get_or es k d
    → IsStepped s (log_at x stale es n) wanted t (log_at y stale (set es k e) n) (Err refusal.Memory)
stays-with s t x y stale es k n d e wanted is image entry index at =
    let same : log_at y stale (set es k e) n ≡ log_at x stale es n = λ i. log_at (index i) stale ((ap (set es k) (entry ∙ at) ∙ set-get_or es k d) i) n in
    subst (λ (l : Log). IsStepped s (log_at x stale es n) wanted t l (Err refusal.Memory)) (sym same) (
    subst (λ (z : Slots). IsStepped s (log_at x stale es n) wanted z (log_at x stale es n) (Err refusal.Memory)) (sym image) (stays s (log_at x stale es n) wanted is))

module _ (s : Slots) (x y : Mentioned) (e : Done) (back forth : List Done) where
  abbrev undone_from : Log
  undone_from = record { index = x; stale = []; back = e ∷ back; forth = forth }

  abbrev redone_from : Log
  redone_from = record { index = x; stale = []; back = back; forth = e ∷ forth }

  -- the nearest entry is taken back
  back-made : IsLogOf s undone_from → Follows (taken_back s e.commands) x y e.touched
      → IsStepped s undone_from (stepped rules (history_of s undone_from) Undo) (taken_back s e.commands) (record { index = y; stale = []; back = back; forth = back_again s e ∷ forth }) (Ok tt)
  back-made is follows = record {
    log = log-back s e x y [] back forth is (follows s (is-index s x [] refl is.index) is.back.1);
    names = back-names s e.commands;
    done = history-back s e x y [] back forth is;
    same = tt;
    room = tt;
    refused = tt;
  }

  -- the nearest entry is done again
  again-made : IsLogOf s redone_from → Follows (done_again s e.commands) x y e.touched
      → IsStepped s redone_from (stepped rules (history_of s redone_from) Redo) (done_again s e.commands) (record { index = y; stale = []; back = again s e ∷ back; forth = forth }) (Ok tt)
  again-made is follows = record {
    log = log-again s e x y [] back forth is (follows s (is-index s x [] refl is.index) is.forth.1);
    names = again-names s e.commands;
    done = history-again s e x y [] back forth is;
    same = tt;
    room = tt;
    refused = tt;
  }

-- the same of a list of entries
module _ (s t : Slots) (x y : Mentioned) (es : List Done) (k : ℕ) (d e : Done) (h : k < length es) (at : d ≡ get_or es k d) where
  abbrev before : List Done
  before = reverse (take k es)

  abbrev after : List Done
  after = drop (k + 1) es

  pub back-stepped : IsLogOf s (log_at x [] es (k + 1)) → t ≡ taken_back s d.commands → e ≡ back_again s d → Follows t x y d.touched
      → IsStepped s (log_at x [] es (k + 1)) (stepped rules (history_of s (log_at x [] es (k + 1))) Undo) t (log_at y [] (set es k e) k) (Ok tt)
  back-stepped is made left follows =
      let first =
      back-made s x y d before after (subst (IsLogOf s) (last-done x [] es k h d at) is) (subst (λ (z : Slots). Follows z x y d.touched) made follows) in
      subst (λ (l : Log). IsStepped s l (stepped rules (history_of s l) Undo) t (log_at y [] (set es k e) k) (Ok tt)) (sym (last-done x [] es k h d at)) (
      subst (λ (l : Log). IsStepped s (undone_from s x y d before after) (stepped rules (history_of s (undone_from s x y d before after)) Undo) t l (Ok tt)) (sym (first-undone-set y [] es k h e)) (
      subst (λ (b : Done). IsStepped s (undone_from s x y d before after) (stepped rules (history_of s (undone_from s x y d before after)) Undo) t (record { index = y; stale = []; back = before; forth = b ∷ after }) (Ok tt)) (sym left) (
      subst (λ (z : Slots). IsStepped s (undone_from s x y d before after) (stepped rules (history_of s (undone_from s x y d before after)) Undo) z (record { index = y; stale = []; back = before; forth = back_again s d ∷ after }) (Ok tt)) (sym made) first)))

  pub again-stepped : IsLogOf s (log_at x [] es k) → t ≡ done_again s d.commands → e ≡ again s d → Follows t x y d.touched
      → IsStepped s (log_at x [] es k) (stepped rules (history_of s (log_at x [] es k)) Redo) t (log_at y [] (set es k e) (k + 1)) (Ok tt)
  again-stepped is made left follows =
      let first =
      again-made s x y d before after (subst (IsLogOf s) (first-undone x [] es k h d at) is) (subst (λ (z : Slots). Follows z x y d.touched) made follows) in
      subst (λ (l : Log). IsStepped s l (stepped rules (history_of s l) Redo) t (log_at y [] (set es k e) (k + 1)) (Ok tt)) (sym (first-undone x [] es k h d at)) (
      subst (λ (l : Log). IsStepped s (redone_from s x y d before after) (stepped rules (history_of s (redone_from s x y d before after)) Redo) t l (Ok tt)) (sym (last-done-set y [] es k h e)) (
      subst (λ (b : Done). IsStepped s (redone_from s x y d before after) (stepped rules (history_of s (redone_from s x y d before after)) Redo) t (record { index = y; stale = []; back = b ∷ before; forth = after }) (Ok tt)) (sym left) (
      subst (λ (z : Slots). IsStepped s (redone_from s x y d before after) (stepped rules (history_of s (redone_from s x y d before after)) Redo) z (record { index = y; stale = []; back = again s d ∷ before; forth = after }) (Ok tt)) (sym made) first)))

-- what the entries are that can be taken
module _ (s : Slots) (x : Mentioned) (stale : List Place) (es : List Done) (k : ℕ) (d : Done) (h : k < length es) (at : d ≡ get_or es k d) where
  pub back-can : IsLogOf s (log_at x stale es (k + 1)) → CanGoBack s d.commands
  back-can is = (subst (IsLogOf s) (last-done x stale es k h d at) is).back.0

  pub again-can : IsLogOf s (log_at x stale es k) → CanGoForth s d.commands
  again-can is = (subst (IsLogOf s) (first-undone x stale es k h d at) is).forth.0

-- an action without commands
abbrev pub no_commands : Done
no_commands = record { commands = []; touched = [] }

pub begins : (s : Slots) (log : Log) → IsLogOf s log → log.stale ≡ [] → IsUnderWay s s log.index no_commands
begins s log is renewed_there = record {
  closed = is.closed;
  orderly = is.orderly;
  index_of = is-index s log.index log.stale renewed_there is.index;
  back = tt;
  known = tt;
  room = wider-same s is.closed;
  touched = λ p no. refl;
}

-- the log with one more entry, which drops what was undone, and the log once that entry is taken back
abbrev pub noted : Mentioned → Done → Log → Log
noted y e log = record { index = y; stale = []; back = e ∷ log.back; forth = [] }

abbrev pub gone : Mentioned → Done → Log → Log
gone y e log = record { index = y; stale = e.touched; back = log.back; forth = log.forth }

-- commands that lead back to slots with room
module _ (s t : Slots) (log : Log) (y : Mentioned) (e : Done) (is : IsLogOf s log) (way : IsUnderWay s t y e) where
  -- the slots before them
  abbrev start : Slots
  start = taken_back t e.commands

  -- are one more entry
  pub noted-log : IsLogOf t (noted y e log)
  noted-log = record {
    closed = way.closed;
    orderly = way.orderly;
    index = renewed t y way.index_of;
    back = (way.back, way.touched, room-back s start log.back way.room is.back);
    forth = tt;
    back_known = (
      way.known,
      subst (λ (names : List (List ℕ)). EntriesKnown (length names) log.back) (back-names t e.commands)
          (entries-longer (length s.names) (length start.names) (room-names s start way.room) log.back is.back_known),
    );
    forth_known = tt;
  }

  pub noted-history : history_of t (noted y e log) ≡ appended rules (history_of s log) (version_behind t (renaming_at s log.back) e.commands)
  noted-history =
      let before = room-version s start log.back way.room is.back is.back_known in
      λ i. record {
        earlier = before i ∷ room-before s start log.back way.room is.back is.back_known i;
        now = record { image = image_of t; renaming = renamed_back t ((before i).renaming) e.commands };
        later = [];
      }

  -- or are taken back
  pub gone-log : IsLogOf start (gone y e log)
  gone-log =
      let there = room-log s start log way.room is in
      record {
        closed = there.closed;
        orderly = there.orderly;
        index = record { former = t; index_of = way.index_of; differs = way.touched };
        back = there.back;
        forth = there.forth;
        back_known = there.back_known;
        forth_known = there.forth_known;
      }

  pub gone-history : history_of start (gone y e log) ≡ history_of s log
  gone-history = room-history s start log way.room is

-- these logs by lists of entries
module _ (x y : Mentioned) (stale : List Place) (es : List Done) (n : ℕ) (e : Done) (log : Log) (view : log_at x stale es n ≡ log) where
  pub noted-there : log.stale ≡ [] → (items : List Done) (len : ℕ) → items ≡ take n es ++ e ∷ [] → len ≡ length items → noted y e log ≡ log_at y stale items len
  noted-there renewed_there items len is_noted is_len =
      let none : stale ≡ [] = ap (λ (l : Log). l.stale) view ∙ renewed_there in
      (λ i. noted y e (sym view i)) ∙ sym (last-pushed y [] es n e) ∙ (λ i. log_at y (sym none i) (sym is_noted i) (sym (is_len ∙ ap length is_noted) i))

  pub gone-there : (places : List Place) → places ≡ e.touched → gone y e log ≡ log_at y places es n
  gone-there places same = λ i. record { index = y; stale = sym same i; back = (sym view i).back; forth = (sym view i).forth }

-- commands that are one action
module _ (s t : Slots) (log : Log) (y : Mentioned) (e : Done) (commands : List (CommandOf Name)) (is : IsLogOf s log) (renewed_there : log.stale ≡ []) where
  -- the history behind them
  abbrev behind : Result Version (ConditionOf Name) → Outcome
  behind o = by_result (λ v. Ok (appended rules (history_of s log) v)) (λ q. Err q) o

  pub all-done : IsCarriedOut s log.index no_commands commands t y e (Ok tt) → IsStepped s log (after_commands (history_of s log) commands) t (noted y e log) (Ok tt)
  all-done done =
      let way : IsUnderWay s t y e = done.under_way s (begins s log is renewed_there) in
      record {
        log = noted-log s t log y e is way;
        names = done.names;
        done = ap behind (done.done (renaming_at s log.back)) ∙ sym (ap (λ (h : History). Ok h) (noted-history s t log y e is way));
        same = tt;
        room = tt;
        refused = tt;
      }

  -- one of them is refused, and those before it are taken back
  pub all-undone : (q : StepRefusal) → IsCarriedOut s log.index no_commands commands t y e (Err q)
      → IsStepped s log (after_commands (history_of s log) commands) (taken_back t e.commands) (gone y e log) (Err q)
  all-undone q done =
      let way : IsUnderWay s t y e = done.under_way s (begins s log is renewed_there) in
      record {
        log = gone-log s t log y e is way;
        names = back-names t e.commands ∙ done.names;
        done = tt;
        same = gone-history s t log y e is way;
        room = way.room;
        refused = λ c same. ap behind (done.refused c same (renaming_at s log.back));
      }

-- no commands, where a list of entries stands for a log
pub begins-there : (s : Slots) (x : Mentioned) (stale : List Place) (es : List Done) (n : ℕ) (first : Done) (log : Log) → log_at x stale es n ≡ log → IsLogOf s log → log.stale ≡ [] → first ≡ no_commands → IsUnderWay s s x first
begins-there s x stale es n first log view is renewed_there empty =
    subst (λ (z : Done). IsUnderWay s s x z) (sym empty) (subst (λ (l : Log). IsUnderWay s s l.index no_commands) (sym view) (begins s log is renewed_there))

-- the same of a list of entries that stand for a log
module _ (s t : Slots) (x y : Mentioned) (stale : List Place) (es : List Done) (n : ℕ) (first e : Done) (commands : List (CommandOf Name)) (log : Log)
    (view : log_at x stale es n ≡ log) (is : IsLogOf s log) (renewed_there : log.stale ≡ []) (empty : first ≡ no_commands) where
  carried-there : (result : Result (Unit {0}) StepRefusal) → IsCarriedOut s x first commands t y e result → IsCarriedOut s log.index no_commands commands t y e result
  carried-there result done =
      subst (λ (l : Log). IsCarriedOut s l.index no_commands commands t y e result) view (subst (λ (z : Done). IsCarriedOut s x z commands t y e result) empty done)

  pub all-noted : IsCarriedOut s x first commands t y e (Ok tt) → (items : List Done) (len : ℕ) → items ≡ take n es ++ e ∷ [] → len ≡ length items
      → IsStepped s log (after_commands (history_of s log) commands) t (log_at y stale items len) (Ok tt)
  all-noted done items len is_noted is_len =
      subst (λ (l : Log). IsStepped s log (after_commands (history_of s log) commands) t l (Ok tt)) (noted-there x y stale es n e log view renewed_there items len is_noted is_len)
      (all-done s t log y e commands is renewed_there (carried-there (Ok tt) done))

  pub can-undo : (q : StepRefusal) → IsCarriedOut s x first commands t y e (Err q) → CanGoBack t e.commands
  can-undo q done = (done.under_way s (begins-there s x stale es n first log view is renewed_there empty)).back

  pub all-taken-back : (u : Slots) (places : List Place) (q : StepRefusal) → IsCarriedOut s x first commands t y e (Err q) → u ≡ taken_back t e.commands → places ≡ e.touched
      → IsStepped s log (after_commands (history_of s log) commands) u (log_at y places es n) (Err q)
  all-taken-back u places q done made same =
      subst (λ (z : Slots). IsStepped s log (after_commands (history_of s log) commands) z (log_at y places es n) (Err q)) (sym made) (
      subst (λ (l : Log). IsStepped s log (after_commands (history_of s log) commands) (taken_back t e.commands) l (Err q)) (gone-there x y stale es n e log view places same)
      (all-undone s t log y e commands is renewed_there q (carried-there (Err q) done)))

-- an entry of a list that stands for a log is taken back or done again
module _ (s t : Slots) (x y : Mentioned) (stale : List Place) (es : List Done) (k : ℕ) (d e : Done) (h : k < length es) (at : d ≡ get_or es k d) (log : Log) (is : IsLogOf s log) (renewed_there : log.stale ≡ []) where
  pub undo-made : log_at x stale es (k + 1) ≡ log → t ≡ taken_back s d.commands → e ≡ back_again s d → Follows t x y d.touched
      → IsStepped s log (stepped rules (history_of s log) Undo) t (log_at y stale (set es k e) k) (Ok tt)
  undo-made view made left follows =
      let none : stale ≡ [] = ap (λ (l : Log). l.stale) view ∙ renewed_there in
      subst (λ (l : Log). IsStepped s l (stepped rules (history_of s l) Undo) t (log_at y stale (set es k e) k) (Ok tt)) view (
      subst (λ (z : List Place). IsStepped s (log_at x z es (k + 1)) (stepped rules (history_of s (log_at x z es (k + 1))) Undo) t (log_at y z (set es k e) k) (Ok tt)) (sym none) (
      back-stepped s t x y es k d e h at (subst (IsLogOf s) (sym view ∙ ap (λ (z : List Place). log_at x z es (k + 1)) none) is) made left follows))

  pub redo-made : log_at x stale es k ≡ log → t ≡ done_again s d.commands → e ≡ again s d → Follows t x y d.touched
      → IsStepped s log (stepped rules (history_of s log) Redo) t (log_at y stale (set es k e) (k + 1)) (Ok tt)
  redo-made view made left follows =
      let none : stale ≡ [] = ap (λ (l : Log). l.stale) view ∙ renewed_there in
      subst (λ (l : Log). IsStepped s l (stepped rules (history_of s l) Redo) t (log_at y stale (set es k e) (k + 1)) (Ok tt)) view (
      subst (λ (z : List Place). IsStepped s (log_at x z es k) (stepped rules (history_of s (log_at x z es k)) Redo) t (log_at y z (set es k e) (k + 1)) (Ok tt)) (sym none) (
      again-stepped s t x y es k d e h at (subst (IsLogOf s) (sym view ∙ ap (λ (z : List Place). log_at x z es k) none) is) made left follows))

  pub wanting : (n : ℕ) (wanted : Outcome) → log_at x stale es n ≡ log → t ≡ s → e ≡ d → y ≡ x → IsStepped s log wanted t (log_at y stale (set es k e) n) (Err refusal.Memory)
  wanting n wanted view image entry index =
      subst (λ (l : Log). IsStepped s l wanted t (log_at y stale (set es k e) n) (Err refusal.Memory)) view
      (stays-with s t x y stale es k n d e wanted (subst (IsLogOf s) (sym view) is) image entry index at)

-- an action is refused for a condition of its own, or is its commands
pub own-false : (h : History) (action : ActionOf Name) (q : ConditionOf Name) → first_own_false text_asked h.now.image action ≡ Some q → stepped rules h (Perform action) ≡ Err q
own-false h action q e =
    ap (λ (o : Option (ConditionOf Name)). by_result (λ v. Ok (appended rules h v)) (λ p. Err p) (option_map_or (λ p. Err p) o (after_all rules h.now (steps_of text_eq h.now.image canonical action)))) e

pub own-true : (h : History) (action : ActionOf Name) (commands : List (CommandOf Name)) → first_own_false text_asked h.now.image action ≡ None → commands ≡ steps_of text_eq h.now.image canonical action
    → after_commands h commands ≡ stepped rules h (Perform action)
own-true h action commands e same =
    ap (after_commands h) same
    ∙ sym (ap (λ (o : Option (ConditionOf Name)). by_result (λ v. Ok (appended rules h v)) (λ p. Err p) (option_map_or (λ p. Err p) o (after_all rules h.now (steps_of text_eq h.now.image canonical action)))) e)

-- undo and redo are refused where nothing is left
pub none-back : (s : Slots) (x : Mentioned) (stale : List Place) (es : List Done) → IsLogOf s (log_at x stale es 0)
    → IsStepped s (log_at x stale es 0) (stepped rules (history_of s (log_at x stale es 0)) Undo) s (log_at x stale es 0) (Err (refusal.Condition condition.UndoLeft))
none-back s x stale es is = refuses s (log_at x stale es 0) (stepped rules (history_of s (log_at x stale es 0)) Undo) is condition.UndoLeft refl

pub none-forth : (s : Slots) (x : Mentioned) (stale : List Place) (es : List Done) (n : ℕ) → length es ≤ n → IsLogOf s (log_at x stale es n)
    → IsStepped s (log_at x stale es n) (stepped rules (history_of s (log_at x stale es n)) Redo) s (log_at x stale es n) (Err (refusal.Condition condition.RedoLeft))
none-forth s x stale es n h is =
    refuses s (log_at x stale es n) (stepped rules (history_of s (log_at x stale es n)) Redo) is condition.RedoLeft
    (ap (λ (fs : List Done). stepped rules (history_of s (record { index = x; stale = stale; back = reverse (take n es); forth = fs })) Redo) (drop_all n es h))

-- the log of an opened image
pub opened-log : (s : Slots) (x : Mentioned) (stale : List Place) (es : List Done) → IsClosed s → IsOrderly s → IsIndexOf s x → stale ≡ [] → es ≡ [] → IsLogOf s (log_at x stale es 0)
opened-log s x stale es closed orderly is none empty =
    subst (λ (z : List Place). IsLogOf s (log_at x z es 0)) (sym none) (
    subst (λ (zs : List Done). IsLogOf s (log_at x [] zs 0)) (sym empty) (record { closed = closed; orderly = orderly; index = renewed s x is; back = tt; forth = tt; back_known = tt; forth_known = tt }))

-- a log whose index is renewed
pub renewed-log : (s : Slots) (x y : Mentioned) (stale places : List Place) (es : List Done) (n : ℕ) (log : Log) → log_at x stale es n ≡ log → IsLogOf s log → Follows s x y stale → places ≡ [] → IsLogOf s (log_at y places es n)
renewed-log s x y stale places es n log view is follows none =
    let there : IsLogOf s (log_at x stale es n) = subst (IsLogOf s) (sym view) is in
    subst (λ (z : List Place). IsLogOf s (log_at y z es n)) (sym none)
    (record {
      closed = there.closed;
      orderly = there.orderly;
      index = renewed s y (follows there.index.former there.index.index_of there.index.differs);
      back = there.back;
      forth = there.forth;
      back_known = there.back_known;
      forth_known = there.forth_known;
    })
