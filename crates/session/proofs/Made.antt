-- What is made of slots is one entry of their log.
use Rattle.std.proofs.Common.{◌≡◌, ℕ, List, [], ◌∷◌, ◌++◌, length, take, Option, Some, None, Result, Ok, Err, refl, sym, ap, subst, ◌∙◌}
use Rattle.run_model.specs.Renamings.{Renaming}
use Rattle.class_table.specs.declared.record.Place.{Place}
use Rattle.class_table.specs.Slots.{Slots}
use Rattle.event_trees.specs.Naming.{Grows}
use Rattle.event_trees.proofs.Known.{Grows-none, Grows-twice}
use Rattle.history_model.specs.History.{by_result, appended}
use Rattle.reference_index.specs.Mentioned.{Mentioned}
use Rattle.ruled_model.specs.RuledScripts.{Version, History, ruled}
use Rattle.wider_slots.specs.Wider.{Wider}
use Rattle.wider_slots.proofs.StepLemmas.{wider-same}
use Rattle.session.specs.Log.{DoneCommand, Done, Log, log_at, taken_back, CanGoBack, CommandsKnown, IsLogOf}
use Rattle.session.specs.History.{renaming_at, version_behind, history_of}
use Rattle.session.specs.Stepping.{IsUnderWay}
use Rattle.session.specs.Making.{IsMadeOf, IsEntered}
use Rattle.session.proofs.Kept.{back-names}
use Rattle.session.proofs.Room.{room-image, back-renamed}
use Rattle.session.proofs.UnderWay.{under_way-room}
use Rattle.session.proofs.Steps.{no_commands, begins, noted, gone, noted-log, noted-history, gone-log, gone-history, noted-there, gone-there, begins-there}

-- names with room are more
pub room-grows : (s t : Slots) → Wider s t → Grows s.names t.names
room-grows s t room = record { more = room.more.names; grown = ap (λ (z : Slots). z.names) room.state }

-- slots with room stand for the same versions
pub room-behind : (s t : Slots) (ds : List DoneCommand) → Wider s t → CanGoBack s ds → CommandsKnown (length s.names) ds → (r : Renaming) → version_behind t r ds ≡ version_behind s r ds
room-behind s t ds room can known r = λ i. record { image = room-image s t room i; renaming = back-renamed s t ds room can known r i }

-- want of memory tells nothing
abbrev pub IsQuiet : {Q E : Type 0} → (List (List ℕ) → E → Option Q) → E → Type 0
IsQuiet told f = (names : List (List ℕ)) → told names f ≡ None

told-nothing : {Q : Type 0} (o : Option Q) (q : Q) → o ≡ None → o ≡ Some q → ⊥
told-nothing o q none some = let bad : None ≡ Some q = sym none ∙ some in absurd (cc)

module _ {Q E : Type 0} (s : Slots) (x : Mentioned) (d : Done) (wanted : Version → Result Version Q) (told : List (List ℕ) → E → Option Q) where
  -- nothing is made but room, for the reason that is told
  pub made-refused : (t : Slots) (f : E) → Wider s t → ((q : Q) → told t.names f ≡ Some q → (r : Renaming) → wanted (version_behind s r d.commands) ≡ Err q) → IsMadeOf s x d wanted t x d told (Err f)
  made-refused t f room why = record { under_way = λ begin is. under_way-room begin s t x d room is; names = room-grows s t room; done = tt; refused = why }

  -- or for want of memory
  pub made-wanting : (t : Slots) (y : Mentioned) (e : Done) (f : E) → Wider s t → y ≡ x → e ≡ d → IsQuiet told f → IsMadeOf s x d wanted t y e told (Err f)
  made-wanting t y e f room index entry quiet =
      subst (λ (z : Mentioned). IsMadeOf s x d wanted t z e told (Err f)) (sym index) (
      subst (λ (z : Done). IsMadeOf s x d wanted t x z told (Err f)) (sym entry)
      (made-refused t f room (λ q is. absurd (told-nothing (told t.names f) q (quiet t.names) is))))

  -- what is made after room is made
  module _ (p : Slots) (room : Wider s p) (can : CanGoBack s d.commands) (known : CommandsKnown (length s.names) d.commands) (t : Slots) (y : Mentioned) (e : Done) where
    pub made-since : (result : Result (Unit {0}) E) → IsMadeOf p x d wanted t y e told result → IsMadeOf s x d wanted t y e told result
    made-since (Ok u) made = record {
      under_way = λ first is. made.under_way first (under_way-room first s p x d room is);
      names = Grows-twice (room-grows s p room) made.names;
      done = λ r. ap wanted (sym (room-behind s p d.commands room can known r)) ∙ made.done r;
      refused = tt;
    }
    made-since (Err f) made = record {
      under_way = λ first is. made.under_way first (under_way-room first s p x d room is);
      names = Grows-twice (room-grows s p room) made.names;
      done = tt;
      refused = λ q is r. ap wanted (sym (room-behind s p d.commands room can known r)) ∙ made.refused q is r;
    }

-- what the history is then
abbrev pub entry-wanted : {Q : Type 0} → History → Result Version Q → Result History Q
entry-wanted h o = by_result (λ v. Ok (appended ruled h v)) (λ q. Err q) o

module _ {Q E : Type 0} (s t : Slots) (log : Log) (y : Mentioned) (e : Done) (wanted : Version → Result Version Q) (told : List (List ℕ) → E → Option Q) (is : IsLogOf s log) (renewed_there : log.stale ≡ []) where
  abbrev outcome : Result History Q
  outcome = entry-wanted (history_of s log) (wanted (history_of s log).now)

  entry-done : IsMadeOf s log.index no_commands wanted t y e told (Ok tt) → IsEntered s log outcome t (noted y e log) told (Ok tt)
  entry-done made =
      let way : IsUnderWay s t y e = made.under_way s (begins s log is renewed_there) in
      record {
        log = noted-log s t log y e is way;
        names = made.names;
        done = ap (entry-wanted (history_of s log)) (made.done (renaming_at s log.back)) ∙ sym (ap (λ (h : History). Ok h) (noted-history s t log y e is way));
        same = tt;
        room = tt;
        refused = tt;
      }

  -- it is refused, and what was made is taken back
  entry-undone : (f : E) → IsMadeOf s log.index no_commands wanted t y e told (Err f) → IsEntered s log outcome (taken_back t e.commands) (gone y e log) told (Err f)
  entry-undone f made =
      let way : IsUnderWay s t y e = made.under_way s (begins s log is renewed_there) in
      let names : (taken_back t e.commands).names ≡ t.names = back-names t e.commands in
      record {
        log = gone-log s t log y e is way;
        names = subst (Grows s.names) (sym names) made.names;
        done = tt;
        same = gone-history s t log y e is way;
        room = way.room;
        refused = λ q why. ap (entry-wanted (history_of s log)) (made.refused q (ap (λ (ns : List (List ℕ)). told ns f) (sym names) ∙ why) (renaming_at s log.back));
      }

-- the same of a list of entries that stands for the log
module _ {Q E : Type 0} (s t : Slots) (x y : Mentioned) (stale : List Place) (es : List Done) (n : ℕ) (first e : Done) (wanted : Version → Result Version Q) (told : List (List ℕ) → E → Option Q) (log : Log)
    (view : log_at x stale es n ≡ log) (is : IsLogOf s log) (renewed_there : log.stale ≡ []) (empty : first ≡ no_commands) where
  made-there : (result : Result (Unit {0}) E) → IsMadeOf s x first wanted t y e told result → IsMadeOf s log.index no_commands wanted t y e told result
  made-there result made =
      subst (λ (l : Log). IsMadeOf s l.index no_commands wanted t y e told result) view (subst (λ (z : Done). IsMadeOf s x z wanted t y e told result) empty made)

  pub entry-noted : IsMadeOf s x first wanted t y e told (Ok tt) → (items : List Done) (len : ℕ) → items ≡ take n es ++ e ∷ [] → len ≡ length items
      → IsEntered s log (entry-wanted (history_of s log) (wanted (history_of s log).now)) t (log_at y stale items len) told (Ok tt)
  entry-noted made items len is_noted is_len =
      subst (λ (l : Log). IsEntered s log (entry-wanted (history_of s log) (wanted (history_of s log).now)) t l told (Ok tt)) (noted-there x y stale es n e log view renewed_there items len is_noted is_len)
      (entry-done s t log y e wanted told is renewed_there (made-there (Ok tt) made))

  pub can-undo-entry : (f : E) → IsMadeOf s x first wanted t y e told (Err f) → CanGoBack t e.commands
  can-undo-entry f made = (made.under_way s (begins-there s x stale es n first log view is renewed_there empty)).back

  pub entry-gone : (f : E) → IsMadeOf s x first wanted t y e told (Err f) → (u : Slots) (places : List Place) (items : List Done) → u ≡ taken_back t e.commands → places ≡ e.touched → items ≡ es
      → IsEntered s log (entry-wanted (history_of s log) (wanted (history_of s log).now)) u (log_at y places items n) told (Err f)
  entry-gone f made u places items back same kept =
      let all = entry-wanted (history_of s log) (wanted (history_of s log).now) in
      subst (λ (z : Slots). IsEntered s log all z (log_at y places items n) told (Err f)) (sym back) (
      subst (λ (l : Log). IsEntered s log all (taken_back t e.commands) l told (Err f)) (gone-there x y stale es n e log view places same ∙ (λ i. log_at y places (sym kept i) n))
      (entry-undone s t log y e wanted told is renewed_there f (made-there (Err f) made)))

-- nothing is changed for want of memory
pub entry-stays : {Q E : Type 0} (s : Slots) (log next : Log) (wanted : Result History Q) (told : List (List ℕ) → E → Option Q) (f : E) → IsLogOf s log → IsQuiet told f → next ≡ log → IsEntered s log wanted s next told (Err f)
entry-stays s log next wanted told f is quiet kept =
    subst (λ (l : Log). IsEntered s log wanted s l told (Err f)) (sym kept) (record {
      log = is;
      names = Grows-none s.names;
      done = tt;
      same = refl;
      room = wider-same s is.closed;
      refused = λ q why. absurd (told-nothing (told s.names f) q (quiet s.names) why);
    })
