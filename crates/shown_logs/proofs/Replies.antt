-- A log whose commands and causes are shown otherwise has the same replies.
use Rattle.std.proofs.Common.{◌≡◌, ℕ, ◌+◌, Bool, true, false, if◌then◌else◌, nat_eq, List, [], ◌∷◌, ◌++◌, length, map, Result, Ok, Err, refl, sym, ap, subst, ◌∙◌}
use Rattle.std.proofs.lemmas.List.{length-map, map-append}
use Rattle.team_core.specs.declared.entry.Entry.{Entry}
use Rattle.team_core.specs.declared.entry.Stand.{Stand}
use Rattle.team_core.specs.declared.entry.Stand.TheVariants.{Idle, Fresh, Late}
use Rattle.team_core.specs.declared.reply.Reply.{Reply}
use Rattle.team_core.specs.declared.reply.Reply.TheVariants.{Accepted, AlreadyOpen, NotOpen, Full, Stale, Refused}
use Rattle.team_core.specs.Journal.{revision, last_mover, standing}
use Rattle.team_core.specs.History.{HistoryOf, RulesOf, by_result, performed, grouped, moved_back, moved_forward}
use Rattle.team_core.specs.Events.{ActOf, Begin, Propose, Commit, Undo, Redo, PointOf, most_commands, answered, moves_of, begin_reply, propose_reply, commit_outcome, undo_outcome, redo_outcome, outcome, is_accepted, counted, committed, proposed_then, entry_of}
use Rattle.team_laws.specs.Logs.{EventOf, reply_to, next, replies, reached}
use Rattle.shown_logs.specs.Shown.{shown, act_shown, event_shown, point_shown, AreShown}

-- an outcome with its cause shown otherwise
abbrev over : {A Q R : Type 0} → (R → Q) → Result A (ℕ × R) → Result A (ℕ × Q)
over g (Ok a) = Ok a
over g (Err r) = Err (r.0, g r.1)

-- a history with one more state
abbrev made : {S E : Type 0} → HistoryOf S → S → Result (HistoryOf S) E
made h t = Ok (record { earlier = h.now ∷ h.earlier; now = t; later = [] })

abbrev both : {S Q R : Type 0} → (R → Q) → Reply R × HistoryOf S → Reply Q × HistoryOf S
both g o = (shown g o.0, o.1)

accepted-shown : {Q R : Type 0} (g : R → Q) (r : Reply R) → is_accepted (shown g r) ≡ is_accepted r
accepted-shown g (Accepted n) = refl
accepted-shown g AlreadyOpen = refl
accepted-shown g NotOpen = refl
accepted-shown g Full = refl
accepted-shown g (Stale n e) = refl
accepted-shown g (Refused n q) = refl

answered-shown : {S Q R : Type 0} (g : R → Q) (h : HistoryOf S) (n : ℕ) (o : Result (HistoryOf S) (ℕ × R)) → answered h n (over g o) ≡ both g (answered h n o)
answered-shown g h n (Ok k) = refl
answered-shown g h n (Err r) = refl

begin-shown : {Q R : Type 0} (g : R → Q) (stand : Stand) (n : ℕ) → begin_reply stand n ≡ shown g (begin_reply stand n)
begin-shown g Idle n = refl
begin-shown g Fresh n = refl
begin-shown g Late n = refl

abbrev room : {Q : Type 0} → Bool → ℕ → Reply Q
room b n = if b then Full else Accepted n

room-shown : {Q R : Type 0} (g : R → Q) (b : Bool) (n : ℕ) → room b n ≡ shown g (room b n)
room-shown g true n = refl
room-shown g false n = refl

propose-shown : {Q R : Type 0} (g : R → Q) (stand : Stand) (n k : ℕ) → propose_reply stand n k ≡ shown g (propose_reply stand n k)
propose-shown g Idle n k = refl
propose-shown g Fresh n k = room-shown g (nat_eq k most_commands) n
propose-shown g Late n k = room-shown g (nat_eq k most_commands) n

moves-shown : {C D : Type 0} (f : C → D) (cs : List C) → moves_of cs ≡ moves_of (map f cs)
moves-shown f [] = refl
moves-shown f (c ∷ cs) = refl

-- what a rule makes of a command, with the cause shown otherwise
abbrev by_cause : {A Q R : Type 0} → (R → Q) → Result A R → Result A Q
by_cause g o = by_result (λ t. Ok t) (λ r. Err (g r)) o

module _ {S C D Q R : Type 0} (f : C → D) (g : R → Q) (a : RulesOf S C Q) (b : RulesOf S D R) (are : AreShown f g a b) where
  one-shown : (n : ℕ) (cs : List C) (rest : (t : S) → performed a (n + 1) t cs ≡ over g (performed b (n + 1) t (map f cs))) (o : Result S R) →
      by_result (λ t. performed a (n + 1) t cs) (λ q. Err (n, q)) (by_cause g o) ≡ over g (by_result (λ t. performed b (n + 1) t (map f cs)) (λ q. Err (n, q)) o)
  one-shown n cs rest (Ok t) = rest t
  one-shown n cs rest (Err r) = refl

  performed-shown : (n : ℕ) (s : S) (cs : List C) → performed a n s cs ≡ over g (performed b n s (map f cs))
  performed-shown n s [] = refl
  performed-shown n s (c ∷ cs) =
      ap (by_result (λ t. performed a (n + 1) t cs) (λ q. Err (n, q))) (are.relation s c) ∙ one-shown n cs (λ t. performed-shown (n + 1) t cs) (b.relation s (f c))

  made-shown : (h : HistoryOf S) (o : Result S (ℕ × R)) →
      by_result {B = Result (HistoryOf S) (ℕ × Q)} (made h) (λ r. Err r) (over g o) ≡ over g (by_result {B = Result (HistoryOf S) (ℕ × R)} (made h) (λ r. Err r) o)
  made-shown h (Ok t) = refl
  made-shown h (Err r) = refl

  grouped-shown : (h : HistoryOf S) (cs : List C) → grouped a h cs ≡ over g (grouped b h (map f cs))
  grouped-shown h [] = refl
  grouped-shown h (c ∷ cs) =
      ap (by_result {B = Result (HistoryOf S) (ℕ × Q)} (made h) (λ r. Err r)) (performed-shown 1 h.now (c ∷ cs))
      ∙ made-shown h (performed b 1 h.now (map f (c ∷ cs)))

  back-shown : (h : HistoryOf S) → moved_back a h ≡ over g (moved_back b h)
  back-shown h = by h.earlier
    where
      by : (ss : List S) → moved_back a (record h { earlier = ss }) ≡ over g (moved_back b (record h { earlier = ss }))
      by [] = ap (λ (q : Q). Err (1, q)) are.no_earlier
      by (s ∷ ss) = refl

  forward-shown : (h : HistoryOf S) → moved_forward a h ≡ over g (moved_forward b h)
  forward-shown h = by h.later
    where
      by : (ss : List S) → moved_forward a (record h { later = ss }) ≡ over g (moved_forward b (record h { later = ss }))
      by [] = ap (λ (q : Q). Err (1, q)) are.no_later
      by (s ∷ ss) = refl

  commit-shown : (h : HistoryOf S) (stand : Stand) (n last : ℕ) (cs : List C) → commit_outcome a h stand n last cs ≡ both g (commit_outcome b h stand n last (map f cs))
  commit-shown h Idle n last cs = refl
  commit-shown h Late n last cs = refl
  commit-shown h Fresh n last cs =
      (λ i. answered h (n + moves-shown f cs i) (grouped-shown h cs i)) ∙ answered-shown g h (n + moves_of (map f cs)) (grouped b h (map f cs))

  undo-shown : (h : HistoryOf S) (stand : Stand) (n : ℕ) → undo_outcome a h stand n ≡ both g (undo_outcome b h stand n)
  undo-shown h Idle n = ap (answered h (n + 1)) (back-shown h) ∙ answered-shown g h (n + 1) (moved_back b h)
  undo-shown h Fresh n = refl
  undo-shown h Late n = refl

  redo-shown : (h : HistoryOf S) (stand : Stand) (n : ℕ) → redo_outcome a h stand n ≡ both g (redo_outcome b h stand n)
  redo-shown h Idle n = ap (answered h (n + 1)) (forward-shown h) ∙ answered-shown g h (n + 1) (moved_forward b h)
  redo-shown h Fresh n = refl
  redo-shown h Late n = refl

  outcome-shown : (p : PointOf S C) (s : ℕ) (act : ActOf C) → outcome a p s act ≡ both g (outcome b (point_shown f p) s (act_shown f act))
  outcome-shown p s Begin = λ i. (begin-shown {Q = Q} {R = R} g (standing s p.log) (revision p.log) i, p.history)
  outcome-shown p s (Propose c) =
      (λ i. (propose-shown {Q = Q} {R = R} g (standing s p.log) (revision p.log) (length (p.proposed s)) i, p.history))
      ∙ ap (λ (k : ℕ). let o : Reply Q × HistoryOf S = (shown g (propose_reply {Q = R} (standing s p.log) (revision p.log) k), p.history) in o) (sym (length-map (p.proposed s) f))
  outcome-shown p s Commit = commit-shown p.history (standing s p.log) (revision p.log) (last_mover p.log) (p.proposed s)
  outcome-shown p s Undo = undo-shown p.history (standing s p.log) (revision p.log)
  outcome-shown p s Redo = redo-shown p.history (standing s p.log) (revision p.log)

  reply-shown : (p : PointOf S C) (e : EventOf C) → reply_to a p e ≡ shown g (reply_to b (point_shown f p) (event_shown f e))
  reply-shown p e = ap (λ (o : Reply Q × HistoryOf S). o.0) (outcome-shown p e.session e.act)

  entry-shown : (p : PointOf S C) (s : ℕ) (act : ActOf C) (r : Reply R) → entry_of p s act (shown g r) ≡ entry_of (point_shown f p) s (act_shown f act) r
  entry-shown p s Begin r = ap (λ (x : Bool). let o : Entry = record (entry_of p s Begin (shown g r)) { accepted = x } in o) (accepted-shown g r)
  entry-shown p s (Propose c) r = ap (λ (x : Bool). let o : Entry = record (entry_of p s (Propose c) (shown g r)) { accepted = x } in o) (accepted-shown g r)
  entry-shown p s Commit r =
      λ i. record (entry_of p s Commit (shown g r)) { accepted = accepted-shown g r i; commands = counted (standing s p.log) (sym (length-map (p.proposed s) f) i) }
  entry-shown p s Undo r = ap (λ (x : Bool). let o : Entry = record (entry_of p s Undo (shown g r)) { accepted = x } in o) (accepted-shown g r)
  entry-shown p s Redo r = ap (λ (x : Bool). let o : Entry = record (entry_of p s Redo (shown g r)) { accepted = x } in o) (accepted-shown g r)

  then-shown : (act : ActOf C) (accepted : Bool) (cs : List C) → map f (proposed_then act accepted cs) ≡ proposed_then (act_shown f act) accepted (map f cs)
  then-shown Begin accepted cs = refl
  then-shown (Propose c) true cs = map-append f cs (c ∷ [])
  then-shown (Propose c) false cs = refl
  then-shown Commit accepted cs = refl
  then-shown Undo accepted cs = refl
  then-shown Redo accepted cs = refl

  where-shown : (own : Bool) (act : ActOf C) (accepted : Bool) (cs : List C) →
      map f (if own then proposed_then act accepted cs else cs) ≡ (if own then proposed_then (act_shown f act) accepted (map f cs) else map f cs)
  where-shown true act accepted cs = then-shown act accepted cs
  where-shown false act accepted cs = refl

  next-shown : (p : PointOf S C) (e : EventOf C) → point_shown f (next a p e) ≡ next b (point_shown f p) (event_shown f e)
  next-shown p e =
      let r : Reply R = reply_to b (point_shown f p) (event_shown f e) in
      let log = ap (λ (x : Reply Q). p.log ++ entry_of p e.session e.act x ∷ []) (reply-shown p e) ∙ ap (λ (x : Entry). p.log ++ x ∷ []) (entry-shown p e.session e.act r) in
      let accepted = ap is_accepted (reply-shown p e) ∙ accepted-shown g r in
      λ i. record {
        log = log i;
        proposed = λ t.
            (ap (λ (x : Bool). map f (if nat_eq t e.session then proposed_then e.act x (p.proposed t) else p.proposed t)) accepted
            ∙ where-shown (nat_eq t e.session) e.act (is_accepted r) (p.proposed t)) i;
        history = (ap (λ (o : Reply Q × HistoryOf S). o.1) (outcome-shown p e.session e.act)) i;
      }

  -- the replies, and where the log leads
  pub replies-shown : (p : PointOf S C) (es : List (EventOf C)) → replies a p es ≡ map (shown g) (replies b (point_shown f p) (map (event_shown f) es))
  replies-shown p [] = refl
  replies-shown p (e ∷ es) =
      λ i. reply-shown p e i ∷ (replies-shown (next a p e) es ∙ ap (λ (q : PointOf S D). map (shown g) (replies b q (map (event_shown f) es))) (next-shown p e)) i

  pub reached-shown : (p : PointOf S C) (es : List (EventOf C)) → (reached a p es).history ≡ (reached b (point_shown f p) (map (event_shown f) es)).history
  reached-shown p [] = refl
  reached-shown p (e ∷ es) = reached-shown (next a p e) es ∙ ap (λ (q : PointOf S D). (reached b q (map (event_shown f) es)).history) (next-shown p e)
