-- Each version to which a log leads is one that a script makes.
use Rattle.std.proofs.Common.{◌≡◌, ℕ, suc, ◌+◌, Bool, true, false, if◌then◌else◌, nat_eq, List, [], ◌∷◌, ◌++◌, map, Result, Ok, Err, refl, ap, subst, ◌∙◌}
use Rattle.std.specs.List.{AllByRecursion}
use Rattle.run_model.specs.Values.{Name}
use Rattle.image_model.specs.Image.{ImageOf}
use Rattle.history_model.specs.Rules.{Asks, Perform}
use Rattle.history_model.specs.History as history
use Rattle.history_model.specs.History.{after_action, appended, opened, performed}
use Rattle.history_model.specs.Verdicts.{judged_from}
use Rattle.rule_model.specs.RuleCommands.{Reason}
use Rattle.ruled_model.specs.RuledScripts.{Asked, Version, History, Refusal, ruled, ruled_verdict}
use Rattle.team_core.specs.declared.entry.Stand.{Stand}
use Rattle.team_core.specs.declared.entry.Stand.TheVariants.{Idle, Fresh, Late}
use Rattle.team_core.specs.Journal.{revision, last_mover, standing}
use Rattle.team_core.specs.History as book
use Rattle.team_core.specs.History.{HistoryOf, by_result, grouped, moved_back, moved_forward}
use Rattle.team_core.specs.Events.{ActOf, Begin, Propose, Commit, Undo, Redo, answered, moves_of, commit_outcome, undo_outcome, redo_outcome, outcome, proposed_then, is_accepted}
use Rattle.team_laws.specs.Logs.{reply_to, next, reached}
use Rattle.log_model.specs.Events.{Event}
use Rattle.play_model.specs.Replies.{team_rules, Point, opening, led_to}

abbrev Outcome : Type 0
Outcome = Result Version Reason

-- what lines ask for, in order
abbrev after_actions : Version → List Asked → Outcome
after_actions v [] = Ok v
after_actions v (a ∷ more) = history.by_result (λ w. after_actions w more) (λ q. Err q) (after_action ruled v a)

-- they are carried out in two parts
parts : (v w : Version) (xs ys : List Asked) → after_actions v xs ≡ Ok w → after_actions v (xs ++ ys) ≡ after_actions w ys
parts v w [] ys e = let same : v ≡ w = cc in ap (λ (u : Version). after_actions u ys) same
parts v w (x ∷ xs) ys e = by (after_action ruled v x) (λ u. parts u w xs ys) e
  where
    by : (o : Outcome) → ((u : Version) → after_actions u xs ≡ Ok w → after_actions u (xs ++ ys) ≡ after_actions w ys) →
        history.by_result {B = Outcome} (λ u. after_actions u xs) (λ q. Err q) o ≡ Ok w → history.by_result {B = Outcome} (λ u. after_actions u (xs ++ ys)) (λ q. Err q) o ≡ after_actions w ys
    by (Ok u) rest made = rest u made
    by (Err q) rest made = absurd (cc)

-- a group that is performed
group-actions : (n : ℕ) (v w : Version) (xs : List Asked) → book.performed team_rules n v xs ≡ Ok w → after_actions v xs ≡ Ok w
group-actions n v w [] e = let same : v ≡ w = cc in ap (λ (u : Version). let o : Outcome = Ok u in o) same
group-actions n v w (x ∷ xs) e = by (after_action ruled v x) (λ u. group-actions (n + 1) u w xs) e
  where
    by : (o : Outcome) → ((u : Version) → book.performed team_rules (n + 1) u xs ≡ Ok w → after_actions u xs ≡ Ok w) →
        by_result {B = Result Version (ℕ × Reason)} (λ u. book.performed team_rules (n + 1) u xs) (λ q. Err (n, q)) o ≡ Ok w → history.by_result {B = Outcome} (λ u. after_actions u xs) (λ q. Err q) o ≡ Ok w
    by (Ok u) rest made = rest u made
    by (Err q) rest made = absurd (cc)

-- a script that asks for them
script-actions : (k : ℕ) (h : History) (w : Version) (xs : List Asked) → after_actions h.now xs ≡ Ok w →
    (g : History) × (judged_from ruled k h (map Perform xs) ≡ Ok g) × (g.now ≡ w)
script-actions k h w [] e = let same : h.now ≡ w = cc in (h, refl, same)
script-actions k h w (x ∷ xs) e = by (after_action ruled h.now x) (λ u made. script-actions (suc k) (appended ruled h u) w xs made) e
  where
    by : (o : Outcome) → ((u : Version) → after_actions u xs ≡ Ok w → (g : History) × (judged_from ruled (suc k) (appended ruled h u) (map Perform xs) ≡ Ok g) × (g.now ≡ w)) →
        history.by_result {B = Outcome} (λ u. after_actions u xs) (λ q. Err q) o ≡ Ok w →
        (g : History) × (history.by_result {B = Result History Refusal} (λ g. judged_from ruled (suc k) g (map Perform xs)) (λ q. Err (record { number = k; condition = q }))
        (history.by_result {B = Result History Reason} (λ u. Ok (appended ruled h u)) (λ q. Err q) o) ≡ Ok g) × (g.now ≡ w)
    by (Ok u) rest made = rest u made
    by (Err q) rest made = absurd (cc)

-- what is proposed has P
abbrev pub Proposes : (Asked → Type 0) → ActOf Asked → Type 0
Proposes P Begin = Unit {0}
Proposes P (Propose a) = P a
Proposes P Commit = Unit {0}
Proposes P Undo = Unit {0}
Proposes P Redo = Unit {0}

module _ (P : Asked → Type 0) (i : ImageOf Name) where
  -- lines that ask for P make this version of the image
  abbrev pub IsMade : Version → Type 0
  IsMade v = (xs : List Asked) × AllByRecursion P xs × (after_actions (opened ruled i).now xs ≡ Ok v)

  -- so it is with each version of a history
  record AllMade (h : HistoryOf Version) : Type 0 where
    earlier : AllByRecursion IsMade h.earlier
    now : IsMade h.now
    later : AllByRecursion IsMade h.later

  both : (xs ys : List Asked) → AllByRecursion P xs → AllByRecursion P ys → AllByRecursion P (xs ++ ys)
  both [] ys h k = k
  both (x ∷ xs) ys h k = (h.0, both xs ys h.1 k)

  made-more : (v w : Version) (ys : List Asked) → IsMade v → AllByRecursion P ys → after_actions v ys ≡ Ok w → IsMade w
  made-more v w ys made all e = (made.0 ++ ys, both made.0 ys made.1 all, parts (opened ruled i).now v made.0 ys made.2 ∙ e)

  -- a group
  grouped-made : (h g : HistoryOf Version) (cs : List Asked) → AllMade h → AllByRecursion P cs → grouped team_rules h cs ≡ Ok g → AllMade g
  grouped-made h g [] made all e = let same : h ≡ g = cc in subst AllMade same made
  grouped-made h g (c ∷ cs) made all e = by (book.performed team_rules 1 h.now (c ∷ cs)) (λ w done. made-more h.now w (c ∷ cs) made.now all (group-actions 1 h.now w (c ∷ cs) done)) refl e
    where
      by : (o : Result Version (ℕ × Reason)) → ((w : Version) → book.performed team_rules 1 h.now (c ∷ cs) ≡ Ok w → IsMade w) → book.performed team_rules 1 h.now (c ∷ cs) ≡ o →
          by_result {B = Result (HistoryOf Version) (ℕ × Reason)} (λ t. Ok (record { earlier = h.now ∷ h.earlier; now = t; later = [] })) (λ r. Err r) o ≡ Ok g → AllMade g
      by (Ok w) last is was =
          let longer : HistoryOf Version = record { earlier = h.now ∷ h.earlier; now = w; later = [] } in
          let same : longer ≡ g = cc in
          subst AllMade same (record { earlier = (made.now, made.earlier); now = last w is; later = tt })
      by (Err r) last is was = absurd (cc)

  back-made : (h g : HistoryOf Version) → AllMade h → moved_back team_rules h ≡ Ok g → AllMade g
  back-made h g made e = by h.earlier made.earlier e
    where
      by : (vs : List Version) → AllByRecursion IsMade vs → moved_back team_rules (record h { earlier = vs }) ≡ Ok g → AllMade g
      by [] all was = absurd (cc)
      by (v ∷ vs) all was =
          let shorter : HistoryOf Version = record { earlier = vs; now = v; later = h.now ∷ h.later } in
          let same : shorter ≡ g = cc in
          subst AllMade same (record { earlier = all.1; now = all.0; later = (made.now, made.later) })

  forward-made : (h g : HistoryOf Version) → AllMade h → moved_forward team_rules h ≡ Ok g → AllMade g
  forward-made h g made e = by h.later made.later e
    where
      by : (vs : List Version) → AllByRecursion IsMade vs → moved_forward team_rules (record h { later = vs }) ≡ Ok g → AllMade g
      by [] all was = absurd (cc)
      by (v ∷ vs) all was =
          let longer : HistoryOf Version = record { earlier = h.now ∷ h.earlier; now = v; later = vs } in
          let same : longer ≡ g = cc in
          subst AllMade same (record { earlier = (made.now, made.earlier); now = all.0; later = all.1 })

  -- the history after a reply
  answered-made : (h : HistoryOf Version) (n : ℕ) (o : Result (HistoryOf Version) (ℕ × Reason)) → AllMade h → ((g : HistoryOf Version) → o ≡ Ok g → AllMade g) → AllMade (answered h n o).1
  answered-made h n (Ok g) made then_made = then_made g refl
  answered-made h n (Err r) made then_made = made

  commit-made : (h : HistoryOf Version) (stand : Stand) (n last : ℕ) (cs : List Asked) → AllMade h → AllByRecursion P cs → AllMade (commit_outcome team_rules h stand n last cs).1
  commit-made h Idle n last cs made all = made
  commit-made h Late n last cs made all = made
  commit-made h Fresh n last cs made all = answered-made h (n + moves_of cs) (grouped team_rules h cs) made (λ g e. grouped-made h g cs made all e)

  undo-made : (h : HistoryOf Version) (stand : Stand) (n : ℕ) → AllMade h → AllMade (undo_outcome team_rules h stand n).1
  undo-made h Idle n made = answered-made h (n + 1) (moved_back team_rules h) made (λ g e. back-made h g made e)
  undo-made h Fresh n made = made
  undo-made h Late n made = made

  redo-made : (h : HistoryOf Version) (stand : Stand) (n : ℕ) → AllMade h → AllMade (redo_outcome team_rules h stand n).1
  redo-made h Idle n made = answered-made h (n + 1) (moved_forward team_rules h) made (λ g e. forward-made h g made e)
  redo-made h Fresh n made = made
  redo-made h Late n made = made

  outcome-made : (p : Point) (s : ℕ) (act : ActOf Asked) → AllMade p.history → AllByRecursion P (p.proposed s) → AllMade (outcome team_rules p s act).1
  outcome-made p s Begin made all = made
  outcome-made p s (Propose c) made all = made
  outcome-made p s Commit made all = commit-made p.history (standing s p.log) (revision p.log) (last_mover p.log) (p.proposed s) made all
  outcome-made p s Undo made all = undo-made p.history (standing s p.log) (revision p.log) made
  outcome-made p s Redo made all = redo-made p.history (standing s p.log) (revision p.log) made

  proposed-then : (act : ActOf Asked) (accepted : Bool) (cs : List Asked) → Proposes P act → AllByRecursion P cs → AllByRecursion P (proposed_then act accepted cs)
  proposed-then Begin accepted cs h all = all
  proposed-then (Propose a) true cs h all = both cs (a ∷ []) all (h, tt)
  proposed-then (Propose a) false cs h all = all
  proposed-then Commit accepted cs h all = tt
  proposed-then Undo accepted cs h all = all
  proposed-then Redo accepted cs h all = all

  proposed-next : (own accepted : Bool) (act : ActOf Asked) (cs : List Asked) → Proposes P act → AllByRecursion P cs → AllByRecursion P (if own then proposed_then act accepted cs else cs)
  proposed-next true accepted act cs h all = proposed-then act accepted cs h all
  proposed-next false accepted act cs h all = all

  -- the point after a log
  reached-made : (p : Point) (es : List Event) → AllMade p.history → ((s : ℕ) → AllByRecursion P (p.proposed s)) → AllByRecursion (λ (e : Event). Proposes P e.act) es → AllMade (reached team_rules p es).history
  reached-made p [] made all fits = made
  reached-made p (e ∷ es) made all fits =
      reached-made (next team_rules p e) es (outcome-made p e.session e.act made (all e.session))
      (λ t. proposed-next (nat_eq t e.session) (is_accepted (reply_to team_rules p e)) e.act (p.proposed t) fits.0 (all t)) fits.1

  pub end-made : (es : List Event) → AllByRecursion (λ (e : Event). Proposes P e.act) es → IsMade (led_to i es).history.now
  end-made es fits = (reached-made (opening i) es (record { earlier = tt; now = ([], tt, refl); later = tt }) (λ s. tt) fits).now

-- what is asked for as lines of a script
pub asks-all : (P : Asked → Type 0) (xs : List Asked) → AllByRecursion P xs → AllByRecursion (Asks P) (map Perform xs)
asks-all P [] all = tt
asks-all P (x ∷ xs) all = (all.0, asks-all P xs all.1)

-- a script that makes a version
pub script-made : (P : Asked → Type 0) (i : ImageOf Name) (v : Version) (made : IsMade P i v) →
    (h : History) × (ruled_verdict i (map Perform made.0) ≡ Ok h) × (h.now ≡ v)
script-made P i v made = script-actions 1 (opened ruled i) v made.0 made.2
