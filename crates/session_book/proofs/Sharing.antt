-- What the history of an image makes of moves, as a book.
use Rattle.std.proofs.Common.{◌≡◌, ◌≤◌, ℕ, ◌+◌, List, [], ◌∷◌, length, map, Result, Ok, Err, IsTrue, refl, sym, ap, ◌∙◌, arith, length-append}
use Rattle.std.specs.List.{AllByRecursion, list_all}
use Rattle.std.proofs.lemmas.Bool.{leb-true, le-leb}
use Rattle.run_model.specs.Values.{Name}
use Rattle.class_table.specs.Slots.{Slots}
use Rattle.event_trees.specs.Naming.{Grows}
use Rattle.history_model.specs.Rules.{Undo, Redo}
use Rattle.history_model.specs.History as history
use Rattle.history_model.specs.History.{after_action, undone, redone, stepped, appended}
use Rattle.command_model.specs.Conditions.{ConditionOf}
use Rattle.rb_base.specs.Names.{name_at}
use Rattle.command_numbers.specs.MappedCommands.{map_condition}
use Rattle.commands.specs.Views.{condition_of}
use Rattle.commands.specs.declared.condition.Condition.{Condition}
use Rattle.session_model.specs.Scripts.{rules}
use Rattle.rule_model.specs.RuleCommands.{Reason}
use Rattle.ruled_model.specs.RuledScripts.{Asked, Version, History, ruled}
use Rattle.team_core.specs.declared.book.BookRefusal.{BookRefusal}
use Rattle.team_core.specs.declared.book.BookRefusal.TheVariants as refused
use Rattle.team_core.specs.History.{HistoryOf, Group, Back, Forward, by_result, performed, moved, moved_back, moved_forward, Moves, Keeps}
use Rattle.team_core.proofs.Answering.{first, second}
use Rattle.session.specs.Log.{Log}
use Rattle.session.specs.History.{history_of}
use Rattle.proposals.specs.Proposed.{Proposed, asked_in}
use Rattle.proposals.proofs.MoreNames.{asked-later}
use Rattle.session.specs.Grouping.{after_group, grouped}
use Rattle.session_book.specs.Shared.{book_of, reason_text, condition_text, book_rules, fits_in, IsMoved}

-- names that grow keep the rules and what fits
pub names-keep : (names later : List (List ℕ)) → Grows names later → Keeps (book_rules names) (fits_in names) (book_rules later) (fits_in later)
names-keep names later g = record {
  fit = λ p h. le-leb p.names (length later) (omega (arith, leb-true p.names (length names) h, ap length g.grown, length-append names g.more));
  relation = λ v p h.
      ap (λ (a : Asked). by_result {B = Result Version (List ℕ)} (λ w. Ok w) (λ q. Err (reason_text q)) (after_action ruled v a)) (asked-later names p (leb-true p.names (length names) h) later g);
  no_earlier = refl;
  no_later = refl;
}

-- proposals that fit have names of the table
pub all-fit : (names : List (List ℕ)) (ps : List Proposed) → IsTrue (list_all (fits_in names) ps) → AllByRecursion (λ (p : Proposed). p.names ≤ length names) ps
all-fit names [] h = tt
all-fit names (p ∷ ps) h = (leb-true p.names (length names) (first (fits_in names p) (list_all (fits_in names) ps) h), all-fit names ps (second (fits_in names p) (list_all (fits_in names) ps) h))

-- a reason that is printed
abbrev printed : {A : Type 0} → Result A (ℕ × Reason) → Result A (ℕ × List ℕ)
printed (Ok a) = Ok a
printed (Err r) = Err (r.0, reason_text r.1)

-- a history as a book
abbrev booked : Result History (ℕ × Reason) → Result (HistoryOf Version) (ℕ × List ℕ)
booked (Ok h) = Ok (book_of h)
booked (Err r) = Err (r.0, reason_text r.1)

-- a book with one more version
abbrev made : {E : Type 0} → History → Version → Result (HistoryOf Version) E
made h t = Ok (record { earlier = h.now ∷ h.earlier; now = t; later = [] })

abbrev appended_to : {E : Type 0} → History → Version → Result History E
appended_to h v = Ok (appended ruled h v)

abbrev moved_so : Result History (ConditionOf Name) → Result (HistoryOf Version) (ℕ × List ℕ)
moved_so (Ok h) = Ok (book_of h)
moved_so (Err q) = Err (1, condition_text q)

module _ (names : List (List ℕ)) where
  one-performed : (n : ℕ) (ps : List Proposed) → ((w : Version) → performed (book_rules names) (n + 1) w ps ≡ printed (after_group (n + 1) w (map (asked_in names) ps))) → (o : Result Version Reason) →
      by_result {B = Result Version (ℕ × List ℕ)} (λ w. performed (book_rules names) (n + 1) w ps) (λ q. Err (n, q)) (by_result {B = Result Version (List ℕ)} (λ w. Ok w) (λ q. Err (reason_text q)) o)
      ≡ printed (history.by_result {B = Result Version (ℕ × Reason)} (λ w. after_group (n + 1) w (map (asked_in names) ps)) (λ q. Err (n, q)) o)
  one-performed n ps rest (Ok w) = rest w
  one-performed n ps rest (Err q) = refl

  performed-so : (n : ℕ) (v : Version) (ps : List Proposed) → performed (book_rules names) n v ps ≡ printed (after_group n v (map (asked_in names) ps))
  performed-so n v [] = refl
  performed-so n v (p ∷ ps) = one-performed n ps (λ w. performed-so (n + 1) w ps) (after_action ruled v (asked_in names p))

  -- a group
  made-so : (h : History) (o : Result Version (ℕ × Reason)) →
      by_result {B = Result (HistoryOf Version) (ℕ × List ℕ)} (made h) (λ r. Err r) (printed o) ≡ booked (history.by_result {B = Result History (ℕ × Reason)} (appended_to h) (λ r. Err r) o)
  made-so h (Ok v) = refl
  made-so h (Err r) = refl

  pub grouped-so : (h : History) (ps : List Proposed) → moved (book_rules names) (book_of h) (Group ps) ≡ booked (grouped h (map (asked_in names) ps))
  grouped-so h [] = refl
  grouped-so h (p ∷ ps) =
      ap (by_result {B = Result (HistoryOf Version) (ℕ × List ℕ)} (made h) (λ r. Err r)) (performed-so 1 h.now (p ∷ ps))
      ∙ made-so h (after_group 1 h.now (map (asked_in names) (p ∷ ps)))

  -- a step back and forth
  back-so : (h : History) → moved (book_rules names) (book_of h) Back ≡ moved_so (stepped rules h Undo)
  back-so h = by h.earlier
    where
      by : (vs : List Version) → moved_back (book_rules names) (book_of (record h { earlier = vs })) ≡ moved_so (undone rules (record h { earlier = vs }))
      by [] = refl
      by (v ∷ vs) = refl

  forward-so : (h : History) → moved (book_rules names) (book_of h) Forward ≡ moved_so (stepped rules h Redo)
  forward-so h = by h.later
    where
      by : (vs : List Version) → moved_forward (book_rules names) (book_of (record h { later = vs })) ≡ moved_so (redone rules (record h { later = vs }))
      by [] = refl
      by (v ∷ vs) = refl

-- a condition is printed the same over the same names
pub condition-named : (q : Condition) (ns names : List (List ℕ)) → ns ≡ names → condition_text (map_condition (name_at ns) (condition_of q)) ≡ condition_text (map_condition (name_at names) (condition_of q))
condition-named q ns names e = ap (λ (ms : List (List ℕ)). condition_text (map_condition (name_at ms) (condition_of q))) e

-- what a refusal tells
module _ {S : Type 0} (outcome : Result (HistoryOf S) (ℕ × List ℕ)) (old new : HistoryOf S) (same : new ≡ old) where
  pub refused-moves : (e : BookRefusal (List ℕ)) → ((n : ℕ) (q : List ℕ) → e ≡ refused.Cause n q → outcome ≡ Err (n, q)) → Moves outcome old (Err e) new
  refused-moves (refused.Cause n q) why = (why n q refl, same)
  refused-moves refused.Memory why = same

-- a group that is done, one that is refused, and one that wants memory
module _ (names : List (List ℕ)) (h k : History) (ps : List Proposed) where
  pub group-done : grouped h (map (asked_in names) ps) ≡ Ok k → Moves (moved (book_rules names) (book_of h) (Group ps)) (book_of h) (Ok tt) (book_of k)
  group-done e = grouped-so names h ps ∙ ap booked e

  pub group-refused : k ≡ h → (e : BookRefusal (List ℕ)) (n : ℕ) (w : Reason) → grouped h (map (asked_in names) ps) ≡ Err (n, w) →
      ((m : ℕ) (q : List ℕ) → e ≡ refused.Cause m q → (m ≡ n) × (q ≡ reason_text w)) → Moves (moved (book_rules names) (book_of h) (Group ps)) (book_of h) (Err e) (book_of k)
  group-refused same e n w wanted told =
      refused-moves (moved (book_rules names) (book_of h) (Group ps)) (book_of h) (book_of k) (ap book_of same) e
      (λ m q is. grouped-so names h ps ∙ ap booked wanted ∙ (λ i. let o : Result (HistoryOf Version) (ℕ × List ℕ) = Err (sym (told m q is).0 i, sym (told m q is).1 i) in o))

-- undo and redo
module _ (names : List (List ℕ)) (s t : Slots) (log next : Log) (result : Result (Unit {0}) (BookRefusal (List ℕ))) where
  moves-as : (wanted : Result History (ConditionOf Name)) (outcome : Result (HistoryOf Version) (ℕ × List ℕ)) → outcome ≡ moved_so wanted → (r : Result (Unit {0}) (BookRefusal (List ℕ))) → IsMoved s log wanted t next r →
      Moves outcome (book_of (history_of s log)) r (book_of (history_of t next))
  moves-as wanted outcome e (Ok u) is = e ∙ ap moved_so is.done
  moves-as wanted outcome e (Err why) is =
      refused-moves outcome (book_of (history_of s log)) (book_of (history_of t next)) (ap book_of is.same) why
      (λ m q same. let told = is.refused_for m q same in
      e ∙ ap moved_so told.3 ∙ (λ i. let o : Result (HistoryOf Version) (ℕ × List ℕ) = Err (sym told.0 i, sym told.2 i) in o))

  pub back-moves : IsMoved s log (stepped rules (history_of s log) Undo) t next result → Moves (moved (book_rules names) (book_of (history_of s log)) Back) (book_of (history_of s log)) result (book_of (history_of t next))
  back-moves is = moves-as (stepped rules (history_of s log) Undo) (moved (book_rules names) (book_of (history_of s log)) Back) (back-so names (history_of s log)) result is

  pub forward-moves : IsMoved s log (stepped rules (history_of s log) Redo) t next result → Moves (moved (book_rules names) (book_of (history_of s log)) Forward) (book_of (history_of s log)) result (book_of (history_of t next))
  forward-moves is = moves-as (stepped rules (history_of s log) Redo) (moved (book_rules names) (book_of (history_of s log)) Forward) (forward-so names (history_of s log)) result is
