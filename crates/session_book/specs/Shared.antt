-- The book that an image and its session are.
use Rattle.std.specs.Prelude.{◌≡◌, ℕ, Bool, nat_le, codes, List, length, Result, Ok, Err, IfErr, OnOk, OnErr, refl}
use Rattle.std.specs.Coded.{Coded, code_by, coded×}
use Rattle.run_model.specs.Values.{Name}
use Rattle.class_table.specs.Slots.{Slots}
use Rattle.class_table.specs.SlotsCode.{coded_slots}
use Rattle.text_model.specs.Pieces.{pieces_behind}
use Rattle.history_model.specs.History.{after_action}
use Rattle.command_model.specs.Conditions.{ConditionOf}
use Rattle.rule_model.specs.RuleCommands.{Reason, Unmet}
use Rattle.ruled_model.specs.RuledScripts.{Version, History, ruled}
use Rattle.apply_model.specs.Lines.{reason_words}
use Rattle.team_core.specs.declared.book.BookRefusal.{BookRefusal}
use Rattle.team_core.specs.declared.book.BookRefusal.TheVariants as refused
use Rattle.team_core.specs.History.{HistoryOf, RulesOf, by_result}
use Rattle.session.specs.Log.{Log}
use Rattle.session.specs.LogCode.{coded_log}
use Rattle.session.specs.History.{history_of}
use Rattle.proposals.specs.Proposed.{Proposed, asked_in}

-- an image, and the log of what was done with it
pub record Shared : Type 0 where
  pub image : Slots
  pub log : Log

-- the code of both
abbrev pub coded_shared : Coded Shared
coded_shared = code_by (Slots × Log) (coded× coded_slots coded_log) (λ b. (b.image, b.log)) (λ p. record { image = p.0; log = p.1 }) (λ _. refl)

-- the versions of the image, and which of them is the present one
abbrev pub book_of : History → HistoryOf Version
book_of h = record { earlier = h.earlier; now = h.now; later = h.later }

abbrev pub shared_history : Shared → HistoryOf Version
shared_history b = book_of (history_of b.image b.log)

-- a reason as it is printed: its number, its name and its arguments, each after a blank; and a condition
abbrev pub reason_text : Reason → List ℕ
reason_text q = pieces_behind (codes " ") (reason_words q)

abbrev pub condition_text : ConditionOf Name → List ℕ
condition_text q = reason_text (Unmet q)

-- what is made of a version by what is proposed, over the texts of the names; a reason that refuses it is printed
abbrev pub book_rules : List (List ℕ) → RulesOf Version Proposed (List ℕ)
book_rules names = record {
  relation = λ v p. by_result (λ w. Ok w) (λ q. Err (reason_text q)) (after_action ruled v (asked_in names p));
  no_earlier = reason_text ruled.undo_left;
  no_later = reason_text ruled.redo_left;
}

-- what is proposed fits if its names are names of the image
abbrev pub fits_in : List (List ℕ) → Proposed → Bool
fits_in names p = nat_le p.names (length names)

-- An image and its log were moved in their history, over the same names: where they were, to what is wanted; else they are as before, and the one that was refused is the first, for the condition that is wanted.
pub record IsMoved (s : Slots) (former : Log) (wanted : Result History (ConditionOf Name)) (t : Slots) (next : Log) (result : Result (Unit {0}) (BookRefusal (List ℕ))) : Type 0 where
  pub names : t.names ≡ s.names
  pub done : OnOk result (wanted ≡ Ok (history_of t next))
  pub same : OnErr result (history_of t next ≡ history_of s former)
  pub refused_for : IfErr result (λ e. (n : ℕ) (q : List ℕ) → e ≡ refused.Cause n q → (n ≡ 1) × (c : ConditionOf Name) × (q ≡ condition_text c) × (wanted ≡ Err c))
