-- The text of an explanation.
use Rattle.std.proofs.Common.{◌≡◌, ℕ, zero, suc, ◌-◌, List, [], ◌∷◌, ◌++◌, append_assoc, Option, Some, None, slice_get, refl, sym, ap, subst, ◌∙◌}
use Rattle.std.specs.Prelude.{codes, option_map, MatchOption}
use Rattle.std.specs.Fmt.{decimal}
use Rattle.std.specs.List.{flat_map}
use Rattle.std.proofs.lemmas.Option.{slice_get-map}
use Rattle.rb_base.specs.Names.{text_eq}
use Rattle.scope_model.specs.FreeNames.{each_once}
use Rattle.query_model.specs.Lines.{Text}
use Rattle.ruled_model.specs.RuledScripts.{History, Refusal}
use Rattle.apply_model.specs.Lines.{refusal_line}
use Rattle.script_lang.specs.declared.asked.ScriptLine.{ScriptLine}
use Rattle.script_lang.specs.Shown.{line_in, lines_in, AreKnown, IsKnownLine}
use Rattle.applied_scripts.specs.declared.lines.Stop.{Stop}
use Rattle.applied_scripts.specs.Refused.{refusal_shown}
use Rattle.refusal_witnesses.specs.Lines.{line_of}
use Rattle.why_model.specs.Reasons.{reason_sentence}
use Rattle.why_model.specs.Refusals.{line_refused}
use Rattle.why_model.specs.Explained.{numbered_lines, step_of, step_text}
use Rattle.explained_scripts.specs.declared.explain.Hindered.{Hindered}
use Rattle.explained_scripts.specs.declared.explain.Told.{Told}
use Rattle.explained_scripts.specs.declared.lines.NumberedLine.{NumberedLine}
use Rattle.explained_scripts.specs.Lines.{line_shown}
use Rattle.explained_scripts.specs.Shown.{told_of, told_shown, IsTold, Shows}

-- what is told is that of a refusal
pub record IsToldOf (names : List Text) (stop : Stop) (told : Told) : Type 0 where
  pub refusal : Refusal
  pub shown : refusal_shown names stop ≡ Some refusal
  pub number : told.number ≡ refusal.number
  pub sentence : told.sentence.now ≡ reason_sentence refusal.condition

pub told-there : (names : List Text) (stop : Stop) (told : Told) → Some (told_shown told) ≡ option_map told_of (refusal_shown names stop) → IsToldOf names stop told
told-there names stop told e = by (refusal_shown names stop) refl e
  where
    by : (o : Option Refusal) → refusal_shown names stop ≡ o → Some (told_shown told) ≡ option_map told_of o → IsToldOf names stop told
    by None is f = absurd (cc)
    by (Some r) is f =
        let both : told_shown told ≡ told_of r = cc in
        record { refusal = r; shown = is; number = ap (λ (x : ℕ × Text). x.0) both; sentence = ap (λ (x : ℕ × Text). x.1) both }

-- four texts one after the other
four : (start a b c d : Text) → (((start ++ a) ++ b) ++ c) ++ d ≡ start ++ (((a ++ b) ++ c) ++ d)
four start a b c d =
    ap (λ (t : Text). (t ++ c) ++ d) (append_assoc start a b) ∙ ap (λ (t : Text). t ++ d) (append_assoc start (a ++ b) c) ∙ append_assoc start ((a ++ b) ++ c) d

module _ (h : History) (script : Text) (names : List Text) (asked : List ScriptLine) (one : ScriptLine) (refusal : Refusal) (place : ℕ) (line : NumberedLine) (shown : Hindered) (sentence start told after : Text)
    (at : place ≡ refusal.number - 1) (there : Some (line_shown line) ≡ slice_get (numbered_lines script) place) (item : Some one ≡ slice_get asked place) (shows : Shows h (line_in names one) shown) (says : sentence ≡ reason_sentence refusal.condition)
    (before : told ≡ start ++ refusal_line refusal)
    (is : after ≡ ((told ++ line_of (codes "line " ++ decimal line.number ++ codes " " ++ line.text.now ++ step_text shown.step)) ++ line_of sentence) ++ flat_map (λ (text : Text). text) (each_once text_eq shown.lines.items)) where
  pub explains : IsTold h script (lines_in names asked) refusal start after
  explains = record {
    line = line_in names one;
    asked = ap (slice_get (lines_in names asked)) (sym at) ∙ slice_get-map (line_in names) asked place ∙ ap (option_map (line_in names)) (sym item);
    tells = λ e. record {
      number = line.number;
      text = line.text.now;
      at = ap (slice_get (numbered_lines script)) (sym at) ∙ sym there;
      witness_lines = shown.lines.items;
      are = shows.lines refusal.condition e;
      is =
          is
          ∙ (λ j. ((before j ++ line_of (codes "line " ++ decimal line.number ++ codes " " ++ line.text.now ++ step_text (shows.step refusal.condition e j))) ++ line_of (says j)) ++ flat_map (λ (text : Text). text) (each_once text_eq shown.lines.items))
          ∙ four start (refusal_line refusal) (line_of (codes "line " ++ decimal line.number ++ codes " " ++ line.text.now ++ step_text (step_of (line_refused h.now.image (line_in names one))))) (line_of (reason_sentence refusal.condition)) (flat_map (λ (text : Text). text) (each_once text_eq shown.lines.items));
    };
  }

-- the line at a place among some that are known is known
pub known-at : (names : List Text) (asked : List ScriptLine) (place : ℕ) (one : ScriptLine) → AreKnown names asked → Some one ≡ slice_get asked place → IsKnownLine names one
known-at names [] place one known e = absurd (cc)
known-at names (x ∷ xs) zero one known e =
    let same : one ≡ x = cc in
    subst (IsKnownLine names) (sym same) known.0
known-at names (x ∷ xs) (suc place) one known e = known-at names xs place one known.1 e

-- the line that is appended first tells the refusal
pub stop-line : (o : Option Refusal) (refusal : Refusal) (start told : Text) → o ≡ Some refusal → MatchOption o ⊥ (λ r. told ≡ start ++ refusal_line r) → told ≡ start ++ refusal_line refusal
stop-line o refusal start told e h = subst (λ (p : Option Refusal). MatchOption p ⊥ (λ r. told ≡ start ++ refusal_line r)) e h
