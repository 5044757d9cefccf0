-- A script asks for commands, or is refused.
use Rattle.std.proofs.Common.{◌≡◌, ℕ, ◌+◌, ◌⊎◌, inl, inr, Bool, true, false, not, List, [], ◌∷◌, ◌++◌, length, map, Option, Some, None, Result, Ok, Err, refl, sym, ap, ◌∙◌, subst, append_assoc, length-append, arith}
use Rattle.std.specs.Prelude.{cond, nat_lt, if◌then◌else◌}
use Rattle.std.proofs.lemmas.Bool.{ltb-true}
use Rattle.std.proofs.lemmas.List.{append-nil, map-append}
use Rattle.std.proofs.lemmas.List.Elements.{filter-append}
use Rattle.ruled_model.specs.RuledScripts.{Line}
use Rattle.script_model.specs.Lines.{lines_of, is_skipped, spoken}
use Rattle.script_model.specs.Makers.{Text}
use Rattle.script_model.specs.Commands.{Cause, TooMany}
use Rattle.script_model.specs.Scripts.{LineSays, Say, Says, cause_of, IsRefused}
use Rattle.script_model.proofs.RuledAnswers.{Answer, each-said, each-says}

module _ (answer : Text → Answer) (says : (line : Text) → LineSays line (answer line)) (one : (line : Text) (r s : Answer) → LineSays line r → LineSays line s → r ≡ s) (text : Text) where
  -- what the text asks for, or its first line that is wrong
  abbrev Read : Type 0
  Read = ((requests : List Line) × Says text requests) ⊎ ((number : ℕ) × (cause : Cause) × IsRefused text number cause)

  -- what one more line says
  more : (before : List Text) (l : Text) → map answer (spoken (before ++ l ∷ [])) ≡ map answer (spoken before) ++ map answer (spoken (l ∷ []))
  more before l = ap (map answer) (filter-append (λ (x : Text). not (is_skipped x)) before (l ∷ [])) ∙ map-append answer (spoken before) (spoken (l ∷ []))

  -- a line that asks for something
  with-request : (before : List Text) (l : Text) (ls : List Text) (bs : List Line) (c : Line) (room : Bool) → lines_of text ≡ before ++ l ∷ ls → is_skipped l ≡ false → answer l ≡ Ok c → Say before bs →
      nat_lt (length bs) 10000 ≡ room → (Say (before ++ l ∷ []) (bs ++ c ∷ []) → Read) → Read
  with-request before l ls bs c true parts e o say r go =
      let each : map answer (spoken (before ++ l ∷ [])) ≡ map {B = Result Line Cause} Ok (bs ++ c ∷ []) =
      more before l
      ∙ ap (λ b. map answer (spoken before) ++ map answer (cond (not b) (l ∷ []) [])) e
      ∙ ap (λ xs. xs ++ answer l ∷ []) (each-said answer says one (spoken before) bs say.each)
      ∙ ap (λ x. map {B = Result Line Cause} Ok bs ++ x ∷ []) o
      ∙ sym (map-append Ok bs (c ∷ [])) in
      go (record { each = each-says answer says one (spoken (before ++ l ∷ [])) (bs ++ c ∷ []) each; few = omega (arith, length-append bs (c ∷ []), ltb-true (length bs) 10000 r) })
  with-request before l ls bs c false parts e o say r go =
      inr (
        length before + 1,
        TooMany,
        record {
          before = before;
          line = l;
          after = ls;
          requests = bs;
          parts = parts;
          numbered = refl;
          said_before = say;
          says_something = e;
          wrong = record { answer = answer l; says = says l; wrong = ap (cause_of (length bs)) o ∙ ap (λ b. let x : Option Cause = if b then None else Some TooMany in x) r };
        },
      )

  -- any line
  line-by : (before : List Text) (l : Text) (ls : List Text) (bs : List Line) (skipped : Bool) (r : Result Line Cause) → lines_of text ≡ before ++ l ∷ ls → is_skipped l ≡ skipped → answer l ≡ r → Say before bs →
      ((cs : List Line) → Say (before ++ l ∷ []) cs → Read) → Read
  line-by before l ls bs true r parts e o say go =
      go bs (record { each = each-says answer says one (spoken (before ++ l ∷ [])) bs (more before l ∙ ap (λ b. map answer (spoken before) ++ map answer (cond (not b) (l ∷ []) [])) e ∙ append-nil (map answer (spoken before)) ∙ each-said answer says one (spoken before) bs say.each); few = say.few })
  line-by before l ls bs false (Ok c) parts e o say go = with-request before l ls bs c (nat_lt (length bs) 10000) parts e o say refl (go (bs ++ c ∷ []))
  line-by before l ls bs false (Err cause) parts e o say go =
      inr (
        length before + 1,
        cause,
        record {
          before = before;
          line = l;
          after = ls;
          requests = bs;
          parts = parts;
          numbered = refl;
          said_before = say;
          says_something = e;
          wrong = record { answer = answer l; says = says l; wrong = ap (cause_of (length bs)) o };
        },
      )

  walk : (before rest : List Text) (bs : List Line) → lines_of text ≡ before ++ rest → Say before bs → Read
  walk before [] bs parts say = inl (bs, subst (λ ls. Say ls bs) (sym (parts ∙ append-nil before)) say)
  walk before (l ∷ ls) bs parts say =
      line-by before l ls bs (is_skipped l) (answer l) parts refl refl say
      (λ cs s. walk (before ++ l ∷ []) ls cs (parts ∙ sym (append_assoc before (l ∷ []) ls)) s)

  pub read : ((requests : List Line) × Says text requests) ⊎ ((number : ℕ) × (cause : Cause) × IsRefused text number cause)
  read = walk [] (lines_of text) [] refl (record { each = tt; few = omega arith })
