use Rattle.std.proofs.Common.{◌≡◌, ℕ, List, ◌++◌, append_assoc, refl, ap, ◌∙◌}
use Rattle.std.specs.Prelude.{codes}
use Rattle.std.specs.List.{flat_map}
use Rattle.std.specs.Fmt.{decimal}
use Rattle.rb_base.specs.Names.{text_eq}
use Rattle.token_model.specs.declared.kind.Dialect.TheVariants.{Second}
use Rattle.st_kernel.specs.KernelText.{prelude_text}
use Rattle.scope_model.specs.FreeNames.{each_once}
use Rattle.image_model.specs.Image.{ImageOf}
use Rattle.file_model.specs.Reading.{IsImageOf}
use Rattle.apply_model.specs.declared.status.Status as applied
use Rattle.apply_model.specs.declared.status.Status.TheVariants as verdict
use Rattle.apply_model.specs.Lines.{refusal_line}
use Rattle.refusal_witnesses.specs.Lines.{line_of}
use Rattle.why_model.specs.Reasons.{reason_sentence}
use Rattle.why_model.specs.Refusals.{line_refused}
use Rattle.why_model.specs.Explained.{step_text, step_of}
use Rattle.why_model.specs.Why as explanation
use Rattle.image_forms.specs.declared.status.Status.TheVariants as status
use Rattle.image_forms.specs.ImageLines.{image_refusal}
use Rattle.image_forms.specs.Answers.{Explains}
use Rattle.browse_laws.specs.Explained.{IsAccepted, IsToldWhy}
use Rattle.browse_laws.proofs.Sending.{given-of, done-is, condition-is}
use Rattle.browse_laws.proofs.explained.law_told_why.Goals as goal

-- what stands after the first of four texts
after-first : (r a b c : List ℕ) → ((r ++ a) ++ b) ++ c ≡ r ++ ((a ++ b) ++ c)
after-first r a b c = ap (λ (t : List ℕ). t ++ c) (append_assoc r a b) ∙ append_assoc r (a ++ b) c

-- an accepted script
accepted-in : (text script sent : List ℕ) (i : ImageOf (List ℕ)) (v : applied.Status) → v ≡ verdict.Done → IsImageOf Second prelude_text text i → explanation.WhyIn i script v sent → IsAccepted text script sent
accepted-in text script sent i v e is (explanation.NoScript n cause refused a b) = absurd (cc)
accepted-in text script sent i v e is (explanation.Refused why a) = absurd (cc)
accepted-in text script sent i v e is (explanation.Accepted rs h says ended a b) =
    record { image = i; is_image = is; requests = rs; says = says; history = h; accepted = ended; nothing = b }

accepted : (text script sent : List ℕ) (v : applied.Status) → v ≡ verdict.Done → explanation.Why image_refusal text script v sent → IsAccepted text script sent
accepted text script sent v e (explanation.NoImage r refused a b) = absurd (cc)
accepted text script sent v e (explanation.InImage i is why) = accepted-in text script sent i v e is why

pub returns-clause-done : goal.returns-clause-done
returns-clause-done c = λ w image script sent answers.
    given-of w image script sent status.Done ((λ e. cc), (λ e. cc)) (λ text commands. Explains text commands status.Done sent) (λ text commands. IsAccepted text commands sent)
    (λ text commands short a. accepted text commands sent a.verdict (done-is a.verdict a.status) a.why) answers

pub returns-clause-condition : goal.returns-clause-condition
returns-clause-condition c = λ w image script sent answers.
    given-of w image script sent status.Condition ((λ e. cc), (λ e. cc)) (λ text commands. Explains text commands status.Condition sent) (λ text commands. IsToldWhy text commands sent)
    (λ text commands short a. told text commands sent a.verdict (condition-is a.verdict a.status) a.why) answers
  where
    told-in : (text script sent : List ℕ) (i : ImageOf (List ℕ)) (v : applied.Status) → v ≡ verdict.Condition → IsImageOf Second prelude_text text i → explanation.WhyIn i script v sent → IsToldWhy text script sent
    told-in text script sent i v e is (explanation.NoScript n cause refused a b) = absurd (cc)
    told-in text script sent i v e is (explanation.Accepted rs h says ended a b) = absurd (cc)
    told-in text script sent i v e is (explanation.Refused why a) = record {
      image = i;
      is_image = is;
      explained = why;
      shown = c.law_refused.ensures.shown i why.requests why.refusal why.refused;
      line = refusal_line why.refusal;
      rest = (line_of (codes "line " ++ decimal why.number ++ codes " " ++ why.line ++ step_text (step_of (line_refused why.refused.history.now.image why.refused.line))) ++ line_of (reason_sentence why.refusal.condition)) ++ flat_map (λ (text : List ℕ). text) (each_once text_eq why.witness_lines);
      begins = why.is ∙ after-first (refusal_line why.refusal) (line_of (codes "line " ++ decimal why.number ++ codes " " ++ why.line ++ step_text (step_of (line_refused why.refused.history.now.image why.refused.line)))) (line_of (reason_sentence why.refusal.condition)) (flat_map (λ (text : List ℕ). text) (each_once text_eq why.witness_lines));
      refusal = record { image = i; is_image = is; requests = why.requests; says = why.says; refusal = why.refusal; at = why.refused; file = refl };
    }

    told : (text script sent : List ℕ) (v : applied.Status) → v ≡ verdict.Condition → explanation.Why image_refusal text script v sent → IsToldWhy text script sent
    told text script sent v e (explanation.NoImage r refused a b) = absurd (cc)
    told text script sent v e (explanation.InImage i is why) = told-in text script sent i v e is why
