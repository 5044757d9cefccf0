-- What the answers of `apply` promise.
use Rattle.std.proofs.Common.{◌≡◌, List, Ok, sym, subst}
use Rattle.std.specs.List.{AllByRecursion}
use Rattle.token_model.specs.declared.kind.Dialect.TheVariants.{Second}
use Rattle.st_kernel.specs.KernelText.{prelude_text}
use Rattle.image_model.specs.Image.{DoItOf, ImageOf, plus}
use Rattle.image_model.specs.Valid.{IsValid}
use Rattle.image_model.specs.Words.{text_words}
use Rattle.run_model.specs.Matched.{AreMatched}
use Rattle.file_model.specs.Causes.{Refusal as ImageRefusal}
use Rattle.file_model.specs.Fileable.{reading_of}
use Rattle.file_model.specs.Reading.{IsImageOf}
use Rattle.file_model.specs.Written.{file_of}
use Rattle.file_rereading.specs.Rereading.{IsWithinLimits, with_heads}
use Rattle.history_model.specs.Rules.{Asks}
use Rattle.history_model.proofs.Parts.{refused-at}
use Rattle.session_model.specs.Admitted.{nil_doit}
use Rattle.ruled_model.specs.RuledScripts.{Line, History, ruled, ruled_verdict, AdmitsRuled}
use Rattle.ruled_laws.specs.SpelledRequests.{IsSpelledAsked}
use Rattle.rewrite_model.specs.Saying.{SaysRule}
use Rattle.rule_model.specs.RuleCommands.{RuleCommand}
use Rattle.rule_laws.specs.KeptRules.{IsSpelledRule}
use Rattle.script_model.specs.Makers.{Text}
use Rattle.apply_model.specs.declared.status.Status.{Status}
use Rattle.apply_model.specs.declared.status.Status.TheVariants as status
use Rattle.apply_model.specs.Applied.{AppliesIn, NoScript, Refused, Accepted, Applies, NoImage, InImage}
use Rattle.apply_laws.specs.Promised.{KeepsItsRuns, IsRefusalOf}
use Rattle.apply_laws.specs.FileOuts.{IsValidFileOut}
use Rattle.apply_laws.proofs.SpelledRequests.{requests-spelled}

module _ (text script : Text) (said-rule : (first second : Text) (c : RuleCommand) → SaysRule first second c.rule → IsSpelledRule c)
    (matched : (i : ImageOf Text) (requests : List Line) (h : History) → IsImageOf Second prelude_text text i → AllByRecursion (Asks IsSpelledAsked) requests →
    ruled_verdict i requests ≡ Ok h → AreMatched i h.now.image h.now.renaming)
    (nil : (i : ImageOf Text) (requests : List Line) (h : History) → ruled_verdict i requests ≡ Ok h → AdmitsRuled i requests nil_doit)
    (valid : (i : ImageOf Text) (requests : List Line) (h : History) → (is : IsImageOf Second prelude_text text i) → AllByRecursion (Asks IsSpelledAsked) requests →
    ruled_verdict i requests ≡ Ok h → IsValid text_words (reading_of Second is.kernel) h.now.image)
    (again : (i : ImageOf Text) (requests : List Line) (h : History) → IsImageOf Second prelude_text text i → AllByRecursion (Asks IsSpelledAsked) requests →
    ruled_verdict i requests ≡ Ok h → IsWithinLimits h.now.image → IsImageOf Second prelude_text (file_of h.now.image) (with_heads h.now.image))
    (matched_again : (i : ImageOf Text) (requests : List Line) (h : History) → IsImageOf Second prelude_text text i → AllByRecursion (Asks IsSpelledAsked) requests →
    ruled_verdict i requests ≡ Ok h → AreMatched i (with_heads h.now.image) h.now.renaming)
    (admitted : (i : ImageOf Text) (requests : List Line) (h : History) (e : DoItOf Text) → IsImageOf Second prelude_text text i → AllByRecursion (Asks IsSpelledAsked) requests →
    ruled_verdict i requests ≡ Ok h → (a : AdmitsRuled i requests e) →
    (last : DoItOf Text) × (a.history.now.image ≡ plus h.now.image last) × (a.history.now.renaming ≡ h.now.renaming)
    × AreMatched (plus i e) (plus h.now.image last) h.now.renaming × AreMatched (plus i e) (plus (with_heads h.now.image) last) h.now.renaming) where
  -- what is printed is read again, where each command is well spelled
  read-again : (i : ImageOf Text) (rs : List Line) (h : History) (sent : Text) → IsImageOf Second prelude_text text i → ruled_verdict i rs ≡ Ok h → sent ≡ file_of h.now.image →
      AllByRecursion (Asks IsSpelledAsked) rs → IsWithinLimits h.now.image → IsImageOf Second prelude_text sent (with_heads h.now.image)
  read-again i rs h sent is v b spelled within = subst (λ t. IsImageOf Second prelude_text t (with_heads h.now.image)) (sym b) (again i rs h is spelled v within)

  -- the runs of the image
  kept-in : (i : ImageOf Text) (rs : List Line) (h : History) (sent : Text) → IsImageOf Second prelude_text text i → ruled_verdict i rs ≡ Ok h → sent ≡ file_of h.now.image →
      AllByRecursion (Asks IsSpelledAsked) rs → KeepsItsRuns i rs h sent
  kept-in i rs h sent is v b spelled =
      record {
        matched = matched i rs h is spelled v;
        read_again = read-again i rs h sent is v b spelled;
        matched_again = matched_again i rs h is spelled v;
        expressions = λ x ad. let all = admitted i rs h x is spelled v ad in record { last = all.0; added = all.1; renaming = all.2; matched = all.3; matched_again = all.4 };
      }

  done-in : (i : ImageOf Text) (s : Status) (sent : Text) → IsImageOf Second prelude_text text i → AppliesIn i script s sent → s ≡ status.Done → IsValidFileOut text script sent
  done-in i s sent is (NoScript n cause refused a b) e = absurd (cc)
  done-in i s sent is (Refused rs r says v a b) e = absurd (cc)
  done-in i s sent is (Accepted rs h says v a b) e =
      let spelled = requests-spelled said-rule script rs says in
      record {
        changed = record {
          image = i;
          is_image = is;
          requests = rs;
          says = says;
          history = h;
          accepted = v;
          file = b;
          nil_admitted = nil i rs h v;
          kept = kept-in i rs h sent is v b spelled;
        };
        valid = valid i rs h is spelled v;
        read_again = read-again i rs h sent is v b spelled;
      }

  pub done : (image_line : ImageRefusal → Text) (s : Status) (sent : Text) → Applies image_line text script s sent → s ≡ status.Done → IsValidFileOut text script sent
  done image_line s sent (NoImage r refused a b) e = absurd (cc)
  done image_line s sent (InImage i is a) e = done-in i s sent is a e

-- a command that is refused
condition-in : (text script : Text) (i : ImageOf Text) (s : Status) (sent : Text) → IsImageOf Second prelude_text text i → AppliesIn i script s sent → s ≡ status.Condition → IsRefusalOf text script sent
condition-in text script i s sent is (NoScript n cause refused a b) e = absurd (cc)
condition-in text script i s sent is (Accepted rs h says v a b) e = absurd (cc)
condition-in text script i s sent is (Refused rs r says v a b) e =
    record { image = i; is_image = is; requests = rs; says = says; refusal = r; at = refused-at ruled i rs r v; file = b }

pub condition : (image_line : ImageRefusal → Text) (text script : Text) (s : Status) (sent : Text) → Applies image_line text script s sent → s ≡ status.Condition → IsRefusalOf text script sent
condition image_line text script s sent (NoImage r refused a b) e = absurd (cc)
condition image_line text script s sent (InImage i is a) e = condition-in text script i s sent is a e
