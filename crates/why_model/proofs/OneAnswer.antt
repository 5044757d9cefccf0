-- Two texts have one answer.
use Rattle.std.proofs.Common.{◌≡◌, ℕ, List, Result, Ok, Err, sym, ap, subst, ◌∙◌}
use Rattle.token_model.specs.declared.kind.Dialect.TheVariants.{Second}
use Rattle.st_kernel.specs.KernelText.{prelude_text}
use Rattle.image_model.specs.Image.{ImageOf}
use Rattle.file_model.specs.Causes.{Refusal as ImageRefusal}
use Rattle.file_model.specs.Reading.{IsImageOf, HasRefusal}
use Rattle.query_model.specs.Lines.{Text}
use Rattle.history_model.proofs.Parts.{refused-from}
use Rattle.script_model.specs.Commands.{Cause}
use Rattle.script_model.specs.Scripts.{Says, IsRefused}
use Rattle.ruled_model.specs.RuledScripts.{Line, History, Refusal, ruled, ruled_verdict}
use Rattle.apply_model.specs.declared.status.Status.{Status}
use Rattle.apply_model.specs.Lines.{script_line}
use Rattle.why_model.specs.Explained.{IsExplained}
use Rattle.why_model.specs.Why.{WhyIn, NoScript, Refused, Accepted, Why, NoImage, InImage}
use Rattle.why_model.proofs.OneExplanation.{one-explanation}

module _ (says_once : (text : Text) (rs qs : List Line) → Says text rs → Says text qs → rs ≡ qs)
    (not_both : (text : Text) (rs : List Line) (n : ℕ) (cause : Cause) → Says text rs → ¬ IsRefused text n cause)
    (refused_once : (text : Text) (n m : ℕ) (cause other : Cause) → IsRefused text n cause → IsRefused text m other → (n ≡ m) × (cause ≡ other)) where
  -- what is refused is not accepted
  never : {P : Type 0} (i : ImageOf Text) (script text : Text) (rs : List Line) (h : History) → IsExplained i script text → Says script rs → ruled_verdict i rs ≡ Ok h → P
  never i script text rs h a asks v =
      let both : ◌≡◌ {A = Result History Refusal} (Err a.refusal) (Ok h) = sym (refused-from ruled i a.requests a.refusal a.refused) ∙ ap (ruled_verdict i) (says_once script a.requests rs a.says asks) ∙ v in
      absurd (cc)

  pub one-in : (i : ImageOf Text) (script : Text) (s t : Status) (x y : Text) → WhyIn i script s x → WhyIn i script t y → (s ≡ t) × (x ≡ y)
  one-in i script s t x y (NoScript n cause refused a b) (NoScript m other wrong c d) =
      let same = refused_once script n m cause other refused wrong in
      (a ∙ sym c, b ∙ ap (λ k. script_line k cause) same.0 ∙ ap (script_line m) same.1 ∙ sym d)
  one-in i script s t x y (NoScript n cause refused a b) (Refused why c) = absurd (not_both script why.requests n cause why.says refused)
  one-in i script s t x y (NoScript n cause refused a b) (Accepted rs h asks v c d) = absurd (not_both script rs n cause asks refused)
  one-in i script s t x y (Refused why a) (NoScript n cause refused c d) = absurd (not_both script why.requests n cause why.says refused)
  one-in i script s t x y (Refused why a) (Refused other c) = (a ∙ sym c, one-explanation says_once i script x y why other)
  one-in i script s t x y (Refused why a) (Accepted qs h asks v c d) = never i script x qs h why asks v
  one-in i script s t x y (Accepted rs h asks v a b) (NoScript n cause refused c d) = absurd (not_both script rs n cause asks refused)
  one-in i script s t x y (Accepted rs h asks v a b) (Refused why c) = never i script y rs h why asks v
  one-in i script s t x y (Accepted rs h asks v a b) (Accepted qs g others w c d) = (a ∙ sym c, b ∙ sym d)

  module _ (image_once : (text : Text) (i j : ImageOf Text) → IsImageOf Second prelude_text text i → IsImageOf Second prelude_text text j → i ≡ j)
      (never_both : (text : Text) (i : ImageOf Text) (r : ImageRefusal) → IsImageOf Second prelude_text text i → ¬ HasRefusal Second prelude_text text r)
      (refusal_once : (text : Text) (r q : ImageRefusal) → HasRefusal Second prelude_text text r → HasRefusal Second prelude_text text q → r ≡ q) where
    pub one : (image_line : ImageRefusal → Text) (text script : Text) (s t : Status) (x y : Text) →
        Why image_line text script s x → Why image_line text script t y → (s ≡ t) × (x ≡ y)
    one image_line text script s t x y (NoImage r refused a b) (NoImage q wrong c d) =
        (a ∙ sym c, b ∙ ap image_line (refusal_once text r q refused wrong) ∙ sym d)
    one image_line text script s t x y (NoImage r refused a b) (InImage j is c) = absurd (never_both text j r is refused)
    one image_line text script s t x y (InImage i is a) (NoImage q wrong c d) = absurd (never_both text i q is wrong)
    one image_line text script s t x y (InImage i is a) (InImage j are c) =
        one-in j script s t x y (subst (λ k. WhyIn k script s x) (image_once text i j is are) a) c
