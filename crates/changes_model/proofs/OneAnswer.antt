-- A script has one answer in an image.
use Rattle.std.proofs.Common.{◌≡◌, ℕ, List, Result, Ok, Err, sym, ap, ◌∙◌}
use Rattle.image_model.specs.Image.{ImageOf}
use Rattle.script_model.specs.Makers.{Text}
use Rattle.script_model.specs.Commands.{Cause}
use Rattle.script_model.specs.Scripts.{Says, IsRefused}
use Rattle.ruled_model.specs.RuledScripts.{Line, History, Refusal, ruled_verdict}
use Rattle.apply_model.specs.declared.status.Status.{Status}
use Rattle.apply_model.specs.Lines.{script_line, refusal_line}
use Rattle.change_model.specs.Text.{change_text}
use Rattle.changes_model.specs.Changes.{ChangesIn, NoScript, Refused, Accepted}

module _ (says_once : (text : Text) (rs qs : List Line) → Says text rs → Says text qs → rs ≡ qs)
    (not_both : (text : Text) (rs : List Line) (n : ℕ) (cause : Cause) → Says text rs → ¬ IsRefused text n cause)
    (refused_once : (text : Text) (n m : ℕ) (cause other : Cause) → IsRefused text n cause → IsRefused text m other → (n ≡ m) × (cause ≡ other)) where
  -- one verdict
  verdicts : (i : ImageOf Text) (script : Text) (rs qs : List Line) (v w : Result History Refusal) → Says script rs → Says script qs →
      ruled_verdict i rs ≡ v → ruled_verdict i qs ≡ w → v ≡ w
  verdicts i script rs qs v w a b d e = sym d ∙ ap (ruled_verdict i) (says_once script rs qs a b) ∙ e

  pub one-in : (i : ImageOf Text) (script : Text) (s t : Status) (x y : Text) → ChangesIn i script s x → ChangesIn i script t y → (s ≡ t) × (x ≡ y)
  one-in i script s t x y (NoScript n cause refused a b) (NoScript m other wrong c d) =
      let same = refused_once script n m cause other refused wrong in
      (a ∙ sym c, b ∙ ap (λ k. script_line k cause) same.0 ∙ ap (script_line m) same.1 ∙ sym d)
  one-in i script s t x y (NoScript n cause refused a b) (Refused rs r asks v c d) = absurd (not_both script rs n cause asks refused)
  one-in i script s t x y (NoScript n cause refused a b) (Accepted rs h asks v c d) = absurd (not_both script rs n cause asks refused)
  one-in i script s t x y (Refused rs r asks v a b) (NoScript n cause refused c d) = absurd (not_both script rs n cause asks refused)
  one-in i script s t x y (Refused rs r asks v a b) (Refused qs q others w c d) =
      let both : ◌≡◌ {A = Result History Refusal} (Err r) (Err q) = verdicts i script rs qs (Err r) (Err q) asks others v w in
      let same : r ≡ q = cc in
      (a ∙ sym c, b ∙ ap refusal_line same ∙ sym d)
  one-in i script s t x y (Refused rs r asks v a b) (Accepted qs h others w c d) =
      let both = verdicts i script rs qs (Err r) (Ok h) asks others v w in
      absurd (cc)
  one-in i script s t x y (Accepted rs h asks v a b) (NoScript n cause refused c d) = absurd (not_both script rs n cause asks refused)
  one-in i script s t x y (Accepted rs h asks v a b) (Refused qs q others w c d) =
      let both = verdicts i script rs qs (Ok h) (Err q) asks others v w in
      absurd (cc)
  one-in i script s t x y (Accepted rs h asks v a b) (Accepted qs g others w c d) =
      let both = verdicts i script rs qs (Ok h) (Ok g) asks others v w in
      let same : h ≡ g = cc in
      (a ∙ sym c, b ∙ ap (λ (f : History). change_text i f.now.image) same ∙ sym d)
