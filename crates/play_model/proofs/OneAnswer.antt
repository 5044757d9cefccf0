-- Two texts have one answer.
use Rattle.std.proofs.Common.{◌≡◌, ℕ, List, sym, ap, ◌∙◌, subst}
use Rattle.token_model.specs.declared.kind.Dialect.TheVariants.{Second}
use Rattle.st_kernel.specs.KernelText.{prelude_text}
use Rattle.image_model.specs.Image.{ImageOf}
use Rattle.file_model.specs.Causes.{Refusal as ImageRefusal}
use Rattle.file_model.specs.Reading.{IsImageOf, HasRefusal}
use Rattle.script_model.specs.Makers.{Text}
use Rattle.script_model.specs.Commands.{Cause}
use Rattle.log_model.specs.Events.{Event, LogSays, IsLogRefused}
use Rattle.apply_model.specs.declared.status.Status.{Status}
use Rattle.apply_model.specs.Lines.{script_line}
use Rattle.play_model.specs.Played.{played, PlaysIn, NoLog, Played, Plays, NoImage, InImage}

module _ (says_once : (text : Text) (es fs : List Event) → LogSays text es → LogSays text fs → es ≡ fs)
    (not_both : (text : Text) (es : List Event) (n : ℕ) (cause : Cause) → LogSays text es → ¬ IsLogRefused text n cause)
    (refused_once : (text : Text) (n m : ℕ) (cause other : Cause) → IsLogRefused text n cause → IsLogRefused text m other → (n ≡ m) × (cause ≡ other)) where
  pub one-in : (i : ImageOf Text) (log : Text) (s t : Status) (x y : Text) → PlaysIn i log s x → PlaysIn i log t y → (s ≡ t) × (x ≡ y)
  one-in i log s t x y (NoLog n cause refused a b) (NoLog m other wrong c d) =
      let same = refused_once log n m cause other refused wrong in
      (a ∙ sym c, b ∙ ap (λ k. script_line k cause) same.0 ∙ ap (script_line m) same.1 ∙ sym d)
  one-in i log s t x y (NoLog n cause refused a b) (Played es says c d) = absurd (not_both log es n cause says refused)
  one-in i log s t x y (Played es says a b) (NoLog n cause refused c d) = absurd (not_both log es n cause says refused)
  one-in i log s t x y (Played es says a b) (Played fs said c d) = (a ∙ sym c, b ∙ ap (played i) (says_once log es fs says said) ∙ sym d)

  module _ (image_once : (text : Text) (i j : ImageOf Text) → IsImageOf Second prelude_text text i → IsImageOf Second prelude_text text j → i ≡ j)
      (never_both : (text : Text) (i : ImageOf Text) (r : ImageRefusal) → IsImageOf Second prelude_text text i → ¬ HasRefusal Second prelude_text text r)
      (refusal_once : (text : Text) (r q : ImageRefusal) → HasRefusal Second prelude_text text r → HasRefusal Second prelude_text text q → r ≡ q) where
    pub one : (image_line : ImageRefusal → Text) (text log : Text) (s t : Status) (x y : Text) →
        Plays image_line text log s x → Plays image_line text log t y → (s ≡ t) × (x ≡ y)
    one image_line text log s t x y (NoImage r refused a b) (NoImage q wrong c d) =
        (a ∙ sym c, b ∙ ap image_line (refusal_once text r q refused wrong) ∙ sym d)
    one image_line text log s t x y (NoImage r refused a b) (InImage j is c) = absurd (never_both text j r is refused)
    one image_line text log s t x y (InImage i is a) (NoImage q wrong c d) = absurd (never_both text i q is wrong)
    one image_line text log s t x y (InImage i is a) (InImage j are c) =
        one-in j log s t x y (subst (λ k. PlaysIn k log s x) (image_once text i j is are) a) c
