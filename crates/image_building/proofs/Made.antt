-- What holds of a draft after a change that is not refused.
use Rattle.std.proofs.Common.{◌≡◌, ℕ, false, is_some, Option, Some, None, Result, subst, true≢false}
use Rattle.std.specs.Prelude.{IfOk, IfSome, IfNone}
use Rattle.image_model.specs.Image.{ImageOf}
use Rattle.file_model.specs.Causes.{Cause}
use Rattle.file_model.specs.Changes.{RunOf}
use Rattle.file_faults.specs.declared.fault.ImageCause.{ImageCause}
use Rattle.image_draft.specs.Drafted.{Makes}

-- what holds of the image that a change makes
pub made_change : (P : ImageOf ℕ → Type 0) (cause : Option ImageCause) (r : Result (ImageOf ℕ) Cause) (i : ImageOf ℕ) → Makes cause r i → cause ≡ None → IfOk r P → P i
made_change P None r i made e h = subst (λ (o : Result (ImageOf ℕ) Cause). IfOk o P) made h
made_change P (Some k) r i made e h = absurd (cc)

-- what holds of the image that a method of a run makes
pub made_method : (P : ImageOf ℕ → Type 0) (run : Option (RunOf ℕ)) (q : RunOf ℕ) (cause : Option ImageCause) (f : RunOf ℕ → Result (ImageOf ℕ) Cause) (i : ImageOf ℕ)
    → IfSome run (λ r. Makes cause (f r) i) → run ≡ Some q → cause ≡ None → IfOk (f q) P → P i
made_method P run q cause f i made e none h = made_change P cause (f q) i (subst (λ (o : Option (RunOf ℕ)). IfSome o (λ r. Makes cause (f r) i)) e made) none h

-- what holds where there is no value
pub where_none : {X : Type 0} (o : Option X) (P : Type 0) → is_some o ≡ false → IfNone o P → P
where_none None P e p = p
where_none (Some x) P e p = absurd (true≢false e)
