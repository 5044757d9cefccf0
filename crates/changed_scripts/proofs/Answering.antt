-- The answer of `changes` from what became of a script.
use Rattle.std.proofs.Common.{◌≡◌, ℕ, List, ◌++◌, refl, sym, ap, subst, ◌∙◌}
use Rattle.std.specs.Prelude.{◌≢◌}
use Rattle.image_model.specs.Image.{ImageOf}
use Rattle.apply_model.specs.declared.status.Status.{Status}
use Rattle.apply_model.specs.declared.status.Status.TheVariants as status
use Rattle.apply_model.specs.Applied.{AppliesIn, NoScript, Refused, Accepted}
use Rattle.applied_scripts.specs.declared.apply.Changed.TheVariants as changed
use Rattle.applied_scripts.specs.Changed.{IsChanged, is_done, is_told}
use Rattle.change_model.specs.Text.{change_text}
use Rattle.change_file.specs.Shown.{IsToldApart}
use Rattle.changes_model.specs.Changes.{ChangesIn, NoScript as not_said, Refused as is_refused, Accepted as is_accepted}
use Rattle.changed_scripts.specs.OneText.{StaysApart}

-- where a script was told
told : (i : ImageOf (List ℕ)) (script sent : List ℕ) (s : Status) → s ≢ status.Done → AppliesIn i script s sent → ChangesIn i script s sent
told i script sent s other (NoScript n cause refused a b) = not_said n cause refused a b
told i script sent s other (Refused rs r asks v a b) = is_refused rs r asks v a b
told i script sent s other (Accepted rs h asks v a b) = absurd (other a)

pub told_answer : (i later : ImageOf (List ℕ)) (script sent : List ℕ) (s : Status) → IsChanged i script later sent (changed.Told s) → ChangesIn i script s sent
told_answer i later script sent s (is_told v other answer) = told i script sent v other answer

-- where it was performed
pub done_apart : (i later : ImageOf (List ℕ)) (script before : List ℕ) (count : ℕ) → StaysApart i script → IsChanged i script later before (changed.Done count) → IsToldApart later
done_apart i later script before count stays (is_done requests h says accepted same empty) = subst IsToldApart (sym same) (stays requests h says accepted)

pub done_answer : (i later : ImageOf (List ℕ)) (script before sent : List ℕ) (count : ℕ) → IsChanged i script later before (changed.Done count) → sent ≡ before ++ change_text i later → ChangesIn i script status.Done sent
done_answer i later script before sent count (is_done requests h says accepted same empty) file =
    is_accepted requests h says accepted refl (file ∙ ap (λ (t : List ℕ). t ++ change_text i later) empty ∙ ap (change_text i) same)
