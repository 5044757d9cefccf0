-- What `demo` shows of its image and its script.
use Rattle.std.proofs.Common.{◌≡◌, ℕ, List, [], length, refl, ap, subst, ◌∙◌}
use Rattle.image_model.specs.Image.{ImageOf}
use Rattle.script_model.specs.Scripts.{Says}
use Rattle.apply_model.specs.declared.status.Status as applied
use Rattle.apply_model.specs.Applied.{AppliesIn}
use Rattle.applied_scripts.specs.declared.apply.Changed.TheVariants as changed
use Rattle.applied_scripts.specs.Changed.{IsChanged, is_done, is_told}
use Rattle.image_maker.specs.Generated.{script_text}
use Rattle.image_forms.specs.declared.status.Status.TheVariants as status
use Rattle.image_forms.specs.Answers.{status_applied, summary, ChangesIn, Unchanged, Changed}

-- nothing is told where all is done
pub nothing_told : (i later : ImageOf (List ℕ)) (script sent : List ℕ) (count : ℕ) → IsChanged i script later sent (changed.Done count) → sent ≡ []
nothing_told i later script sent count (is_done requests h says accepted after empty) = empty

-- the summary tells of the image before and of the one after
pub shown_after : (classes count : ℕ) (i later : ImageOf (List ℕ)) (script before sent : List ℕ) → script ≡ script_text classes → IsChanged i script later before (changed.Done count)
    → sent ≡ summary classes count i later → ChangesIn classes i status.Done sent
shown_after classes count i later script before sent same (is_done requests h says accepted after empty) shown =
    Changed requests h (subst (λ (t : List ℕ). Says t requests) same says) accepted refl (shown ∙ ap (λ (j : ImageOf (List ℕ)). summary classes (length requests) i j) after)

-- else it is answered as `apply` answers it
pub shown_as_told : (classes : ℕ) (i later : ImageOf (List ℕ)) (script sent : List ℕ) (v : applied.Status) → script ≡ script_text classes → IsChanged i script later sent (changed.Told v)
    → ChangesIn classes i (status_applied v) sent
shown_as_told classes i later script sent v same (is_told u unlike answer) = Unchanged u unlike (subst (λ (t : List ℕ). AppliesIn i t u sent) same answer) refl
