-- The lines of a text, of a chunk that is not imported and of an expression that are refused.
use Rattle.std.proofs.Common.{◌≡◌, ℕ, List, Option, None, Some, option_map, Err, ap, ◌∙◌}
use Rattle.std.specs.Prelude.{MatchOption}
use Rattle.token_model.specs.declared.kind.Dialect.TheVariants.{Second}
use Rattle.grammar_model.specs.Whole.{DoIt}
use Rattle.grammar_model.specs.Checks.{Fault}
use Rattle.grammar_model.specs.Spelling.{HasFirstFault}
use Rattle.st_faults.specs.declared.fault.ParseFault.{ParseFault}
use Rattle.st_faults.specs.Faults as faults
use Rattle.st_kernel.specs.KernelText.{prelude_text}
use Rattle.file_model.specs.Causes.{Cause, Refusal}
use Rattle.rewrite_model.specs.Saying as saying
use Rattle.pattern_faults.specs.declared.fault.PatternFault.{PatternFault}
use Rattle.pattern_faults.specs.Told as told
use Rattle.file_model.specs.Reading.{HasRefusal}
use Rattle.import_model.specs.Imported.{IsImported}
use Rattle.import_chunks.specs.Told as imported
use Rattle.file_faults.specs.declared.fault.ImageCause.{ImageCause}
use Rattle.file_faults.specs.declared.fault.ImageFault.TheVariants as fault
use Rattle.file_faults.specs.Faults.{cause_of, IsRefused, Told}
use Rattle.image_forms.specs.ImageLines.{image_refusal, import_refusal, expression_refusal, text_refusal}

-- a refusal of these parts
abbrev refusal_at : ℕ → ℕ → Cause → Refusal
refusal_at chunk at c = record { chunk = chunk; at = at; cause = c }

-- the line of a fault is that of the refusal that it tells
told-by : (chunk at : ℕ) (o : Option Cause) (r : Refusal) (P : Refusal → Type 0) (line : Refusal → List ℕ) (sent : List ℕ) → option_map (refusal_at chunk at) o ≡ Some r → P r
    → MatchOption o ⊥ (λ c. sent ≡ line (refusal_at chunk at c)) → (r : Refusal) × P r × (sent ≡ line r)
told-by chunk at None r P line sent q h n = absurd n
told-by chunk at (Some c) r P line sent q h n = let same : refusal_at chunk at c ≡ r = cc in (r, h, n ∙ ap line same)

-- the line is that of the refusal of the text
pub refusal_told : (text : List ℕ) (chunk at : ℕ) (cause : ImageCause) (sent : List ℕ) → IsRefused prelude_text text (fault.Refused chunk at cause)
    → MatchOption (cause_of cause) ⊥ (λ c. sent ≡ image_refusal (refusal_at chunk at c)) → (r : Refusal) × HasRefusal Second prelude_text text r × (sent ≡ image_refusal r)
refusal_told text chunk at cause sent (Told {refusal = r} e h) line = told-by chunk at (cause_of cause) r (HasRefusal Second prelude_text text) image_refusal sent e h line

-- the line is that of the first chunk of the text that is not imported
pub import_told : (text : List ℕ) (chunk at : ℕ) (cause : ImageCause) (sent : List ℕ) → imported.Tells (λ r. IsImported text (Err r)) (fault.Refused chunk at cause)
    → MatchOption (cause_of cause) ⊥ (λ c. sent ≡ import_refusal chunk c) → (r : Refusal) × IsImported text (Err r) × (sent ≡ import_refusal r.chunk r.cause)
import_told text chunk at cause sent (imported.Told {refusal = r} e h) line = told-by chunk at (cause_of cause) r (λ q. IsImported text (Err q)) (λ q. import_refusal q.chunk q.cause) sent e h line

-- the line is that of the first fault of the expression
pub fault_told : (expression : List ℕ) (answer : ParseFault) (sent : List ℕ) → faults.IsRefused DoIt expression answer
    → MatchOption (faults.fault_of answer) ⊥ (λ f. sent ≡ expression_refusal f) → (f : Fault) × HasFirstFault Second DoIt expression f × (sent ≡ expression_refusal f)
fault_told expression answer sent refused line = by (faults.fault_of answer) refused line
  where
    by : (o : Option Fault) → MatchOption o (Unit {0}) (HasFirstFault Second DoIt expression) → MatchOption o ⊥ (λ f. sent ≡ expression_refusal f) → (f : Fault) × HasFirstFault Second DoIt expression f × (sent ≡ expression_refusal f)
    by None h n = absurd n
    by (Some f) h n = (f, h, n)

-- the line of a text that is refused is that of the cause that is told
pub cause_told : (what : List ℕ) (answer : PatternFault) (sent : List ℕ) (P : saying.Cause → Type 0) → MatchOption (told.cause_of answer) (Unit {0}) P
    → MatchOption (told.cause_of answer) ⊥ (λ c. sent ≡ text_refusal what c) → (c : saying.Cause) × P c × (sent ≡ text_refusal what c)
cause_told what answer sent P refused line = by (told.cause_of answer) refused line
  where
    by : (o : Option saying.Cause) → MatchOption o (Unit {0}) P → MatchOption o ⊥ (λ c. sent ≡ text_refusal what c) → (c : saying.Cause) × P c × (sent ≡ text_refusal what c)
    by None h n = absurd n
    by (Some c) h n = (c, h, n)
