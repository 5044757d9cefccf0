-- The text of a change file is empty exactly if there are no edits.
use Rattle.std.proofs.Common.{◌≡◌, Bool, false, List, [], ◌∷◌, refl, ap, sym, ◌∙◌, arith}
use Rattle.std.specs.Prelude.{ℕ, flat_map, ◌==◌, length, if◌then◌else◌}
use Rattle.std.proofs.lemmas.Bool.{ne_eqb}
use Rattle.image_model.specs.Image.{ImageOf}
use Rattle.file_model.specs.Filing.{Text}
use Rattle.change_model.specs.Edits.{Edit, Settle, edits}
use Rattle.change_model.specs.Text.{edit_text, change_text}
use Rattle.change_file_laws.specs.Behind.{with_edits}

pub text_empty : (i j : ImageOf Text) → edits i j ≡ [] → change_text i j ≡ []
text_empty i j e = ap (λ (es : List Edit). if length es == 0 then [] else with_edits es) e

never : (b : ℕ) (s : Text) → b ∷ s ≡ [] → ⊥
never b s e = cc

pub empty_text : (i j : ImageOf Text) → change_text i j ≡ [] → edits i j ≡ []
empty_text i j e = by (edits i j) e
  where
    by : (es : List Edit) → (if length es == 0 then [] else with_edits es) ≡ [] → es ≡ []
    by [] q = refl
    by (x ∷ es) q =
        let some : (length (x ∷ es) == 0) ≡ false = ne_eqb (length (x ∷ es)) 0 (λ f. omega arith) in
        absurd (never 10 (33 ∷ 10 ∷ 10 ∷ flat_map edit_text (Settle ∷ x ∷ es)) (sym (ap (λ (b : Bool). if b then [] else with_edits (x ∷ es)) some) ∙ q))
