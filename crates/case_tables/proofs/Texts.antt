-- Texts that are read one after the other.
use Rattle.std.proofs.Common.{◌≡◌, ℕ, List, [], ◌∷◌, ◌++◌, sym, ap, ◌∙◌, append_assoc}
use Rattle.std.specs.Prelude.{flat_map}
use Rattle.std.proofs.lemmas.List.{flat_map_more}

-- one text, and then another one
pub joined : (old xs rest ys new : List ℕ) → old ≡ xs ++ rest → rest ≡ ys ++ new → old ≡ (xs ++ ys) ++ new
joined old xs rest ys new e f = e ∙ ap (λ l. xs ++ l) f ∙ sym (append_assoc xs ys new)

-- the same where a byte stands between them
pub joined_by : (b : ℕ) (old xs rest ys new : List ℕ) → old ≡ xs ++ b ∷ rest → rest ≡ ys ++ new → old ≡ (xs ++ b ∷ ys) ++ new
joined_by b old xs rest ys new e f = joined old xs (b ∷ rest) (b ∷ ys) new e (ap (λ l. b ∷ l) f)

-- one more text of a list
pub text_more : {X : Type 0} (text : X → List ℕ) (xs : List X) (x : X) (old rest new : List ℕ) → old ≡ flat_map text xs ++ rest → rest ≡ text x ++ new → old ≡ flat_map text (xs ++ x ∷ []) ++ new
text_more text xs x old rest new e f = joined old (flat_map text xs) rest (text x) new e f ∙ ap (λ l. l ++ new) (flat_map_more text [] xs x)
