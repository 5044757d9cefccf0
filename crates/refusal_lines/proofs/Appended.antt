-- Pieces that are appended one by one.
use Rattle.std.proofs.Common.{◌≡◌, ◌∙◌, ap, ℕ, List, ◌++◌, append_assoc}

-- one more piece behind others
pub also_appended : (old new newer pieces piece : List ℕ) → new ≡ old ++ pieces → newer ≡ new ++ piece → newer ≡ old ++ (pieces ++ piece)
also_appended old new newer pieces piece so_far more = more ∙ ap (λ n. n ++ piece) so_far ∙ append_assoc old pieces piece
