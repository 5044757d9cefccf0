-- Texts with gaps, when a part is put before the others or taken out again.
use Rattle.std.proofs.Common.{◌≡◌, ap, ◌∙◌, refl, sym, ℕ, List, [], ◌∷◌, ◌++◌, append_assoc, append-nil}
use Rattle.std.specs.Prelude.{reverse}
use Rattle.st_formatter.specs.declared.backward.Part.{Part}
use Rattle.st_formatter.specs.Parts.{gap_text, parts_text}

-- one more part stands before the others
pub parts_text-last : (ps : List Part) (p : Part) → parts_text (ps ++ p ∷ []) ≡ gap_text p.gap ++ (reverse p.after.items ++ parts_text ps)
parts_text-last [] p = sym (ap (λ t. gap_text p.gap ++ t) (append-nil (reverse p.after.items)))
parts_text-last (q ∷ ps) p =
    ap (λ t. t ++ (gap_text q.gap ++ reverse q.after.items)) (parts_text-last ps p) ∙ simp append_assoc

-- the bytes before the first part are done, and its gap is taken out
pub parts-taken : (done more bytes text : List ℕ) (ps qs : List Part) (p : Part) → more ≡ done ++ reverse bytes → qs ≡ ps ++ p ∷ [] → reverse bytes ++ parts_text qs ≡ text →
    more ++ (gap_text p.gap ++ (reverse p.after.items ++ parts_text ps)) ≡ done ++ text
parts-taken done more bytes text ps qs p m q t =
    ap (λ s. s ++ (gap_text p.gap ++ (reverse p.after.items ++ parts_text ps))) m
    ∙ append_assoc done (reverse bytes) (gap_text p.gap ++ (reverse p.after.items ++ parts_text ps))
    ∙ ap (λ s. done ++ (reverse bytes ++ s)) (sym (parts_text-last ps p))
    ∙ ap (λ (rs : List Part). done ++ (reverse bytes ++ parts_text rs)) (sym q)
    ∙ ap (λ s. done ++ s) t
