-- Texts that are written piece by piece.
use Rattle.std.proofs.Common.{◌≡◌, ℕ, List, [], ◌∷◌, ◌++◌, refl, sym, ap, ◌∙◌, append_assoc}

-- two pieces, one after the other
pub joined2 : (o p r a b : List ℕ) → p ≡ o ++ a → r ≡ p ++ b → r ≡ o ++ (a ++ b)
joined2 o p r a b e f = f ∙ ap (λ x. x ++ b) e ∙ append_assoc o a b

-- three pieces, one after the other
pub joined3 : (o p q r a b d : List ℕ) → p ≡ o ++ a → q ≡ p ++ b → r ≡ q ++ d → r ≡ o ++ (a ++ b ++ d)
joined3 o p q r a b d e f g =
    g ∙ ap (λ x. x ++ d) (f ∙ ap (λ x. x ++ b) e) ∙ simp append_assoc

-- four pieces, two and two
pub joined4 : (o p q r s a b d e : List ℕ) → p ≡ o ++ a → q ≡ p ++ b → r ≡ q ++ d → s ≡ r ++ e → s ≡ o ++ (a ++ b ++ (d ++ e))
joined4 o p q r s a b d e f g h i =
    i ∙ ap (λ x. x ++ e) (h ∙ ap (λ x. x ++ d) (g ∙ ap (λ x. x ++ b) f)) ∙ simp append_assoc

-- a piece, and then twice two pieces, in an empty text
pub joined_pairs : (o p q r a b d e f : List ℕ) → o ≡ [] → p ≡ o ++ a → q ≡ p ++ (b ++ d) → r ≡ q ++ (e ++ f) → r ≡ a ++ b ++ d ++ e ++ f
joined_pairs o p q r a b d e f t u v w =
    w ∙ ap (λ x. x ++ (e ++ f)) (v ∙ ap (λ x. x ++ (b ++ d)) (u ∙ ap (λ x. x ++ a) t)) ∙ simp append_assoc

-- what is left of a text once two pieces of it are written
pub left2 : (o p q a b rest whole : List ℕ) → o ++ (a ++ b ++ rest) ≡ whole → p ≡ o ++ a → q ≡ p ++ b → q ++ rest ≡ whole
left2 o p q a b rest whole h e f = ap (λ x. x ++ rest) (f ∙ ap (λ x. x ++ b) e) ∙ (let k : o ++ a ++ b ++ rest ≡ o ++ (a ++ b ++ rest) = simp append_assoc in k) ∙ h

-- four pieces, one after the other
pub joined4_in_line : (o p q r s a b d e : List ℕ) → p ≡ o ++ a → q ≡ p ++ b → r ≡ q ++ d → s ≡ r ++ e → s ≡ o ++ (a ++ b ++ d ++ e)
joined4_in_line o p q r s a b d e f g h i =
    i ∙ ap (λ x. x ++ e) (h ∙ ap (λ x. x ++ d) (g ∙ ap (λ x. x ++ b) f)) ∙ simp append_assoc
