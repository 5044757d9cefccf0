-- Pieces one after the other.
use Rattle.std.proofs.Common.{◌≡◌, ℕ, zero, suc, ◌+◌, List, ◌++◌, ap, ◌∙◌, append_assoc, append-nil, add-one, sym}
use Rattle.image_maker.specs.Generated.{pieces}

-- two texts, one behind the other
pub two_behind : (a b c x y : List ℕ) → b ≡ a ++ x → c ≡ b ++ y → c ≡ a ++ (x ++ y)
two_behind a b c x y p q = q ∙ ap (λ t. t ++ y) p ∙ append_assoc a x y

-- three texts
pub three_behind : (a b c d x y z : List ℕ) → b ≡ a ++ x → c ≡ b ++ y → d ≡ c ++ z → d ≡ a ++ ((x ++ y) ++ z)
three_behind a b c d x y z p q r = two_behind a c d (x ++ y) z (two_behind a b c x y p q) r

-- four texts
pub four_behind : (a b c d e x y z w : List ℕ) → b ≡ a ++ x → c ≡ b ++ y → d ≡ c ++ z → e ≡ d ++ w → e ≡ a ++ (((x ++ y) ++ z) ++ w)
four_behind a b c d e x y z w p q r s = two_behind a d e ((x ++ y) ++ z) w (three_behind a b c d x y z p q r) s

-- five texts
pub five_behind : (a b c d e f x y z w v : List ℕ) → b ≡ a ++ x → c ≡ b ++ y → d ≡ c ++ z → e ≡ d ++ w → f ≡ e ++ v → f ≡ a ++ ((((x ++ y) ++ z) ++ w) ++ v)
five_behind a b c d e f x y z w v p q r s t = two_behind a e f (((x ++ y) ++ z) ++ w) v (four_behind a b c d e x y z w p q r s) t

-- no piece
pub none_behind : (piece : ℕ → List ℕ) (a : List ℕ) → a ≡ a ++ pieces piece zero
none_behind piece a = sym (append-nil a)

-- one more piece
pub one_more : (piece : ℕ → List ℕ) (n : ℕ) (a b c : List ℕ) → b ≡ a ++ pieces piece n → c ≡ b ++ piece (n + 1) → c ≡ a ++ pieces piece (n + 1)
one_more piece n a b c p q =
    let both : c ≡ a ++ pieces piece (suc n) = two_behind a b c (pieces piece n) (piece (n + 1)) p q in
    rw add-one both
