-- Numbers that go on by a digit.
use Rattle.std.proofs.Common.{◌≡◌, ℕ, ◌+◌, ◌*◌, ◌/◌, ◌%◌, ◌<◌, ◌≤◌, [], ◌∷◌, ◌++◌, length, sym, ap, subst, ◌∙◌, arith}
use Rattle.std.specs.Fmt.{decimal}
use Rattle.std.proofs.lemmas.List.{append_assoc}
use Rattle.std.proofs.lemmas.Fmt.{decimal_digit, decimal_step}
use Rattle.certified_model.specs.Marks.{Text}

pub one_digit : (t r : Text) (d : ℕ) → d ≤ 9 → t ≡ (48 + d) ∷ r → t ≡ decimal d ++ r
one_digit t r d h e = e ∙ ap (λ (s : Text). s ++ r) (sym (decimal_digit d (omega (arith, h))))

digit_behind : (n d : ℕ) → 1 ≤ n → n < 100000000 → d ≤ 9 → decimal (n * 10 + d) ≡ decimal n ++ (48 + d) ∷ []
digit_behind n d h k l =
    let front : (n * 10 + d) / 10 ≡ n = omega (arith, l) in
    let end : (n * 10 + d) % 10 ≡ d = omega (arith, l) in
    decimal_step (n * 10 + d) (omega (arith, h)) (omega (arith, k, l)) ∙ (λ i. decimal (front i) ++ (48 + end i) ∷ [])

pub one_more : (t r o : Text) (n d : ℕ) → 1 ≤ n → n < 100000000 → d ≤ 9 → t ≡ decimal n ++ r → r ≡ (48 + d) ∷ o → t ≡ decimal (n * 10 + d) ++ o
one_more t r o n d h k l e f =
    e ∙ ap (λ (s : Text). decimal n ++ s) f ∙ sym (append_assoc (decimal n) ((48 + d) ∷ []) o) ∙ ap (λ (s : Text). s ++ o) (sym (digit_behind n d h k l))

pub ten : (t r o : Text) (d : ℕ) → d ≡ 1 → t ≡ (48 + d) ∷ r → r ≡ 48 ∷ o → t ≡ decimal 10 ++ o
ten t r o d h e f =
    let one : t ≡ 49 ∷ r = e ∙ ap (λ (b : ℕ). (48 + b) ∷ r) h in
    one_more t r o 1 0 (omega arith) (omega arith) (omega arith) (one_digit t r 1 (omega arith) one) f

pub shorter : (r o : Text) (b : ℕ) → r ≡ b ∷ o → length o < length r
shorter r o b e = let one : length o < length (b ∷ o) = omega arith in subst (λ (s : Text). length o < length s) (sym e) one
