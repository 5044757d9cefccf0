-- Numbers up to the greatest of 64 bits.
use Rattle.std.proofs.Common.{◌≡◌, ◌⊎◌, inl, inr, ℕ, zero, suc, ◌+◌, ◌-◌, ◌*◌, ◌^◌, ◌<◌, ◌≤◌, ◌||◌, min, Bool, true, false, cond, List, [], ◌∷◌, length, take, drop, get_or, nat_lt, pos, negsuc, neg_ℤ, Some, None, refl, sym, ap, ◌∙◌, add-one, drop-cons, arith}
use Rattle.std.specs.Prelude.{not, if◌then◌else◌}
use Rattle.std.specs.List.{list_any, position_or_len, before_first}
use Rattle.std.specs.Char.{digit_value}
use Rattle.std.specs.Str.Parse.{digits_value, digits_value_after}
use Rattle.std.proofs.Math.Nat.{mul-suc, suc-mul}
use Rattle.std.proofs.lemmas.Bool.{ltb-true, ltb-false, le-ltb}
use Rattle.std.proofs.lemmas.List.{drop_all, length-drop}
use Rattle.std.proofs.Math.Seq.{take-length}
use Rattle.std.proofs.lemmas.List.Folds.{length-prefix_len}
use Rattle.run_model.specs.Numbers.{is_radix_mark, unsigned_value, fitting}

abbrev cap : ℕ
cap = 18446744073709551615

-- two numbers that are one up to the greatest are one, or both are as great
split : (m n : ℕ) → min m cap ≡ min n cap → (m ≡ n) ⊎ ((cap ≤ m) × (cap ≤ n))
split m n e = by (nat_lt m cap) refl
  where
    by : (b : Bool) → nat_lt m cap ≡ b → (m ≡ n) ⊎ ((cap ≤ m) × (cap ≤ n))
    by true l = let less : m < cap = ltb-true m cap l in inl (omega (arith, less, e))
    by false l = let more : cap ≤ m = ltb-false m cap l in inr (more, omega (arith, more, e))

grows_right : (m k : ℕ) → cap ≤ m → cap ≤ m * suc k
grows_right m k l = let e = mul-suc m k in omega (arith, e, l)

grows_left : (b k : ℕ) → cap ≤ b → cap ≤ suc k * b
grows_left b k l = let e = suc-mul k b in omega (arith, e, l)

both : (x y d : ℕ) → cap ≤ x → cap ≤ y → min (x + d) cap ≡ min (y + d) cap
both x y d l h = omega arith

-- a step of digits keeps numbers one up to the greatest
pub step : (b c m n d : ℕ) → min b cap ≡ min c cap → min m cap ≡ min n cap → min (m * b + d) cap ≡ min (n * c + d) cap
step b c m n d e h = by (split b c e) (split m n h)
  where
    great_base : (k x y : ℕ) → cap ≤ x → cap ≤ y → min (k * x + d) cap ≡ min (k * y + d) cap
    great_base zero x y l r = let p : 0 * x ≡ 0 = omega arith in let q : 0 * y ≡ 0 = omega arith in ap (λ z. min (z + d) cap) (p ∙ sym q)
    great_base (suc k) x y l r = both (suc k * x) (suc k * y) d (grows_left x k l) (grows_left y k r)

    great_number : (k x y : ℕ) → cap ≤ x → cap ≤ y → min (x * k + d) cap ≡ min (y * k + d) cap
    great_number zero x y l r = let p : x * 0 ≡ 0 = omega arith in let q : y * 0 ≡ 0 = omega arith in ap (λ z. min (z + d) cap) (p ∙ sym q)
    great_number (suc k) x y l r = both (x * suc k) (y * suc k) d (grows_right x k l) (grows_right y k r)

    great : (x y u v : ℕ) → cap ≤ x → cap ≤ y → cap ≤ u → cap ≤ v → min (u * x + d) cap ≡ min (v * y + d) cap
    great zero y u v l r p q = absurd (omega arith)
    great (suc x) zero u v l r p q = absurd (omega arith)
    great (suc x) (suc y) u v l r p q = both (u * suc x) (v * suc y) d (grows_right u x p) (grows_right v y q)

    by : (b ≡ c) ⊎ ((cap ≤ b) × (cap ≤ c)) → (m ≡ n) ⊎ ((cap ≤ m) × (cap ≤ n)) → min (m * b + d) cap ≡ min (n * c + d) cap
    by (inl p) (inl q) = λ i. min (q i * p i + d) cap
    by (inl p) (inr q) = great_number b m n q.0 q.1 ∙ ap (λ z. min (n * z + d) cap) p
    by (inr p) (inl q) = great_base m b c p.0 p.1 ∙ ap (λ z. min (z * c + d) cap) q
    by (inr p) (inr q) = great b c m n p.0 p.1 q.0 q.1

-- digits in bases, behind numbers, that are one up to the greatest
pub same_digits : (b c m n : ℕ) (ds : List ℕ) → min b cap ≡ min c cap → min m cap ≡ min n cap → min (digits_value_after b m ds) cap ≡ min (digits_value_after c n ds) cap
same_digits b c m n [] e h = h
same_digits b c m n (d ∷ ds) e h = same_digits b c (m * b + digit_value d) (n * c + digit_value d) ds e (step b c m n (digit_value d) e h)

-- one digit more
pub capped_step : (b m v w i : ℕ) (xs : List ℕ) → i < length xs → w ≡ min (min (m * b) cap + digit_value (get_or xs i 0)) cap → min (digits_value_after b m (drop i xs)) cap ≡ v → min (digits_value_after b w (drop (i + 1) xs)) cap ≡ v
capped_step b m v w i xs l q h =
    same_digits b b w (m * b + digit_value (get_or xs i 0)) (drop (i + 1) xs) refl (ap (λ z. min z cap) q ∙ capped (m * b) (digit_value (get_or xs i 0)))
    ∙ sym (ap (λ z. min (digits_value_after b m z) cap) e) ∙ h
  where
    capped : (p d : ℕ) → min (min (min p cap + d) cap) cap ≡ min (p + d) cap
    capped p d = omega arith

    e : drop i xs ≡ get_or xs i 0 ∷ drop (i + 1) xs
    e = rw (add-one, drop-cons xs i 0) refl

-- no digit is left
pub capped_end : (b m v i : ℕ) (xs : List ℕ) → length xs ≤ i → min (digits_value_after b m (drop i xs)) cap ≡ v → m ≤ cap → m ≡ v
capped_end b m v i xs e h l = let q : min m cap ≡ v = ap (λ z. min (digits_value_after b m z) cap) (sym (drop_all i xs e)) ∙ h in omega (arith, q, l)

-- the first place of what stands somewhere is inside
pub place_inside : (p : ℕ → Bool) (xs : List ℕ) → list_any p xs ≡ true → position_or_len p xs < length xs
place_inside p [] e = absurd (cc)
place_inside p (x ∷ xs) e = by (p x) e (place_inside p xs)
  where
    by : (b : Bool) → (b || list_any p xs) ≡ true → (list_any p xs ≡ true → position_or_len p xs < length xs) → cond (not b) (1 + position_or_len p xs) 0 < suc (length xs)
    by true q h = omega arith
    by false q h = let l : position_or_len p xs < length xs = h q in omega (arith, l)

-- digits behind a base
pub with_radix : (t : List ℕ) (k b n : ℕ) → list_any is_radix_mark t ≡ true → k ≡ position_or_len is_radix_mark t → b ≡ min (digits_value 10 (take k t)) cap → n ≡ min (digits_value b (take (length t - (k + 1)) (drop (k + 1) t))) cap
    → n ≡ min (unsigned_value t) cap
with_radix t k b n a h e q =
    q ∙ ap (λ xs. min (digits_value b xs) cap) (rest (k + 1))
    ∙ same_digits b (digits_value 10 (take k t)) 0 0 (drop (k + 1) t) (ap (λ z. min z cap) e ∙ again (digits_value 10 (take k t))) refl
    ∙ (λ i. min (digits_value (digits_value 10 (take (h i) t)) (drop (h i + 1) t)) cap)
    ∙ ap (λ j. min (digits_value (digits_value 10 (before_first is_radix_mark t)) (drop j t)) cap) behind
    ∙ ap (λ c. min (if c then digits_value (digits_value 10 (before_first is_radix_mark t)) (drop (suc (length (before_first is_radix_mark t))) t) else digits_value 10 t) cap) (sym a)
  where
    again : (n : ℕ) → min (min n cap) cap ≡ min n cap
    again n = omega arith

    rest : (j : ℕ) → take (length t - j) (drop j t) ≡ drop j t
    rest j = (λ i. take (sym (length-drop j t) i) (drop j t)) ∙ take-length (drop j t)

    behind : position_or_len is_radix_mark t + 1 ≡ suc (length (before_first is_radix_mark t))
    behind = omega (arith, length-prefix_len (λ x. not (is_radix_mark x)) t)

-- digits in base 10
pub plain : (t : List ℕ) (n : ℕ) → list_any is_radix_mark t ≡ false → n ≡ min (digits_value 10 t) cap → n ≡ min (unsigned_value t) cap
plain t n a q = q ∙ ap (λ c. min (if c then digits_value (digits_value 10 (before_first is_radix_mark t)) (drop (suc (length (before_first is_radix_mark t))) t) else digits_value 10 t) cap) (sym a)

-- a number up to the greatest of 64 bits fits where the number itself does
pub capped_positive : (n m : ℕ) → m ≡ min n cap → fitting (pos m) ≡ fitting (pos n)
capped_positive n m e = by (nat_lt n cap) refl
  where
    by : (b : Bool) → nat_lt n cap ≡ b → fitting (pos m) ≡ fitting (pos n)
    by true l = let less : n < cap = ltb-true n cap l in let q : m ≡ n = omega (arith, less, e) in ap (λ k. fitting (pos k)) q
    by false l =
        let more : cap ≤ n = ltb-false n cap l in
        let p : nat_lt m (2 ^ 63) ≡ false = le-ltb m (2 ^ 63) (omega (arith, more, e)) in
        let q : nat_lt n (2 ^ 63) ≡ false = le-ltb n (2 ^ 63) (omega (arith, more)) in
        ap (λ c. if c then Some (pos m) else None) p ∙ sym (ap (λ c. if c then Some (pos n) else None) q)

-- the same of its negative
pub capped_negative : (n m : ℕ) → m ≡ min n cap → fitting (neg_ℤ (pos m)) ≡ fitting (neg_ℤ (pos n))
capped_negative zero m e = let q : m ≡ 0 = omega (arith, e) in ap (λ k. fitting (neg_ℤ (pos k))) q
capped_negative (suc n) zero e = absurd (omega (arith, e))
capped_negative (suc n) (suc m) e = by (nat_lt (suc n) cap) refl
  where
    by : (b : Bool) → nat_lt (suc n) cap ≡ b → fitting (negsuc m) ≡ fitting (negsuc n)
    by true l = let less : suc n < cap = ltb-true (suc n) cap l in let q : m ≡ n = omega (arith, less, e) in ap (λ k. fitting (negsuc k)) q
    by false l =
        let more : cap ≤ suc n = ltb-false (suc n) cap l in
        let p : nat_lt m (2 ^ 63) ≡ false = le-ltb m (2 ^ 63) (omega (arith, more, e)) in
        let q : nat_lt n (2 ^ 63) ≡ false = le-ltb n (2 ^ 63) (omega (arith, more)) in
        ap (λ c. if c then Some (negsuc m) else None) p ∙ sym (ap (λ c. if c then Some (negsuc n) else None) q)
