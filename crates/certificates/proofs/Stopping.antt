-- How far parts of a certificate are read.
use Rattle.std.proofs.Common.{◌≡◌, ℕ, zero, suc, ◌+◌, ◌*◌, ◌-◌, ◌<◌, ◌≤◌, Bool, true, false, [], ◌∷◌, ◌++◌, length, refl, sym, ap, ◌∙◌, arith, Option, Some, None}
use Rattle.std.specs.Prelude.{◌≢◌, nat_eq, nat_le, if◌then◌else◌, codes}
use Rattle.std.specs.Option.{option_map_or}
use Rattle.std.specs.Char.{is_ascii_digit}
use Rattle.std.proofs.lemmas.Bool.{and_parts, leb-true, eqb-true, eq-eqb, lt-ltb, le-ltb, false≢true}
use Rattle.certified_model.specs.Marks.{Text}
use Rattle.certificates.specs.Stops.{Sort, plus, minus, comma, period, at_sign, digit, no_part, sort_of, Next, a_sign, a_law, behind_one, an_at_sign, a_path, a_number, in_number, behind_number, behind_path, one_digit_more, second_digit, behind, may_end, left_from, begins_with, begins_with_digit}

-- what is known of a byte by its sort
abbrev pub IsSort : ℕ → Sort → Type 0
IsSort b plus = b ≡ 43
IsSort b minus = b ≡ 45
IsSort b comma = b ≡ 44
IsSort b period = b ≡ 46
IsSort b at_sign = b ≡ 64
IsSort b (digit d) = (is_ascii_digit b ≡ true) × (b ≡ 48 + d) × (d ≤ 9)
IsSort b no_part = is_ascii_digit b ≡ false

pub sorted : (b : ℕ) → IsSort b (sort_of b)
sorted b = first (nat_eq b 43) refl
  where
    sixth : (x : Bool) → is_ascii_digit b ≡ x → IsSort b (if x then digit (b - 48) else no_part)
    sixth true e = let parts = and_parts (nat_le 48 b) (nat_le b 57) e in let low = leb-true 48 b parts.0 in let high = leb-true b 57 parts.1 in (e, omega (arith, low), omega (arith, high))
    sixth false e = e

    fifth : (x : Bool) → nat_eq b 64 ≡ x → IsSort b (if x then at_sign else if is_ascii_digit b then digit (b - 48) else no_part)
    fifth true e = eqb-true b 64 e
    fifth false e = sixth (is_ascii_digit b) refl

    fourth : (x : Bool) → nat_eq b 46 ≡ x → IsSort b (if x then period else if nat_eq b 64 then at_sign else if is_ascii_digit b then digit (b - 48) else no_part)
    fourth true e = eqb-true b 46 e
    fourth false e = fifth (nat_eq b 64) refl

    third : (x : Bool) → nat_eq b 44 ≡ x → IsSort b (if x then comma else if nat_eq b 46 then period else if nat_eq b 64 then at_sign else if is_ascii_digit b then digit (b - 48) else no_part)
    third true e = eqb-true b 44 e
    third false e = fourth (nat_eq b 46) refl

    second : (x : Bool) → nat_eq b 45 ≡ x → IsSort b (if x then minus else if nat_eq b 44 then comma else if nat_eq b 46 then period else if nat_eq b 64 then at_sign else if is_ascii_digit b then digit (b - 48) else no_part)
    second true e = eqb-true b 45 e
    second false e = third (nat_eq b 44) refl

    first : (x : Bool) → nat_eq b 43 ≡ x → IsSort b (if x then plus else if nat_eq b 45 then minus else if nat_eq b 44 then comma else if nat_eq b 46 then period else if nat_eq b 64 then at_sign else if is_ascii_digit b then digit (b - 48) else no_part)
    first true e = eqb-true b 43 e
    first false e = second (nat_eq b 45) refl

-- a digit by its value
pub digit_sort : (d : ℕ) → d ≤ 9 → sort_of (48 + d) ≡ digit d
digit_sort zero h = refl
digit_sort (suc zero) h = refl
digit_sort (suc (suc zero)) h = refl
digit_sort (suc (suc (suc zero))) h = refl
digit_sort (suc (suc (suc (suc zero)))) h = refl
digit_sort (suc (suc (suc (suc (suc zero))))) h = refl
digit_sort (suc (suc (suc (suc (suc (suc zero)))))) h = refl
digit_sort (suc (suc (suc (suc (suc (suc (suc zero))))))) h = refl
digit_sort (suc (suc (suc (suc (suc (suc (suc (suc zero)))))))) h = refl
digit_sort (suc (suc (suc (suc (suc (suc (suc (suc (suc zero))))))))) h = refl
digit_sort (suc (suc (suc (suc (suc (suc (suc (suc (suc (suc d)))))))))) h = absurd (omega (arith, h))

-- a byte that goes on, and one that does not
pub goes : (p q : Next) (b : ℕ) (t : Text) (x : Sort) → sort_of b ≡ x → behind p x ≡ Some q → left_from p (b ∷ t) ≡ left_from q t
unfolding left_from
goes p q b t x e f =
    ap (λ (y : Sort). option_map_or (λ q. left_from q t) (behind p y) (Some (length (b ∷ t)))) e
    ∙ ap (λ (o : Option Next). option_map_or (λ q. left_from q t) o (Some (length (b ∷ t)))) f

pub stops : (p : Next) (b : ℕ) (t : Text) (x : Sort) → sort_of b ≡ x → behind p x ≡ None → left_from p (b ∷ t) ≡ Some (length (b ∷ t))
unfolding left_from
stops p b t x e f =
    ap (λ (y : Sort). option_map_or (λ q. left_from q t) (behind p y) (Some (length (b ∷ t)))) e
    ∙ ap (λ (o : Option Next). option_map_or (λ q. left_from q t) o (Some (length (b ∷ t)))) f

pub goes_at : (p q : Next) (s t : Text) (b : ℕ) (x : Sort) → s ≡ b ∷ t → sort_of b ≡ x → behind p x ≡ Some q → left_from p s ≡ left_from q t
goes_at p q s t b x g e f = ap (left_from p) g ∙ goes p q b t x e f

-- nothing left
pub ended_at : (p : Next) → left_from p [] ≡ (if may_end p then None else Some 0)
unfolding left_from
ended_at p = refl

-- two that go on alike with what a text begins with
pub alike : (p q : Next) (t : Text) → may_end p ≡ may_end q → ((b : ℕ) (r : Text) → t ≡ b ∷ r → behind p (sort_of b) ≡ behind q (sort_of b)) → left_from p t ≡ left_from q t
unfolding left_from
alike p q [] m h = ap (λ (x : Bool). if x then None else Some 0) m
alike p q (b ∷ t) m h = ap (λ (o : Option Next). option_map_or (λ q. left_from q t) o (Some (length (b ∷ t)))) (h b t refl)

-- a text that a place stops at: what is known of its first byte excludes what goes on
pub stops_at : (p : Next) (t : Text) → may_end p ≡ false → ((b : ℕ) (r : Text) → t ≡ b ∷ r → behind p (sort_of b) ≡ None) → left_from p t ≡ Some (length t)
stops_at p [] m h = ended_at p ∙ ap (λ (x : Bool). if x then None else Some 0) m
stops_at p (b ∷ t) m h = stops p b t (sort_of b) refl (h b t refl)

no_byte : (a b : ℕ) (t r : Text) → begins_with a t ≡ false → t ≡ b ∷ r → b ≢ a
no_byte a b t r h e q = false≢true (sym h ∙ ap (begins_with a) e ∙ eq-eqb b a q)

no_digit : (b : ℕ) (t r : Text) → begins_with_digit t ≡ false → t ≡ b ∷ r → is_ascii_digit b ≡ true → ⊥
no_digit b t r h e q = false≢true (sym h ∙ ap begins_with_digit e ∙ q)

-- signs
pub behind_sign : (t r : Text) (f : Bool) → t ≡ (if f then codes "+" else codes "-") ++ r → left_from a_sign t ≡ left_from a_law r
behind_sign t r true e = goes_at a_sign a_law t r 43 plus e refl refl
behind_sign t r false e = goes_at a_sign a_law t r 45 minus e refl refl

pub no_sign : (t : Text) → begins_with 43 t ≡ false → begins_with 45 t ≡ false → left_from a_sign t ≡ Some (length t)
no_sign t h k = stops_at a_sign t refl (λ b r e. by b r e (sort_of b) (sorted b))
  where
    by : (b : ℕ) (r : Text) → t ≡ b ∷ r → (x : Sort) → IsSort b x → behind a_sign x ≡ None
    by b r e plus q = absurd (no_byte 43 b t r h e q)
    by b r e minus q = absurd (no_byte 45 b t r k e q)
    by b r e comma q = refl
    by b r e period q = refl
    by b r e at_sign q = refl
    by b r e (digit d) q = refl
    by b r e no_part q = refl

-- the number of a law
pub no_law : (t : Text) → begins_with_digit t ≡ false → left_from a_law t ≡ Some (length t)
no_law t h = stops_at a_law t refl (λ b r e. by b r e (sort_of b) (sorted b))
  where
    by : (b : ℕ) (r : Text) → t ≡ b ∷ r → (x : Sort) → IsSort b x → behind a_law x ≡ None
    by b r e plus q = refl
    by b r e minus q = refl
    by b r e comma q = refl
    by b r e period q = refl
    by b r e at_sign q = refl
    by b r e (digit d) q = absurd (no_digit b t r h e q.0)
    by b r e no_part q = refl

pub law_zero : (t r : Text) (d : ℕ) → d ≡ 0 → t ≡ (48 + d) ∷ r → left_from a_law t ≡ Some (length t)
law_zero t r d z e =
    let f : t ≡ 48 ∷ r = e ∙ ap (λ (n : ℕ). (48 + n) ∷ r) z in
    ap (left_from a_law) f ∙ stops a_law 48 r (digit 0) refl refl ∙ ap (λ (s : Text). Some (length s)) (sym f)

pub law_ten : (t r o : Text) (d : ℕ) → d ≡ 1 → t ≡ (48 + d) ∷ r → r ≡ 48 ∷ o → left_from a_law t ≡ left_from an_at_sign o
law_ten t r o d z e f =
    goes_at a_law behind_one t r 49 (digit 1) (e ∙ ap (λ (n : ℕ). (48 + n) ∷ r) z) refl refl ∙ goes_at behind_one an_at_sign r o 48 (digit 0) f refl refl

pub law_one : (t r : Text) (d : ℕ) → d ≡ 1 → t ≡ (48 + d) ∷ r → begins_with 48 r ≡ false → left_from a_law t ≡ left_from an_at_sign r
law_one t r d z e h =
    goes_at a_law behind_one t r 49 (digit 1) (e ∙ ap (λ (n : ℕ). (48 + n) ∷ r) z) refl refl
    ∙ alike behind_one an_at_sign r refl (λ b s f. by b s f (sort_of b) (sorted b))
  where
    second : (b : ℕ) (s : Text) (c : ℕ) → r ≡ b ∷ s → b ≡ 48 + c → second_digit c ≡ None
    second b s zero f i = absurd (no_byte 48 b r s h f i)
    second b s (suc c) f i = refl

    by : (b : ℕ) (s : Text) → r ≡ b ∷ s → (x : Sort) → IsSort b x → behind behind_one x ≡ behind an_at_sign x
    by b s f plus q = refl
    by b s f minus q = refl
    by b s f comma q = refl
    by b s f period q = refl
    by b s f at_sign q = refl
    by b s f (digit c) q = second b s c f q.1
    by b s f no_part q = refl

pub law_more : (t r : Text) (d : ℕ) → d ≤ 9 → 1 < d → t ≡ (48 + d) ∷ r → left_from a_law t ≡ left_from an_at_sign r
law_more t r zero h n e = absurd (omega (arith, n))
law_more t r (suc zero) h n e = absurd (omega (arith, n))
law_more t r (suc (suc d)) h n e = goes_at a_law an_at_sign t r (48 + suc (suc d)) (digit (suc (suc d))) e (digit_sort (suc (suc d)) h) refl

-- at signs
pub behind_at_sign : (t r : Text) → t ≡ 64 ∷ r → left_from an_at_sign t ≡ left_from a_path r
behind_at_sign t r e = goes_at an_at_sign a_path t r 64 at_sign e refl refl

pub no_at_sign : (t : Text) → begins_with 64 t ≡ false → left_from an_at_sign t ≡ Some (length t)
no_at_sign t h = stops_at an_at_sign t refl (λ b r e. by b r e (sort_of b) (sorted b))
  where
    by : (b : ℕ) (r : Text) → t ≡ b ∷ r → (x : Sort) → IsSort b x → behind an_at_sign x ≡ None
    by b r e plus q = refl
    by b r e minus q = refl
    by b r e comma q = refl
    by b r e period q = refl
    by b r e at_sign q = absurd (no_byte 64 b t r h e q)
    by b r e (digit d) q = refl
    by b r e no_part q = refl

-- numbers
pub no_number : (t : Text) → begins_with_digit t ≡ false → left_from a_number t ≡ Some (length t)
no_number t h = stops_at a_number t refl (λ b r e. by b r e (sort_of b) (sorted b))
  where
    by : (b : ℕ) (r : Text) → t ≡ b ∷ r → (x : Sort) → IsSort b x → behind a_number x ≡ None
    by b r e plus q = refl
    by b r e minus q = refl
    by b r e comma q = refl
    by b r e period q = refl
    by b r e at_sign q = refl
    by b r e (digit d) q = absurd (no_digit b t r h e q.0)
    by b r e no_part q = refl

pub first_of_number : (t r : Text) (d : ℕ) → d ≤ 9 → t ≡ (48 + d) ∷ r → left_from a_number t ≡ left_from (in_number d) r
first_of_number t r d h e = goes_at a_number (in_number d) t r (48 + d) (digit d) e (digit_sort d h) refl

pub more_of_number : (t r : Text) (n d : ℕ) → 1 ≤ n → n < 100000000 → d ≤ 9 → t ≡ (48 + d) ∷ r → left_from (in_number n) t ≡ left_from (in_number (n * 10 + d)) r
more_of_number t r zero d l u h e = absurd (omega (arith, l))
more_of_number t r (suc n) d l u h e =
    goes_at (in_number (suc n)) (in_number (suc n * 10 + d)) t r (48 + d) (digit d) e (digit_sort d h) (ap (λ (x : Bool). if x then Some (in_number (suc n * 10 + d)) else None) (lt-ltb (suc n) 100000000 u))

-- a number is whole where nothing more of it can come: it is 0, it has nine digits, or no digit follows
whole : (t : Text) (n : ℕ) → ((b : ℕ) (r : Text) (d : ℕ) → t ≡ b ∷ r → is_ascii_digit b ≡ true → one_digit_more n d ≡ None) → left_from (in_number n) t ≡ left_from behind_number t
whole t n h = alike (in_number n) behind_number t refl (λ b r e. by b r e (sort_of b) (sorted b))
  where
    by : (b : ℕ) (r : Text) → t ≡ b ∷ r → (x : Sort) → IsSort b x → behind (in_number n) x ≡ behind behind_number x
    by b r e plus q = refl
    by b r e minus q = refl
    by b r e comma q = refl
    by b r e period q = refl
    by b r e at_sign q = refl
    by b r e (digit d) q = h b r d e q.0
    by b r e no_part q = refl

pub whole_zero : (t : Text) (n : ℕ) → n ≡ 0 → left_from (in_number n) t ≡ left_from behind_number t
whole_zero t zero e = whole t zero (λ b r d f q. refl)
whole_zero t (suc n) e = absurd (omega (arith, e))

pub whole_long : (t : Text) (n : ℕ) → 100000000 ≤ n → left_from (in_number n) t ≡ left_from behind_number t
whole_long t zero h = absurd (omega (arith, h))
whole_long t (suc n) h = whole t (suc n) (λ b r d f q. ap (λ (x : Bool). if x then Some (in_number (suc n * 10 + d)) else None) (le-ltb (suc n) 100000000 h))

pub whole_here : (t : Text) (n : ℕ) → begins_with_digit t ≡ false → left_from (in_number n) t ≡ left_from behind_number t
whole_here t n h = whole t n (λ b r d f q. absurd (no_digit b t r h f q))

-- paths
pub no_path : (t : Text) → begins_with_digit t ≡ false → left_from a_path t ≡ left_from behind_path t
no_path t h = alike a_path behind_path t refl (λ b r e. by b r e (sort_of b) (sorted b))
  where
    by : (b : ℕ) (r : Text) → t ≡ b ∷ r → (x : Sort) → IsSort b x → behind a_path x ≡ behind behind_path x
    by b r e plus q = refl
    by b r e minus q = refl
    by b r e comma q = refl
    by b r e period q = refl
    by b r e at_sign q = refl
    by b r e (digit d) q = absurd (no_digit b t r h e q.0)
    by b r e no_part q = refl

pub some_path : (t r : Text) (d : ℕ) → d ≤ 9 → t ≡ (48 + d) ∷ r → left_from a_path t ≡ left_from a_number t
some_path t r d h e = goes_at a_path (in_number d) t r (48 + d) (digit d) e (digit_sort d h) refl ∙ sym (first_of_number t r d h e)

pub behind_period : (t r : Text) → t ≡ 46 ∷ r → left_from behind_number t ≡ left_from a_number r
behind_period t r e = goes_at behind_number a_number t r 46 period e refl refl

pub no_period : (t : Text) → begins_with 46 t ≡ false → left_from behind_number t ≡ left_from behind_path t
no_period t h = alike behind_number behind_path t refl (λ b r e. by b r e (sort_of b) (sorted b))
  where
    by : (b : ℕ) (r : Text) → t ≡ b ∷ r → (x : Sort) → IsSort b x → behind behind_number x ≡ behind behind_path x
    by b r e plus q = refl
    by b r e minus q = refl
    by b r e comma q = refl
    by b r e period q = absurd (no_byte 46 b t r h e q)
    by b r e at_sign q = refl
    by b r e (digit d) q = refl
    by b r e no_part q = refl

-- steps
pub behind_comma : (t r : Text) → t ≡ 44 ∷ r → left_from behind_path t ≡ left_from a_sign r
behind_comma t r e = goes_at behind_path a_sign t r 44 comma e refl refl

pub no_comma : (t : Text) → begins_with 44 t ≡ false → length t ≢ 0 → left_from behind_path t ≡ Some (length t)
no_comma [] h n = absurd (n refl)
no_comma (b ∷ t) h n = stops behind_path b t (sort_of b) refl (by (sort_of b) (sorted b))
  where
    by : (x : Sort) → IsSort b x → behind behind_path x ≡ None
    by plus q = refl
    by minus q = refl
    by comma q = absurd (no_byte 44 b (b ∷ t) t h refl q)
    by period q = refl
    by at_sign q = refl
    by (digit d) q = refl
    by no_part q = refl
