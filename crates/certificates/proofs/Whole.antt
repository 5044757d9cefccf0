-- A certificate is read to its end.
use Rattle.std.proofs.Common.{◌≡◌, ◌⊎◌, inl, inr, ℕ, ◌+◌, ◌*◌, ◌/◌, ◌%◌, ◌<◌, ◌≤◌, ◌^◌, Bool, true, List, [], ◌∷◌, ◌++◌, map, refl, sym, ap, ◌∙◌, arith, Some, None}
use Rattle.std.specs.Prelude.{flat_map, codes, if◌then◌else◌}
use Rattle.std.specs.List.{AllByRecursion}
use Rattle.std.specs.Fmt.{decimal}
use Rattle.std.proofs.lemmas.Bool.{cases_lt}
use Rattle.std.proofs.lemmas.List.{append_assoc}
use Rattle.std.proofs.lemmas.Fmt.{decimal_digit, decimal_by_steps}
use Rattle.certified_model.specs.Marks.{Text}
use Rattle.certified_model.specs.Certificates.{CertStep}
use Rattle.certificate_model.specs.CertificateTexts.{path_text, step_text, HasNineDigits, IsStep, SaysCertificate}
use Rattle.certificates.specs.Stops.{comma, period, at_sign, digit, Next, a_sign, a_law, behind_one, a_path, a_number, in_number, behind_path, behind, may_end, left_from}
use Rattle.certificates.proofs.Digits.{ten}
use Rattle.certificates.proofs.Stopping.{digit_sort, goes, goes_at, ended_at, behind_sign, law_ten, law_more, behind_at_sign, more_of_number}

-- a law and the at sign behind it
law_through : (n : ℕ) (q : Text) → 1 ≤ n → n ≤ 10 → left_from a_law (decimal n ++ 64 ∷ q) ≡ left_from a_path q
law_through n q l u = by (cases_lt n 2) (cases_lt n 10)
  where
    one : n ≡ 1 → left_from a_law (decimal n ++ 64 ∷ q) ≡ left_from a_path q
    one e =
        let text : decimal n ++ 64 ∷ q ≡ 49 ∷ (64 ∷ q) = ap (λ (s : Text). s ++ 64 ∷ q) (ap decimal e ∙ decimal_digit 1 (omega arith)) in
        goes_at a_law behind_one (decimal n ++ 64 ∷ q) (64 ∷ q) 49 (digit 1) text refl refl ∙ goes behind_one a_path 64 q at_sign refl refl

    digits : 2 ≤ n → n < 10 → left_from a_law (decimal n ++ 64 ∷ q) ≡ left_from a_path q
    digits h k =
        let text : decimal n ++ 64 ∷ q ≡ (48 + n) ∷ (64 ∷ q) = ap (λ (s : Text). s ++ 64 ∷ q) (decimal_digit n k) in
        law_more (decimal n ++ 64 ∷ q) (64 ∷ q) n (omega (arith, k)) (omega (arith, h)) text
        ∙ behind_at_sign (64 ∷ q) q refl

    two_digits : 10 ≡ n → left_from a_law (decimal n ++ 64 ∷ q) ≡ left_from a_path q
    two_digits e =
        let text : 49 ∷ (48 ∷ (64 ∷ q)) ≡ decimal n ++ 64 ∷ q = ten (49 ∷ (48 ∷ (64 ∷ q))) (48 ∷ (64 ∷ q)) (64 ∷ q) 1 refl refl refl ∙ ap (λ (m : ℕ). decimal m ++ 64 ∷ q) e in
        ap (left_from a_law) (sym text) ∙ law_ten (49 ∷ (48 ∷ (64 ∷ q))) (48 ∷ (64 ∷ q)) (64 ∷ q) 1 refl refl refl ∙ behind_at_sign (64 ∷ q) q refl

    by : (n < 2) ⊎ (2 ≤ n) → (n < 10) ⊎ (10 ≤ n) → left_from a_law (decimal n ++ 64 ∷ q) ≡ left_from a_path q
    by (inl h) o = one (omega (arith, h, l))
    by (inr h) (inl k) = digits h k
    by (inr h) (inr k) = two_digits (omega (arith, k, u))

-- a number, from where one may begin
module _ (p : Next) (starts : (d : ℕ) → behind p (digit d) ≡ Some (in_number d)) where
  abbrev Through : ℕ → Text → Type 0
  Through n ds = n ≤ 999999999 → (r : Text) → left_from p (ds ++ r) ≡ left_from (in_number n) r

  one_digit : (n : ℕ) → n < 10 → Through n ((48 + n) ∷ [])
  one_digit n l h r = goes p (in_number n) (48 + n) r (digit n) (digit_sort n (omega (arith, l))) (starts n)

  more_digits : (n : ℕ) (ds : Text) → 10 ≤ n → Through (n / 10) ds → Through n (ds ++ (48 + n % 10) ∷ [])
  more_digits n ds l t h r =
      let front : n / 10 ≤ 99999999 = omega (arith, h) in
      let some : 1 ≤ n / 10 = omega (arith, l) in
      let last : n % 10 ≤ 9 = omega arith in
      let all : (n / 10) * 10 + n % 10 ≡ n = omega arith in
      ap (left_from p) (append_assoc ds ((48 + n % 10) ∷ []) r) ∙ t (omega (arith, front)) ((48 + n % 10) ∷ r)
      ∙ more_of_number ((48 + n % 10) ∷ r) r (n / 10) (n % 10) some (omega (arith, front)) last refl ∙ ap (λ (m : ℕ). left_from (in_number m) r) all

  number_through : (n : ℕ) → n ≤ 999999999 → (r : Text) → left_from p (decimal n ++ r) ≡ left_from (in_number n) r
  number_through n h r = decimal_by_steps Through one_digit more_digits n (small n h) h r
    where
      small : (n : ℕ) → n ≤ 999999999 → n < 2 ^ 64
      small n h = omega (arith, h)

-- what stands behind a step: nothing, or a comma
abbrev pub Ends : Text → Type 0
Ends r = (r ≡ []) ⊎ ((s : Text) × (r ≡ 44 ∷ s))

behind_whole : (p : Next) (r : Text) → may_end p ≡ true → behind p comma ≡ Some a_sign → Ends r → left_from p r ≡ left_from behind_path r
behind_whole p r m c (inl e) = ap (left_from p) e ∙ ended_at p ∙ ap (λ (x : Bool). if x then None else Some 0) m ∙ sym (ap (left_from behind_path) e ∙ ended_at behind_path)
behind_whole p r m c (inr s) = goes_at p a_sign r s.0 44 comma s.1 refl c ∙ sym (goes_at behind_path a_sign r s.0 44 comma s.1 refl refl)

-- the numbers of a path
abbrev more_numbers : List ℕ → Text
more_numbers ms = flat_map (λ (q : Text). codes "." ++ q) (map decimal ms)

numbers_through : (n : ℕ) (ms : List ℕ) (r : Text) → AllByRecursion HasNineDigits ms → Ends r → left_from (in_number n) (more_numbers ms ++ r) ≡ left_from behind_path r
numbers_through n [] r h e = behind_whole (in_number n) r refl refl e
numbers_through n (m ∷ ms) r h e =
    ap (left_from (in_number n)) (append_assoc (codes "." ++ decimal m) (more_numbers ms) r ∙ append_assoc (codes ".") (decimal m) (more_numbers ms ++ r))
    ∙ goes (in_number n) a_number 46 (decimal m ++ (more_numbers ms ++ r)) period refl refl
    ∙ number_through a_number (λ d. refl) m h.0 (more_numbers ms ++ r)
    ∙ numbers_through m ms r h.1 e

path_through : (ms : List ℕ) (r : Text) → AllByRecursion HasNineDigits ms → Ends r → left_from a_path (path_text ms ++ r) ≡ left_from behind_path r
path_through [] r h e = behind_whole a_path r refl refl e
path_through (m ∷ ms) r h e =
    ap (left_from a_path) (append_assoc (decimal m) (more_numbers ms) r) ∙ number_through a_path (λ d. refl) m h.0 (more_numbers ms ++ r) ∙ numbers_through m ms r h.1 e

-- steps
abbrev sign_of : Bool → Text
sign_of f = if f then codes "+" else codes "-"

step_through : (x : CertStep) (r : Text) → IsStep x → Ends r → left_from a_sign (step_text x ++ r) ≡ left_from behind_path r
step_through x r h e =
    let parts : step_text x ++ r ≡ sign_of x.forward ++ (decimal x.law ++ 64 ∷ (path_text x.path ++ r)) =
    append_assoc (sign_of x.forward) (decimal x.law ++ (codes "@" ++ path_text x.path)) r
    ∙ ap (λ (s : Text). sign_of x.forward ++ s) (append_assoc (decimal x.law) (codes "@" ++ path_text x.path) r) in
    behind_sign (step_text x ++ r) (decimal x.law ++ 64 ∷ (path_text x.path ++ r)) x.forward parts
    ∙ law_through x.law (path_text x.path ++ r) h.from_one h.to_ten ∙ path_through x.path r h.path e

abbrev more_steps : List CertStep → Text
more_steps xs = flat_map (λ (q : Text). codes "," ++ q) (map step_text xs)

more_end : (xs : List CertStep) → Ends (more_steps xs)
more_end [] = inl refl
more_end (x ∷ xs) = inr (step_text x ++ more_steps xs, append_assoc (codes ",") (step_text x) (more_steps xs))

steps_through : (xs : List CertStep) → AllByRecursion IsStep xs → left_from behind_path (more_steps xs) ≡ None
steps_through [] h = ended_at behind_path
steps_through (x ∷ xs) h =
    ap (left_from behind_path) (append_assoc (codes ",") (step_text x) (more_steps xs))
    ∙ goes behind_path a_sign 44 (step_text x ++ more_steps xs) comma refl refl
    ∙ step_through x (more_steps xs) h.0 (more_end xs) ∙ steps_through xs h.1

pub certificate_through : (t : Text) (xs : List CertStep) → SaysCertificate t xs → left_from a_sign t ≡ None
certificate_through t [] s = absurd (s.some refl)
certificate_through t (x ∷ xs) s = ap (left_from a_sign) s.spelled ∙ step_through x (more_steps xs) s.steps.0 (more_end xs) ∙ steps_through xs s.steps.1
