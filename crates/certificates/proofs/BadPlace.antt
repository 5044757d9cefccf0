-- Where reading stops, a text has its bad step.
use Rattle.std.proofs.Common.{◌≡◌, ℕ, zero, suc, ◌+◌, ◌*◌, ◌-◌, ◌<◌, ◌≤◌, Bool, true, false, List, [], ◌∷◌, ◌++◌, length, length-append, take, refl, sym, ap, subst, ◌∙◌, arith, Option, Some, None}
use Rattle.std.specs.Prelude.{codes, nat_lt, if◌then◌else◌}
use Rattle.std.specs.List.{AllByRecursion}
use Rattle.std.specs.Fmt.{decimal}
use Rattle.std.proofs.lemmas.Bool.{ltb-true}
use Rattle.std.proofs.lemmas.List.{append_assoc, append-nil}
use Rattle.std.proofs.lemmas.Fmt.{decimal_digit}
use Rattle.certified_model.specs.Marks.{Text}
use Rattle.certified_model.specs.Certificates.{CertStep}
use Rattle.certificate_model.specs.CertificateTexts.{path_text, step_text, HasNineDigits, IsStep, SaysCertificate, BeginsCertificate, HasBadStep}
use Rattle.certificates.specs.Stops.{Sort, plus, minus, comma, period, at_sign, digit, no_part, sort_of, Next, a_sign, a_law, behind_one, an_at_sign, a_path, a_number, in_number, behind_number, behind_path, behind, may_end, left_from}
use Rattle.certificates.proofs.Joined.{numbers_ended, steps_ended, all_last, path_ends, steps_end, steps_go_on, path_goes_on}
use Rattle.certificates.proofs.Digits.{one_more, ten}
use Rattle.certificates.proofs.Stopping.{IsSort, sorted, goes, stops, ended_at}
use Rattle.certificates.proofs.Whole.{certificate_through}

abbrev sign_of : Bool → Text
sign_of f = if f then codes "+" else codes "-"

-- whole steps, each with a comma behind it, a sign, and something behind it
record Signed (u w : Text) : Type 0 where
  steps : List CertStep
  good : AllByRecursion IsStep steps
  forward : Bool
  parts : u ≡ steps_ended steps ++ (sign_of forward ++ w)

-- the same with a law, and something behind the at sign
record Lawful (u w : Text) : Type 0 where
  law : ℕ
  from_one : 1 ≤ law
  to_ten : law ≤ 10
  signed : Signed u (decimal law ++ w)

-- the same with numbers, each with a period behind it, and something behind them
record Numbered (u w : Text) : Type 0 where
  numbers : List ℕ
  good : AllByRecursion HasNineDigits numbers
  lawful : Lawful u (codes "@" ++ (numbers_ended numbers ++ w))

-- what was read, by what comes next
abbrev HasRead : Next → Text → Type 0
HasRead a_sign u = (xs : List CertStep) × AllByRecursion IsStep xs × (u ≡ steps_ended xs)
HasRead a_law u = Signed u []
HasRead behind_one u = Signed u (decimal 1)
HasRead an_at_sign u = Lawful u []
HasRead a_path u = Lawful u (codes "@")
HasRead a_number u = Numbered u []
HasRead (in_number n) u = HasNineDigits n × Numbered u (decimal n)
HasRead behind_number u = ⊥
HasRead behind_path u = ⊥

-- one more byte
signed_more : (u w v : Text) → (b : ℕ) → Signed u w → w ++ b ∷ [] ≡ v → Signed (u ++ b ∷ []) v
signed_more u w v b s e = record {
  steps = s.steps;
  good = s.good;
  forward = s.forward;
  parts =
      ap (λ (x : Text). x ++ b ∷ []) s.parts ∙ append_assoc (steps_ended s.steps) (sign_of s.forward ++ w) (b ∷ [])
      ∙ ap (λ (x : Text). steps_ended s.steps ++ x) (append_assoc (sign_of s.forward) w (b ∷ []) ∙ ap (λ (x : Text). sign_of s.forward ++ x) e);
}

lawful_more : (u w v : Text) → (b : ℕ) → Lawful u w → w ++ b ∷ [] ≡ v → Lawful (u ++ b ∷ []) v
lawful_more u w v b s e = record {
  law = s.law;
  from_one = s.from_one;
  to_ten = s.to_ten;
  signed = signed_more u (decimal s.law ++ w) (decimal s.law ++ v) b s.signed (append_assoc (decimal s.law) w (b ∷ []) ∙ ap (λ (x : Text). decimal s.law ++ x) e);
}

numbered_more : (u w v : Text) → (b : ℕ) → Numbered u w → w ++ b ∷ [] ≡ v → Numbered (u ++ b ∷ []) v
numbered_more u w v b s e = record {
  numbers = s.numbers;
  good = s.good;
  lawful = lawful_more u (codes "@" ++ (numbers_ended s.numbers ++ w)) (codes "@" ++ (numbers_ended s.numbers ++ v)) b s.lawful
      (ap (λ (x : Text). codes "@" ++ x) (append_assoc (numbers_ended s.numbers) w (b ∷ []) ∙ ap (λ (x : Text). numbers_ended s.numbers ++ x) e));
}

-- a sign
with_sign : (u : Text) (b : ℕ) (f : Bool) → HasRead a_sign u → b ∷ [] ≡ sign_of f → HasRead a_law (u ++ b ∷ [])
with_sign u b f h e = record {
  steps = h.0;
  good = h.1;
  forward = f;
  parts = (λ i. h.2 i ++ e i) ∙ ap (λ (x : Text). steps_ended h.0 ++ x) (sym (append-nil (sign_of f)));
}

-- a law
with_law : (u : Text) (b d : ℕ) → HasRead a_law u → b ≡ 48 + d → 1 ≤ d → d ≤ 9 → HasRead an_at_sign (u ++ b ∷ [])
with_law u b d h e l k = record {
  law = d;
  from_one = l;
  to_ten = omega (arith, k);
  signed = signed_more u [] (decimal d ++ []) b h (ap (λ (c : ℕ). c ∷ []) e ∙ sym (decimal_digit d (omega (arith, k))) ∙ sym (append-nil (decimal d)));
}

with_one : (u : Text) (b : ℕ) → HasRead a_law u → b ≡ 49 → HasRead behind_one (u ++ b ∷ [])
with_one u b h e = signed_more u [] (decimal 1) b h (ap (λ (c : ℕ). c ∷ []) e ∙ sym (decimal_digit 1 (omega arith)))

with_ten : (u : Text) (b : ℕ) → HasRead behind_one u → b ≡ 48 → HasRead an_at_sign (u ++ b ∷ [])
with_ten u b h e = record {
  law = 10;
  from_one = omega arith;
  to_ten = omega arith;
  signed = signed_more u (decimal 1) (decimal 10 ++ []) b h
      ((λ i. decimal_digit 1 (omega arith) i ++ e i ∷ []) ∙ ten (49 ∷ (48 ∷ [])) (48 ∷ []) [] 1 refl refl refl);
}

one_lawful : (u : Text) → HasRead behind_one u → HasRead an_at_sign u
one_lawful u h = record {
  law = 1;
  from_one = omega arith;
  to_ten = omega arith;
  signed = record { steps = h.steps; good = h.good; forward = h.forward; parts = h.parts ∙ ap (λ (x : Text). steps_ended h.steps ++ (sign_of h.forward ++ x)) (sym (append-nil (decimal 1))) };
}

with_at_sign : (u : Text) (b : ℕ) → HasRead an_at_sign u → b ≡ 64 → HasRead a_path (u ++ b ∷ [])
with_at_sign u b h e = lawful_more u [] (codes "@") b h (ap (λ (c : ℕ). c ∷ []) e)

-- numbers
no_numbers : (u : Text) → HasRead a_path u → HasRead a_number u
no_numbers u h = record { numbers = []; good = tt; lawful = h }

with_digit : (u : Text) (b d : ℕ) → HasRead a_number u → b ≡ 48 + d → d ≤ 9 → HasRead (in_number d) (u ++ b ∷ [])
with_digit u b d h e k = (omega (arith, k), numbered_more u [] (decimal d) b h (ap (λ (c : ℕ). c ∷ []) e ∙ sym (decimal_digit d (omega (arith, k)))))

with_digits : (u : Text) (b d n : ℕ) → HasRead (in_number n) u → b ≡ 48 + d → d ≤ 9 → 1 ≤ n → n < 100000000 → HasRead (in_number (n * 10 + d)) (u ++ b ∷ [])
with_digits u b d n h e k l m = (
  omega (arith, k, m),
  numbered_more u (decimal n) (decimal (n * 10 + d)) b h.1
      (one_more (decimal n ++ b ∷ []) (b ∷ []) [] n d l m k refl (ap (λ (c : ℕ). c ∷ []) e) ∙ append-nil (decimal (n * 10 + d))),
)

with_period : (u : Text) (b n : ℕ) → HasRead (in_number n) u → b ≡ 46 → HasRead a_number (u ++ b ∷ [])
with_period u b n h e =
    let s = h.1 in record {
      numbers = s.numbers ++ n ∷ [];
      good = all_last HasNineDigits s.numbers n s.good h.0;
      lawful = lawful_more u (codes "@" ++ (numbers_ended s.numbers ++ decimal n)) (codes "@" ++ (numbers_ended (s.numbers ++ n ∷ []) ++ [])) b s.lawful
          (ap (λ (x : Text). codes "@" ++ x)
          (append_assoc (numbers_ended s.numbers) (decimal n) (b ∷ []) ∙ ap (λ (c : ℕ). numbers_ended s.numbers ++ (decimal n ++ c ∷ [])) e ∙ path_goes_on s.numbers n []));
    }

-- a whole step
record Stepped (u : Text) : Type 0 where
  steps : List CertStep
  good : AllByRecursion IsStep steps
  last : CertStep
  lawful : IsStep last
  parts : u ≡ steps_ended steps ++ step_text last

path_stepped : (u : Text) (ms : List ℕ) → AllByRecursion HasNineDigits ms → Lawful u (codes "@" ++ path_text ms) → Stepped u
path_stepped u ms h s = record {
  steps = s.signed.steps;
  good = s.signed.good;
  last = record { law = s.law; forward = s.signed.forward; path = ms };
  lawful = record { from_one = s.from_one; to_ten = s.to_ten; path = h };
  parts = s.signed.parts;
}

same_lawful : (u w v : Text) → Lawful u w → w ≡ v → Lawful u v
same_lawful u w v s e = subst (Lawful u) e s

root_stepped : (u : Text) → HasRead a_path u → Stepped u
root_stepped u h = path_stepped u [] tt h

number_stepped : (u : Text) (n : ℕ) → HasRead (in_number n) u → Stepped u
number_stepped u n h =
    let s = h.1 in
    path_stepped u (s.numbers ++ n ∷ []) (all_last HasNineDigits s.numbers n s.good h.0)
    (same_lawful u (codes "@" ++ (numbers_ended s.numbers ++ decimal n)) (codes "@" ++ path_text (s.numbers ++ n ∷ [])) s.lawful
    (ap (λ (x : Text). codes "@" ++ x) (ap (λ (x : Text). numbers_ended s.numbers ++ x) (sym (append-nil (decimal n))) ∙ path_ends s.numbers n [] ∙ append-nil (path_text (s.numbers ++ n ∷ [])))))

with_comma : (u : Text) (b : ℕ) → Stepped u → b ≡ 44 → HasRead a_sign (u ++ b ∷ [])
with_comma u b s e = (
  s.steps ++ s.last ∷ [],
  all_last IsStep s.steps s.last s.good s.lawful,
  (λ i. s.parts i ++ e i ∷ []) ∙ append_assoc (steps_ended s.steps) (step_text s.last) (44 ∷ []) ∙ steps_go_on s.steps s.last [] ∙ append-nil (steps_ended (s.steps ++ s.last ∷ [])),
)

-- options
none_some : {A : Type 0} (x : A) → None ≡ Some x → ⊥
none_some x e = cc

some_same : {A : Type 0} (x y : A) → Some x ≡ Some y → x ≡ y
some_same x y e = cc

onto : (r q : Next) (v : Text) → Some r ≡ Some q → HasRead r v → HasRead q v
onto r q v e h = subst (λ (n : Next). HasRead n v) (some_same r q e) h

-- what was read, with one more byte
read_more : (p q : Next) (x : Sort) (u : Text) (b : ℕ) → IsSort b x → behind p x ≡ Some q → HasRead p u → HasRead q (u ++ b ∷ [])
read_more a_sign q plus u b e f h = onto a_law q (u ++ b ∷ []) f (with_sign u b true h (ap (λ (c : ℕ). c ∷ []) e))
read_more a_sign q minus u b e f h = onto a_law q (u ++ b ∷ []) f (with_sign u b false h (ap (λ (c : ℕ). c ∷ []) e))
read_more a_law q (digit zero) u b s f h = absurd (none_some q f)
read_more a_law q (digit (suc zero)) u b s f h = onto behind_one q (u ++ b ∷ []) f (with_one u b h s.1)
read_more a_law q (digit (suc (suc d))) u b s f h = onto an_at_sign q (u ++ b ∷ []) f (with_law u b (suc (suc d)) h s.1 (omega arith) s.2)
read_more behind_one q (digit zero) u b s f h = onto an_at_sign q (u ++ b ∷ []) f (with_ten u b h s.1)
read_more behind_one q (digit (suc d)) u b s f h = absurd (none_some q f)
read_more behind_one q at_sign u b e f h = onto a_path q (u ++ b ∷ []) f (with_at_sign u b (one_lawful u h) e)
read_more an_at_sign q at_sign u b e f h = onto a_path q (u ++ b ∷ []) f (with_at_sign u b h e)
read_more a_path q (digit d) u b s f h = onto (in_number d) q (u ++ b ∷ []) f (with_digit u b d (no_numbers u h) s.1 s.2)
read_more a_path q comma u b e f h = onto a_sign q (u ++ b ∷ []) f (with_comma u b (root_stepped u h) e)
read_more a_number q (digit d) u b s f h = onto (in_number d) q (u ++ b ∷ []) f (with_digit u b d h s.1 s.2)
read_more (in_number zero) q (digit d) u b s f h = absurd (none_some q f)
read_more (in_number (suc n)) q (digit d) u b s f h = by (nat_lt (suc n) 100000000) refl f
  where
    by : (x : Bool) → nat_lt (suc n) 100000000 ≡ x → (if x then Some (in_number (suc n * 10 + d)) else None) ≡ Some q → HasRead q (u ++ b ∷ [])
    by true m i = onto (in_number (suc n * 10 + d)) q (u ++ b ∷ []) i (with_digits u b d (suc n) h s.1 s.2 (omega arith) (ltb-true (suc n) 100000000 m))
    by false m i = absurd (none_some q i)
read_more (in_number n) q period u b e f h = onto a_number q (u ++ b ∷ []) f (with_period u b n h e)
read_more (in_number n) q comma u b e f h = onto a_sign q (u ++ b ∷ []) f (with_comma u b (number_stepped u n h) e)
read_more a_sign q comma u b s f h = absurd (none_some q f)
read_more a_sign q period u b s f h = absurd (none_some q f)
read_more a_sign q at_sign u b s f h = absurd (none_some q f)
read_more a_sign q (digit d) u b s f h = absurd (none_some q f)
read_more a_sign q no_part u b s f h = absurd (none_some q f)
read_more a_law q plus u b s f h = absurd (none_some q f)
read_more a_law q minus u b s f h = absurd (none_some q f)
read_more a_law q comma u b s f h = absurd (none_some q f)
read_more a_law q period u b s f h = absurd (none_some q f)
read_more a_law q at_sign u b s f h = absurd (none_some q f)
read_more a_law q no_part u b s f h = absurd (none_some q f)
read_more behind_one q plus u b s f h = absurd (none_some q f)
read_more behind_one q minus u b s f h = absurd (none_some q f)
read_more behind_one q comma u b s f h = absurd (none_some q f)
read_more behind_one q period u b s f h = absurd (none_some q f)
read_more behind_one q no_part u b s f h = absurd (none_some q f)
read_more an_at_sign q plus u b s f h = absurd (none_some q f)
read_more an_at_sign q minus u b s f h = absurd (none_some q f)
read_more an_at_sign q comma u b s f h = absurd (none_some q f)
read_more an_at_sign q period u b s f h = absurd (none_some q f)
read_more an_at_sign q (digit d) u b s f h = absurd (none_some q f)
read_more an_at_sign q no_part u b s f h = absurd (none_some q f)
read_more a_path q plus u b s f h = absurd (none_some q f)
read_more a_path q minus u b s f h = absurd (none_some q f)
read_more a_path q period u b s f h = absurd (none_some q f)
read_more a_path q at_sign u b s f h = absurd (none_some q f)
read_more a_path q no_part u b s f h = absurd (none_some q f)
read_more a_number q plus u b s f h = absurd (none_some q f)
read_more a_number q minus u b s f h = absurd (none_some q f)
read_more a_number q comma u b s f h = absurd (none_some q f)
read_more a_number q period u b s f h = absurd (none_some q f)
read_more a_number q at_sign u b s f h = absurd (none_some q f)
read_more a_number q no_part u b s f h = absurd (none_some q f)
read_more (in_number n) q plus u b s f h = absurd (none_some q f)
read_more (in_number n) q minus u b s f h = absurd (none_some q f)
read_more (in_number n) q at_sign u b s f h = absurd (none_some q f)
read_more (in_number n) q no_part u b s f h = absurd (none_some q f)
read_more behind_number q x u b s f h = absurd h
read_more behind_path q x u b s f h = absurd h

-- what was read goes on to a certificate
begins_with_step : (u v : Text) → Stepped (u ++ v) → BeginsCertificate u
begins_with_step u v s = record {
  rest = v;
  steps = s.steps ++ s.last ∷ [];
  says = record {
    some = λ e. some_more s.steps s.last e;
    steps = all_last IsStep s.steps s.last s.good s.lawful;
    spelled = s.parts ∙ steps_end s.steps s.last;
  };
}
  where
    some_more : (xs : List CertStep) (x : CertStep) → xs ++ x ∷ [] ≡ [] → ⊥
    some_more [] x e = let bad : ⊥ = cc in bad
    some_more (y ∷ xs) x e = let bad : ⊥ = cc in bad

nothing_more : (u : Text) → Stepped u → BeginsCertificate u
nothing_more u s = begins_with_step u [] (subst Stepped (sym (append-nil u)) s)

begins : (p : Next) (u : Text) → HasRead p u → BeginsCertificate u
begins an_at_sign u h = begins_with_step u (64 ∷ []) (root_stepped (u ++ 64 ∷ []) (with_at_sign u 64 h refl))
begins a_path u h = nothing_more u (root_stepped u h)
begins a_number u h = begins_with_step u (48 ∷ []) (number_stepped (u ++ 48 ∷ []) 0 (with_digit u 48 0 h refl (omega arith)))
begins (in_number n) u h = nothing_more u (number_stepped u n h)
begins behind_one u h = begins_with_step u (64 ∷ []) (root_stepped (u ++ 64 ∷ []) (with_at_sign u 64 (one_lawful u h) refl))
begins a_law u h = begins_with_step u (49 ∷ (64 ∷ [])) (after_law u h)
  where
    after_law : (u : Text) → HasRead a_law u → Stepped (u ++ 49 ∷ (64 ∷ []))
    after_law u h = subst Stepped (append_assoc u (49 ∷ []) (64 ∷ [])) (root_stepped ((u ++ 49 ∷ []) ++ 64 ∷ []) (with_at_sign (u ++ 49 ∷ []) 64 (one_lawful (u ++ 49 ∷ []) (with_one u 49 h refl)) refl))
begins a_sign u h = begins_with_step u (43 ∷ (49 ∷ (64 ∷ []))) (after_sign u h)
  where
    after_sign : (u : Text) → HasRead a_sign u → Stepped (u ++ 43 ∷ (49 ∷ (64 ∷ [])))
    after_sign u h =
        let signed : HasRead a_law (u ++ 43 ∷ []) = with_sign u 43 true h refl in
        let one : HasRead an_at_sign ((u ++ 43 ∷ []) ++ 49 ∷ []) = one_lawful ((u ++ 43 ∷ []) ++ 49 ∷ []) (with_one (u ++ 43 ∷ []) 49 signed refl) in
        let all : Stepped (((u ++ 43 ∷ []) ++ 49 ∷ []) ++ 64 ∷ []) = root_stepped (((u ++ 43 ∷ []) ++ 49 ∷ []) ++ 64 ∷ []) (with_at_sign ((u ++ 43 ∷ []) ++ 49 ∷ []) 64 one refl) in
        subst Stepped (append_assoc (u ++ 43 ∷ []) (49 ∷ []) (64 ∷ []) ∙ append_assoc u (43 ∷ []) (49 ∷ (64 ∷ []))) all
begins behind_number u h = absurd h
begins behind_path u h = absurd h

-- the walk: a text is read as far as it goes
take_front : (u v : Text) → take (length u) (u ++ v) ≡ u
take_front [] v = refl
take_front (b ∷ u) v = ap (λ (s : Text). b ∷ s) (take_front u v)

take_one_more : (u v : Text) (b : ℕ) → take (suc (length u)) (u ++ b ∷ v) ≡ u ++ b ∷ []
take_one_more [] v b = refl
take_one_more (c ∷ u) v b = ap (λ (s : Text). c ∷ s) (take_one_more u v b)

abbrev StopsWith : Text → ℕ → Type 0
StopsWith t left = (at : ℕ) × HasBadStep t at × (at + left ≡ length t)

no_certificate : (t : Text) (left : ℕ) → left_from a_sign t ≡ Some left → (xs : List CertStep) → ¬ SaysCertificate t xs
no_certificate t left e xs s = none_some left (sym (certificate_through t xs s) ∙ e)

walk : (u t : Text) (p : Next) (left : ℕ) → HasRead p u → ((v : Text) → left_from a_sign (u ++ v) ≡ left_from p v) → left_from p t ≡ Some left → StopsWith (u ++ t) left
walk u [] p left h same e = by (may_end p) refl (sym (ended_at p) ∙ e)
  where
    none_left : left ≡ 0 → StopsWith (u ++ []) left
    none_left z = (
      length u,
      record {
        within = omega (arith, length-append u []);
        before = subst BeginsCertificate (sym (take_front u [])) (begins p u h);
        no_further = λ l. absurd (omega (arith, l, length-append u []));
        none = no_certificate (u ++ []) left (same [] ∙ e);
      },
      omega (arith, z, length-append u []),
    )

    by : (x : Bool) → may_end p ≡ x → (if x then None else Some 0) ≡ Some left → StopsWith (u ++ []) left
    by true m f = absurd (none_some left f)
    by false m f = none_left (sym (some_same 0 left f))
walk u (b ∷ t) p left h same e =
    by (behind p (sort_of b)) refl
    (λ q f. subst (λ (s : Text). StopsWith s left) (append_assoc u (b ∷ []) t)
    (walk (u ++ b ∷ []) t q left (read_more p q (sort_of b) u b (sorted b) f h)
    (λ v. ap (left_from a_sign) (append_assoc u (b ∷ []) v) ∙ same (b ∷ v) ∙ goes p q b v (sort_of b) refl f)
    (sym (goes p q b t (sort_of b) refl f) ∙ e)))
  where
    here : behind p (sort_of b) ≡ None → StopsWith (u ++ b ∷ t) left
    here f =
        let rest : length (b ∷ t) ≡ left = some_same (length (b ∷ t)) left (sym (stops p b t (sort_of b) refl f) ∙ e) in (
          length u,
          record {
            within = omega (arith, length-append u (b ∷ t));
            before = subst BeginsCertificate (sym (take_front u (b ∷ t))) (begins p u h);
            no_further = λ l c. (let more : BeginsCertificate (u ++ b ∷ []) = subst BeginsCertificate (take_one_more u t b) c in
                no_certificate ((u ++ b ∷ []) ++ more.rest) (length (b ∷ more.rest))
                (ap (left_from a_sign) (append_assoc u (b ∷ []) more.rest) ∙ same (b ∷ more.rest) ∙ stops p b more.rest (sort_of b) refl f) more.steps more.says);
            none = no_certificate (u ++ b ∷ t) left (same (b ∷ t) ∙ e);
          },
          omega (arith, rest, length-append u (b ∷ t)),
        )

    by : (o : Option Next) → behind p (sort_of b) ≡ o → ((q : Next) → behind p (sort_of b) ≡ Some q → StopsWith (u ++ b ∷ t) left) → StopsWith (u ++ b ∷ t) left
    by None f on = here f
    by (Some q) f on = on q f

-- so many bytes are left from the bad step on
pub bad_place : (t : Text) (left at : ℕ) → left_from a_sign t ≡ Some left → at ≡ length t - left → HasBadStep t at
bad_place t left at e f =
    let found = walk [] t a_sign left ([], tt, refl) (λ v. refl) e in
    let place = found.2 in
    subst (HasBadStep t) (let same : found.0 ≡ at = omega (arith, place, f) in same) found.1
