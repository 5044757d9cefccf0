-- Each text says a certificate, or has a first byte that continues none.
use Rattle.std.proofs.Common.{◌≡◌, ◌⊎◌, inl, inr, ℕ, zero, suc, ◌+◌, ◌/◌, ◌%◌, ◌<◌, ◌≤◌, Bool, true, false, List, [], ◌∷◌, ◌++◌, map, length, take, refl, sym, ap, subst, ◌∙◌, arith}
use Rattle.std.specs.Prelude.{◌≢◌, flat_map, nat_eq, nat_le, if◌then◌else◌, codes}
use Rattle.std.specs.List.{AllByRecursion}
use Rattle.std.specs.Fmt.{decimal}
use Rattle.std.specs.Str.Parse.{digits_value}
use Rattle.std.proofs.lemmas.Bool.{eqb-true, eq-eqb, leb-true, le-leb, false≢true}
use Rattle.std.proofs.lemmas.List.{append_assoc, append-nil}
use Rattle.std.proofs.lemmas.Fmt.{decimal_digit, decimal_step, decimal_by_steps, digits_value-decimal}
use Rattle.reread_law.proofs.Decimals.{digits_model}
use Rattle.certified_model.specs.Marks.{Text}
use Rattle.certified_model.specs.Certificates.{CertStep}
use Rattle.certificate_model.specs.CertificateTexts.{path_text, step_text, HasNineDigits, IsStep, SaysCertificate, BeginsCertificate, HasBadStep}
use Rattle.certificate_model.proofs.OneCertificate.{Lacks, Starts, cut, small, number_lacks, step_lacks}

-- whether or not
abbrev pub Decided : Type 0 → Type 0
Decided A = A ⊎ (A → ⊥)

-- what begins a text of a language
abbrev Begins : (Text → Type 0) → Text → Type 0
Begins L s = (r : Text) × L (s ++ r)

-- a language that is decided, and so are the beginnings of its texts; some text is one
record IsDecided (L : Text → Type 0) : Type 0 where
  member : (t : Text) → Decided (L t)
  begins : (t : Text) → Decided (Begins L t)
  some : Begins L []

-- texts
equal_texts : (s t : Text) → Decided (s ≡ t)
equal_texts [] [] = inl refl
equal_texts [] (b ∷ t) = inr (λ e. cc)
equal_texts (a ∷ s) [] = inr (λ e. cc)
equal_texts (a ∷ s) (b ∷ t) = by (nat_eq a b) refl (equal_texts s t)
  where
    by : (c : Bool) → nat_eq a b ≡ c → Decided (s ≡ t) → Decided (a ∷ s ≡ b ∷ t)
    by true e (inl q) = let first : a ≡ b = eqb-true a b e in inl (λ i. first i ∷ q i)
    by true e (inr q) = inr (λ f. (let rest : s ≡ t = cc in q rest))
    by false e d = inr (λ f. (let first : a ≡ b = cc in false≢true (sym e ∙ eq-eqb a b first)))

-- a text is cut at its first byte of a kind, or has none
data IsSplit (c : ℕ) (t : Text) : Type 0 where
  whole_one : Lacks c t → IsSplit c t
  at_first : (u v : Text) → Lacks c u → t ≡ u ++ c ∷ v → IsSplit c t

split : (c : ℕ) (t : Text) → IsSplit c t
split c [] = whole_one tt
split c (b ∷ t) = by (nat_eq b c) refl (split c t)
  where
    by : (d : Bool) → nat_eq b c ≡ d → IsSplit c t → IsSplit c (b ∷ t)
    by true e h = at_first [] t tt (let same : b ≡ c = eqb-true b c e in ap (λ (a : ℕ). a ∷ t) same)
    by false e (whole_one l) = whole_one ((λ q. false≢true (sym e ∙ eq-eqb b c q)), l)
    by false e (at_first u v l q) = at_first (b ∷ u) v ((λ p. false≢true (sym e ∙ eq-eqb b c p)), l) (ap (λ (s : Text). b ∷ s) q)

-- what stands before a text that lacks a byte, and is followed by that byte or nothing
before : (c : ℕ) (t r w s : Text) → Lacks c t → Starts c s → t ++ r ≡ w ++ s → (x : Text) × (w ≡ t ++ x)
before c [] r w s l q e = (w, refl)
before c (a ∷ t) r [] [] l q e = let bad : ⊥ = cc in absurd bad
before c (a ∷ t) r [] (b ∷ s) l q e = let first : a ≡ b = cc in absurd (l.0 (first ∙ q))
before c (a ∷ t) r (b ∷ w) s l q e =
    let first : a ≡ b = cc in
    let others : t ++ r ≡ w ++ s = cc in
    let rest = before c t r w s l.1 q others in
    (rest.0, (λ i. sym first i ∷ rest.1 i))

lacks_front : (c : ℕ) (u v : Text) → Lacks c (u ++ v) → Lacks c u
lacks_front c [] v h = tt
lacks_front c (b ∷ u) v h = (h.0, lacks_front c u v h.1)

has_none : (c : ℕ) (u v : Text) → Lacks c (u ++ c ∷ v) → ⊥
has_none c [] v h = h.0 refl
has_none c (b ∷ u) v h = has_none c u v h.1

-- a text of one language, a byte, and a text of another one
module _ (A B : Text → Type 0) (c : ℕ) (lacks : (t : Text) → A t → Lacks c t) (a : IsDecided A) (b : IsDecided B) where
  record IsPair (t : Text) : Type 0 where
    front : Text
    back : Text
    first : A front
    second : B back
    parts : t ≡ front ++ c ∷ back

  pair_member : (t : Text) → Decided (IsPair t)
  pair_member t = by (split c t)
    where
      by : IsSplit c t → Decided (IsPair t)
      by (whole_one l) = inr (λ p. has_none c p.front p.back (subst (Lacks c) p.parts l))
      by (at_first u v l e) = both (a.member u) (b.member v)
        where
          same : (p : IsPair t) → (u ≡ p.front) × (c ∷ v ≡ c ∷ p.back)
          same p = cut c u p.front (c ∷ v) (c ∷ p.back) l (lacks p.front p.first) refl refl (sym e ∙ p.parts)

          both : Decided (A u) → Decided (B v) → Decided (IsPair t)
          both (inl x) (inl y) = inl (record { front = u; back = v; first = x; second = y; parts = e })
          both (inr x) o = inr (λ p. x (subst A (sym (same p).0) p.first))
          both (inl x) (inr y) = inr (λ p. (let f = (same p).1 in let q : v ≡ p.back = cc in y (subst B (sym q) p.second)))

  pair_begins : (t : Text) → Decided (Begins IsPair t)
  pair_begins t = by (split c t)
    where
      by : IsSplit c t → Decided (Begins IsPair t)
      by (whole_one l) = front (a.begins t)
        where
          front : Decided (Begins A t) → Decided (Begins IsPair t)
          front (inl x) = inl (x.0 ++ c ∷ b.some.0, record { front = t ++ x.0; back = b.some.0; first = x.1; second = b.some.1; parts = sym (append_assoc t x.0 (c ∷ b.some.0)) })
          front (inr x) = inr (λ p. (let q = before c t p.0 p.1.front (c ∷ p.1.back) l refl p.1.parts in x (q.0, subst A q.1 p.1.first)))
      by (at_first u v l e) = both (a.member u) (b.begins v)
        where
          same : (p : Begins IsPair t) → (u ≡ p.1.front) × (c ∷ (v ++ p.0) ≡ c ∷ p.1.back)
          same p = cut c u p.1.front (c ∷ (v ++ p.0)) (c ∷ p.1.back) l (lacks p.1.front p.1.first) refl refl (sym (append_assoc u (c ∷ v) p.0) ∙ ap (λ (s : Text). s ++ p.0) (sym e) ∙ p.1.parts)

          both : Decided (A u) → Decided (Begins B v) → Decided (Begins IsPair t)
          both (inl x) (inl y) = inl (y.0, record { front = u; back = v ++ y.0; first = x; second = y.1; parts = ap (λ (s : Text). s ++ y.0) e ∙ append_assoc u (c ∷ v) y.0 })
          both (inr x) o = inr (λ p. x (subst A (sym (same p).0) p.1.first))
          both (inl x) (inr y) = inr (λ p. (let f = (same p).1 in let q : v ++ p.0 ≡ p.1.back = cc in y (p.0, subst B (sym q) p.1.second)))

  pair_decided : IsDecided IsPair
  pair_decided = record {
    member = pair_member;
    begins = pair_begins;
    some = (a.some.0 ++ c ∷ b.some.0, record { front = a.some.0; back = b.some.0; first = a.some.1; second = b.some.1; parts = refl });
  }

-- texts of a language with a byte between: at least one
module _ (A : Text → Type 0) (c : ℕ) (lacks : (t : Text) → A t → Lacks c t) (a : IsDecided A) where
  abbrev behind : List Text → Text
  behind ws = flat_map (λ (p : Text). (c ∷ []) ++ p) ws

  record IsRow (t : Text) : Type 0 where
    front : Text
    others : List Text
    first : A front
    rest : AllByRecursion A others
    parts : t ≡ front ++ behind others

  starts : (ws : List Text) → Starts c (behind ws)
  starts [] = tt
  starts (w ∷ ws) = refl

  -- a row that has a byte of the kind behind a text without it
  record IsFurther (u v : Text) : Type 0 where
    first : A u
    row : IsRow v

  further : (u v : Text) → Lacks c u → (p : IsRow (u ++ c ∷ v)) → IsFurther u v
  further u v l p = by p.others p.rest p.parts
    where
      by : (ws : List Text) → AllByRecursion A ws → u ++ c ∷ v ≡ p.front ++ behind ws → IsFurther u v
      by [] h e =
          let same = cut c u p.front (c ∷ v) [] l (lacks p.front p.first) refl tt e in
          let bad : c ∷ v ≡ [] = same.1 in absurd (cc)
      by (w ∷ ws) h e =
          let same = cut c u p.front (c ∷ v) (behind (w ∷ ws)) l (lacks p.front p.first) refl refl e in
          let f : c ∷ v ≡ c ∷ (w ++ behind ws) = same.1 in
          let back : v ≡ w ++ behind ws = cc in
          record { first = subst A (sym same.0) p.first; row = record { front = w; others = ws; first = h.0; rest = h.1; parts = back } }

  one_more : (u v : Text) → A u → IsRow v → IsRow (u ++ c ∷ v)
  one_more u v x p = record { front = u; others = p.front ∷ p.others; first = x; rest = (p.first, p.rest); parts = ap (λ (s : Text). u ++ c ∷ s) p.parts }

  alone : (t : Text) → A t → IsRow t
  alone t x = record { front = t; others = []; first = x; rest = tt; parts = sym (append-nil t) }

  only : (t : Text) → Lacks c t → IsRow t → A t
  only t l p = by p.others p.parts
    where
      by : (ws : List Text) → t ≡ p.front ++ behind ws → A t
      by [] e = subst A (sym (e ∙ append-nil p.front)) p.first
      by (w ∷ ws) e = absurd (has_none c p.front (w ++ behind ws) (subst (Lacks c) e l))

  shorter : (k : ℕ) (u v t : Text) → t ≡ u ++ c ∷ v → length t ≤ suc k → length v ≤ k
  shorter k u v t e h = let same : length t ≡ length (u ++ c ∷ v) = ap length e in let sum = of_both u in omega (arith, same, h, sum)
    where
      of_both : (w : Text) → length v + 1 ≤ length (w ++ c ∷ v)
      of_both [] = omega arith
      of_both (d ∷ w) = let rest = of_both w in omega (arith, rest)

  -- a text without the byte
  member_alone : (t : Text) → Lacks c t → Decided (A t) → Decided (IsRow t)
  member_alone t l (inl x) = inl (alone t x)
  member_alone t l (inr x) = inr (λ p. x (only t l p))

  begins_alone : (t : Text) → Lacks c t → Decided (Begins A t) → Decided (Begins IsRow t)
  begins_alone t l (inl x) = inl (x.0, alone (t ++ x.0) x.1)
  begins_alone t l (inr x) = inr (λ p. (let q = before c t p.0 p.1.front (behind p.1.others) l (starts p.1.others) p.1.parts in x (q.0, subst A q.1 p.1.first)))

  -- and one with it
  member_further : (u v t : Text) → Lacks c u → t ≡ u ++ c ∷ v → Decided (A u) → Decided (IsRow v) → Decided (IsRow t)
  member_further u v t l e (inl x) (inl y) = inl (subst IsRow (sym e) (one_more u v x y))
  member_further u v t l e (inl x) (inr y) = inr (λ p. y (further u v l (subst IsRow e p)).row)
  member_further u v t l e (inr x) o = inr (λ p. x (further u v l (subst IsRow e p)).first)

  joined_more : (u v t : Text) → t ≡ u ++ c ∷ v → (r : Text) → t ++ r ≡ u ++ c ∷ (v ++ r)
  joined_more u v t e r = ap (λ (s : Text). s ++ r) e ∙ append_assoc u (c ∷ v) r

  begins_further : (u v t : Text) → Lacks c u → t ≡ u ++ c ∷ v → Decided (A u) → Decided (Begins IsRow v) → Decided (Begins IsRow t)
  begins_further u v t l e (inl x) (inl y) = inl (y.0, subst IsRow (sym (joined_more u v t e y.0)) (one_more u (v ++ y.0) x y.1))
  begins_further u v t l e (inl x) (inr y) = inr (λ p. y (p.0, (further u (v ++ p.0) l (subst IsRow (joined_more u v t e p.0) p.1)).row))
  begins_further u v t l e (inr x) o = inr (λ p. x (further u (v ++ p.0) l (subst IsRow (joined_more u v t e p.0) p.1)).first)

  row_member : (k : ℕ) (t : Text) → length t ≤ k → Decided (IsRow t)
  row_member zero [] h = member_alone [] tt (a.member [])
  row_member zero (b ∷ t) h = absurd (omega (arith, h))
  row_member (suc j) t h = by (split c t) (row_member j)
    where
      by : IsSplit c t → ((v : Text) → length v ≤ j → Decided (IsRow v)) → Decided (IsRow t)
      by (whole_one l) on = member_alone t l (a.member t)
      by (at_first u v l e) on = member_further u v t l e (a.member u) (on v (shorter j u v t e h))

  row_begins : (k : ℕ) (t : Text) → length t ≤ k → Decided (Begins IsRow t)
  row_begins zero [] h = begins_alone [] tt (a.begins [])
  row_begins zero (b ∷ t) h = absurd (omega (arith, h))
  row_begins (suc j) t h = by (split c t) (row_begins j)
    where
      by : IsSplit c t → ((v : Text) → length v ≤ j → Decided (Begins IsRow v)) → Decided (Begins IsRow t)
      by (whole_one l) on = begins_alone t l (a.begins t)
      by (at_first u v l e) on = begins_further u v t l e (a.member u) (on v (shorter j u v t e h))

  row_decided : IsDecided IsRow
  row_decided = record {
    member = λ t. row_member (length t) t (omega arith);
    begins = λ t. row_begins (length t) t (omega arith);
    some = (a.some.0, alone a.some.0 a.some.1);
  }

-- numbers of a bound of at most nine digits, from a least one that is 0 or 1
module _ (least most : ℕ) (bounded : most ≤ 999999999) (low : least ≤ 1) (room : least ≤ most) where
  record IsNumberText (t : Text) : Type 0 where
    value : ℕ
    above : least ≤ value
    below : value ≤ most
    spelled : t ≡ decimal value

  nine : (n : ℕ) → n ≤ most → HasNineDigits n
  nine n h = omega (arith, h, bounded)

  number_member : (t : Text) → Decided (IsNumberText t)
  number_member t = by (equal_texts t (decimal v)) (nat_le least v) (nat_le v most) refl refl
    where
      v : ℕ
      v = digits_value 10 t

      it_is : (p : IsNumberText t) → v ≡ p.value
      it_is p = ap (digits_value 10) p.spelled ∙ digits_value-decimal digits_model p.value (small p.value (nine p.value p.below))

      by : Decided (t ≡ decimal v) → (x y : Bool) → nat_le least v ≡ x → nat_le v most ≡ y → Decided (IsNumberText t)
      by (inl e) true true p q = inl (record { value = v; above = leb-true least v p; below = leb-true v most q; spelled = e })
      by (inl e) false y p q = inr (λ n. false≢true (sym p ∙ le-leb least v (subst (λ (m : ℕ). least ≤ m) (sym (it_is n)) n.above)))
      by (inl e) true false p q = inr (λ n. false≢true (sym q ∙ le-leb v most (subst (λ (m : ℕ). m ≤ most) (sym (it_is n)) n.below)))
      by (inr e) x y p q = inr (λ n. e (n.spelled ∙ ap decimal (sym (it_is n))))

  -- a beginning of a number is one
  record IsBefore (n : ℕ) (t : Text) : Type 0 where
    value : ℕ
    below : value ≤ n
    above : 1 ≤ n → 1 ≤ value
    spelled : t ≡ decimal value

  abbrev AllBefore : ℕ → Text → Type 0
  AllBefore n ds = n ≤ 999999999 → (ds ≡ decimal n) × ((t r : Text) → t ≢ [] → ds ≡ t ++ r → IsBefore n t)

  one_digit : (n : ℕ) → n < 10 → AllBefore n ((48 + n) ∷ [])
  one_digit n h b = (sym (decimal_digit n h), λ t r some e. by t r some e)
    where
      by : (t r : Text) → t ≢ [] → (48 + n) ∷ [] ≡ t ++ r → IsBefore n t
      by [] r some e = absurd (some refl)
      by (d ∷ []) r some e = let first : 48 + n ≡ d = cc in record { value = n; below = omega arith; above = λ g. g; spelled = ap (λ (a : ℕ). a ∷ []) (sym first) ∙ sym (decimal_digit n h) }
      by (d ∷ (f ∷ t)) r some e = let bad : [] ≡ f ∷ (t ++ r) = cc in absurd (cc)

  more_digits : (n : ℕ) (ds : Text) → 10 ≤ n → AllBefore (n / 10) ds → AllBefore n (ds ++ ((48 + n % 10) ∷ []))
  more_digits n ds h ih b =
      let less : n / 10 ≤ n = omega arith in
      let some_left : 1 ≤ n / 10 = omega (arith, h) in
      let front = ih (omega (arith, less, b)) in
      let whole : ds ++ ((48 + n % 10) ∷ []) ≡ decimal n = ap (λ (s : Text). s ++ ((48 + n % 10) ∷ [])) front.0 ∙ sym (decimal_step n h (omega (arith, b))) in
      (whole, λ t r some e. by less some_left front.1 whole ds t r some e refl)
    where
      last : ℕ
      last = 48 + n % 10

      by : n / 10 ≤ n → 1 ≤ n / 10 → ((t r : Text) → t ≢ [] → ds ≡ t ++ r → IsBefore (n / 10) t) → ds ++ (last ∷ []) ≡ decimal n → (es : Text) (t r : Text) → t ≢ [] → ds ++ (last ∷ []) ≡ t ++ r → es ≡ ds → IsBefore n t
      by less some_left front whole es t r some e q = ends (parted ds t r e)
        where
          parted : (xs t r : Text) → xs ++ (last ∷ []) ≡ t ++ r → ((x : Text) × (xs ≡ t ++ x)) ⊎ (t ≡ xs ++ (last ∷ []))
          parted xs [] r e = inl (xs, refl)
          parted [] (d ∷ []) r e = let first : last ≡ d = cc in inr (ap (λ (a : ℕ). a ∷ []) (sym first))
          parted [] (d ∷ (f ∷ t)) r e = let bad : [] ≡ f ∷ (t ++ r) = cc in absurd (cc)
          parted (x ∷ xs) (d ∷ t) r e =
              let first : x ≡ d = cc in
              let others : xs ++ (last ∷ []) ≡ t ++ r = cc in
              again first (parted xs t r others)
            where
              again : x ≡ d → ((y : Text) × (xs ≡ t ++ y)) ⊎ (t ≡ xs ++ (last ∷ [])) → ((y : Text) × (x ∷ xs ≡ (d ∷ t) ++ y)) ⊎ (d ∷ t ≡ (x ∷ xs) ++ (last ∷ []))
              again f (inl y) = inl (y.0, (λ i. f i ∷ y.1 i))
              again f (inr y) = inr (λ i. sym f i ∷ y i)

          ends : ((x : Text) × (ds ≡ t ++ x)) ⊎ (t ≡ ds ++ (last ∷ [])) → IsBefore n t
          ends (inl y) =
              let m = front t y.0 some y.1 in
              let lower = m.below in
              let upper = m.above some_left in
              record { value = m.value; below = omega (arith, lower, less); above = λ g. upper; spelled = m.spelled }
          ends (inr y) = record { value = n; below = omega arith; above = λ g. g; spelled = y ∙ whole }

  number_before : (n : ℕ) → n ≤ 999999999 → (t r : Text) → t ≢ [] → decimal n ≡ t ++ r → IsBefore n t
  number_before n b t r some e = (decimal_by_steps AllBefore one_digit more_digits n (small n b) b).1 t r some e

  number_begins : (t : Text) → Decided (Begins IsNumberText t)
  number_begins [] = inl (decimal least, record { value = least; above = omega arith; below = room; spelled = refl })
  number_begins (d ∷ t) = by (number_member (d ∷ t))
    where
      by : Decided (IsNumberText (d ∷ t)) → Decided (Begins IsNumberText (d ∷ t))
      by (inl x) = inl ([], subst IsNumberText (sym (append-nil (d ∷ t))) x)
      by (inr x) = inr (λ p. (let m = number_before p.1.value (nine p.1.value p.1.below) (d ∷ t) p.0 (λ e. cc) (sym p.1.spelled) in
          let under = m.below in
          let top = p.1.below in
          let bottom = p.1.above in
          x (record { value = m.value; above = at_least least p.1.value m.value low bottom m.above; below = omega (arith, under, top); spelled = m.spelled })))
        where
          at_least : (a n m : ℕ) → a ≤ 1 → a ≤ n → (1 ≤ n → 1 ≤ m) → a ≤ m
          at_least zero n m l h f = omega arith
          at_least (suc a) n m l h f = let g : 1 ≤ m = f (omega (arith, h)) in omega (arith, l, g)

  number_decided : IsDecided IsNumberText
  number_decided = record { member = number_member; begins = number_begins; some = (decimal least, record { value = least; above = omega arith; below = room; spelled = refl }) }

-- the numbers of paths and of laws
abbrev PathNumber : Text → Type 0
PathNumber = IsNumberText 0 999999999 (omega arith) (omega arith) (omega arith)

abbrev LawNumber : Text → Type 0
LawNumber = IsNumberText 1 10 (omega arith) (omega arith) (omega arith)

path_number : IsDecided PathNumber
path_number = number_decided 0 999999999 (omega arith) (omega arith) (omega arith)

law_number : IsDecided LawNumber
law_number = number_decided 1 10 (omega arith) (omega arith) (omega arith)

number_lacks_dot : (t : Text) → PathNumber t → Lacks 46 t
number_lacks_dot t n = subst (Lacks 46) (sym n.spelled) (number_lacks 46 refl n.value n.below)

law_lacks_at : (t : Text) → LawNumber t → Lacks 64 t
law_lacks_at t n = let top = n.below in subst (Lacks 64) (sym n.spelled) (number_lacks 64 refl n.value (omega (arith, top)))

abbrev NumberRow : Text → Type 0
NumberRow = IsRow PathNumber 46 number_lacks_dot path_number

number_row : IsDecided NumberRow
number_row = row_decided PathNumber 46 number_lacks_dot path_number

-- nothing, or a text of a language
abbrev Maybe : (Text → Type 0) → Text → Type 0
Maybe L t = (t ≡ []) ⊎ L t

maybe_decided : (L : Text → Type 0) → IsDecided L → IsDecided (Maybe L)
maybe_decided L d = record { member = λ t. member t (d.member t); begins = λ t. begins t (d.begins t); some = ([], inl refl) }
  where
    member : (t : Text) → Decided (L t) → Decided (Maybe L t)
    member t (inl x) = inl (inr x)
    member [] (inr x) = inl (inl refl)
    member (b ∷ t) (inr x) = inr (λ m. by m)
      where
        by : Maybe L (b ∷ t) → ⊥
        by (inl e) = cc
        by (inr y) = x y

    begins : (t : Text) → Decided (Begins L t) → Decided (Begins (Maybe L) t)
    begins t (inl x) = inl (x.0, inr x.1)
    begins [] (inr x) = inl ([], inl refl)
    begins (b ∷ t) (inr x) = inr (λ m. by m.0 m.1)
      where
        by : (r : Text) → Maybe L ((b ∷ t) ++ r) → ⊥
        by r (inl e) = let bad : b ∷ (t ++ r) ≡ [] = e in cc
        by r (inr y) = x (r, y)

abbrev PathText : Text → Type 0
PathText = Maybe NumberRow

path_decided : IsDecided PathText
path_decided = maybe_decided NumberRow number_row

-- a law's number, an at sign and a path
abbrev Unsigned : Text → Type 0
Unsigned = IsPair LawNumber PathText 64 law_lacks_at law_number path_decided

unsigned_decided : IsDecided Unsigned
unsigned_decided = pair_decided LawNumber PathText 64 law_lacks_at law_number path_decided

-- a sign in front
record IsSigned (t : Text) : Type 0 where
  sign : Bool
  rest : Text
  unsigned : Unsigned rest
  parts : t ≡ (if sign then codes "+" else codes "-") ++ rest

abbrev signed : Bool → Text → Text
signed b t = (if b then codes "+" else codes "-") ++ t

-- a sign, or none
data IsSign (b : ℕ) : Type 0 where
  plus_sign : b ≡ 43 → IsSign b
  minus_sign : b ≡ 45 → IsSign b
  no_sign : b ≢ 43 → b ≢ 45 → IsSign b

sign_of : (b : ℕ) → IsSign b
sign_of b = by (nat_eq b 43) (nat_eq b 45) refl refl
  where
    by : (x y : Bool) → nat_eq b 43 ≡ x → nat_eq b 45 ≡ y → IsSign b
    by true y e f = plus_sign (eqb-true b 43 e)
    by false true e f = minus_sign (eqb-true b 45 f)
    by false false e f = no_sign (λ q. false≢true (sym e ∙ eq-eqb b 43 q)) (λ q. false≢true (sym f ∙ eq-eqb b 45 q))

-- what stands behind a sign
behind_plus : (t : Text) (p : IsSigned (43 ∷ t)) → Unsigned t
behind_plus t p = by p.sign p.parts
  where
    by : (s : Bool) → ◌≡◌ {A = Text} (43 ∷ t) (signed s p.rest) → Unsigned t
    by true e = let rest : t ≡ p.rest = cc in subst Unsigned (sym rest) p.unsigned
    by false e = let bad : ◌≡◌ {A = ℕ} 43 45 = cc in absurd (omega (arith, bad))

behind_minus : (t : Text) (p : IsSigned (45 ∷ t)) → Unsigned t
behind_minus t p = by p.sign p.parts
  where
    by : (s : Bool) → ◌≡◌ {A = Text} (45 ∷ t) (signed s p.rest) → Unsigned t
    by true e = let bad : ◌≡◌ {A = ℕ} 45 43 = cc in absurd (omega (arith, bad))
    by false e = let rest : t ≡ p.rest = cc in subst Unsigned (sym rest) p.unsigned

unsigned_first : (b : ℕ) (t : Text) → b ≢ 43 → b ≢ 45 → IsSigned (b ∷ t) → ⊥
unsigned_first b t n m p = by p.sign p.parts
  where
    by : (s : Bool) → b ∷ t ≡ signed s p.rest → ⊥
    by true e = let first : b ≡ 43 = cc in n first
    by false e = let first : b ≡ 45 = cc in m first

with_sign : (s : Bool) (t : Text) → Unsigned t → IsSigned (signed s t)
with_sign s t u = record { sign = s; rest = t; unsigned = u; parts = refl }

nothing_signed : IsSigned [] → ⊥
nothing_signed p = by p.sign p.parts
  where
    by : (s : Bool) → [] ≡ signed s p.rest → ⊥
    by true e = cc
    by false e = cc

signed_member : (t : Text) → Decided (IsSigned t)
signed_member [] = inr nothing_signed
signed_member (b ∷ t) = by (sign_of b) (unsigned_decided.member t)
  where
    by : IsSign b → Decided (Unsigned t) → Decided (IsSigned (b ∷ t))
    by (plus_sign e) (inl u) = inl (subst (λ (a : ℕ). IsSigned (a ∷ t)) (sym e) (with_sign true t u))
    by (plus_sign e) (inr u) = inr (λ p. u (behind_plus t (subst (λ (a : ℕ). IsSigned (a ∷ t)) e p)))
    by (minus_sign e) (inl u) = inl (subst (λ (a : ℕ). IsSigned (a ∷ t)) (sym e) (with_sign false t u))
    by (minus_sign e) (inr u) = inr (λ p. u (behind_minus t (subst (λ (a : ℕ). IsSigned (a ∷ t)) e p)))
    by (no_sign n m) o = inr (unsigned_first b t n m)

signed_begins : (t : Text) → Decided (Begins IsSigned t)
signed_begins [] = inl (signed true unsigned_decided.some.0, with_sign true unsigned_decided.some.0 unsigned_decided.some.1)
signed_begins (b ∷ t) = by (sign_of b) (unsigned_decided.begins t)
  where
    by : IsSign b → Decided (Begins Unsigned t) → Decided (Begins IsSigned (b ∷ t))
    by (plus_sign e) (inl u) = inl (u.0, subst (λ (a : ℕ). IsSigned (a ∷ (t ++ u.0))) (sym e) (with_sign true (t ++ u.0) u.1))
    by (plus_sign e) (inr u) = inr (λ p. u (p.0, behind_plus (t ++ p.0) (subst (λ (a : ℕ). IsSigned (a ∷ (t ++ p.0))) e p.1)))
    by (minus_sign e) (inl u) = inl (u.0, subst (λ (a : ℕ). IsSigned (a ∷ (t ++ u.0))) (sym e) (with_sign false (t ++ u.0) u.1))
    by (minus_sign e) (inr u) = inr (λ p. u (p.0, behind_minus (t ++ p.0) (subst (λ (a : ℕ). IsSigned (a ∷ (t ++ p.0))) e p.1)))
    by (no_sign n m) o = inr (λ p. unsigned_first b (t ++ p.0) n m p.1)

signed_decided : IsDecided IsSigned
signed_decided = record { member = signed_member; begins = signed_begins; some = (signed true unsigned_decided.some.0, with_sign true unsigned_decided.some.0 unsigned_decided.some.1) }

-- such a text is a step, and the other way round
record IsStepText (t : Text) : Type 0 where
  step : CertStep
  lawful : IsStep step
  spelled : t ≡ step_text step

row_numbers : (ws : List Text) → AllByRecursion PathNumber ws → (ns : List ℕ) × AllByRecursion HasNineDigits ns × (ws ≡ map decimal ns)
row_numbers [] h = ([], tt, refl)
row_numbers (w ∷ ws) h = let rest = row_numbers ws h.1 in (h.0.value ∷ rest.0, (h.0.below, rest.1), (λ i. h.0.spelled i ∷ rest.2 i))

path_of : (t : Text) → PathText t → (ns : List ℕ) × AllByRecursion HasNineDigits ns × (t ≡ path_text ns)
path_of t (inl e) = ([], tt, e)
path_of t (inr p) =
    let rest = row_numbers p.others p.rest in
    (p.first.value ∷ rest.0, (p.first.below, rest.1), p.parts ∙ (λ i. p.first.spelled i ++ flat_map (λ (q : Text). (46 ∷ []) ++ q) (rest.2 i)))

step_of : (t : Text) → IsSigned t → IsStepText t
step_of t p =
    let u = p.unsigned in
    let path = path_of u.back u.second in
    record {
      step = record { law = u.first.value; forward = p.sign; path = path.0 };
      lawful = record { from_one = u.first.above; to_ten = u.first.below; path = path.1 };
      spelled = p.parts ∙ ap (signed p.sign) (u.parts ∙ (λ i. u.first.spelled i ++ 64 ∷ path.2 i));
    }

path_numbers : (ns : List ℕ) → AllByRecursion HasNineDigits ns → AllByRecursion PathNumber (map decimal ns)
path_numbers [] h = tt
path_numbers (n ∷ ns) h = (record { value = n; above = omega arith; below = h.0; spelled = refl }, path_numbers ns h.1)

path_said : (ns : List ℕ) → AllByRecursion HasNineDigits ns → PathText (path_text ns)
path_said [] h = inl refl
path_said (n ∷ ns) h = inr (record { front = decimal n; others = map decimal ns; first = record { value = n; above = omega arith; below = h.0; spelled = refl }; rest = path_numbers ns h.1; parts = refl })

step_said : (x : CertStep) → IsStep x → IsSigned (step_text x)
step_said x h = record {
  sign = x.forward;
  rest = decimal x.law ++ 64 ∷ path_text x.path;
  unsigned = record {
    front = decimal x.law;
    back = path_text x.path;
    first = record { value = x.law; above = h.from_one; below = h.to_ten; spelled = refl };
    second = path_said x.path h.path;
    parts = refl;
  };
  parts = refl;
}

signed_lacks : (t : Text) → IsSigned t → Lacks 44 t
signed_lacks t p = let s = step_of t p in subst (Lacks 44) (sym s.spelled) (step_lacks s.step s.lawful)

-- certificates
abbrev StepRow : Text → Type 0
StepRow = IsRow IsSigned 44 signed_lacks signed_decided

steps_in : (ws : List Text) → AllByRecursion IsSigned ws → (xs : List CertStep) × AllByRecursion IsStep xs × (ws ≡ map step_text xs)
steps_in [] h = ([], tt, refl)
steps_in (w ∷ ws) h =
    let first = step_of w h.0 in
    let rest = steps_in ws h.1 in
    (first.step ∷ rest.0, (first.lawful, rest.1), (λ i. first.spelled i ∷ rest.2 i))

certificate_of : (t : Text) → StepRow t → (xs : List CertStep) × SaysCertificate t xs
certificate_of t p =
    let first = step_of p.front p.first in
    let rest = steps_in p.others p.rest in (
      first.step ∷ rest.0,
      record { some = λ e. cc; steps = (first.lawful, rest.1); spelled = p.parts ∙ (λ i. first.spelled i ++ flat_map (λ (q : Text). (44 ∷ []) ++ q) (rest.2 i)) },
    )

all_said : (xs : List CertStep) → AllByRecursion IsStep xs → AllByRecursion IsSigned (map step_text xs)
all_said [] h = tt
all_said (x ∷ xs) h = (step_said x h.0, all_said xs h.1)

row_of : (t : Text) (xs : List CertStep) → SaysCertificate t xs → StepRow t
row_of t [] s = absurd (s.some refl)
row_of t (x ∷ xs) s = record { front = step_text x; others = map step_text xs; first = step_said x s.steps.0; rest = all_said xs s.steps.1; parts = s.spelled }

row_is_decided : IsDecided StepRow
row_is_decided = row_decided IsSigned 44 signed_lacks signed_decided

begins_certificate : (t : Text) → Decided (BeginsCertificate t)
begins_certificate t = by (row_is_decided.begins t)
  where
    by : Decided (Begins StepRow t) → Decided (BeginsCertificate t)
    by (inl p) = let c = certificate_of (t ++ p.0) p.1 in inl (record { rest = p.0; steps = c.0; says = c.1 })
    by (inr p) = inr (λ b. p (b.rest, row_of (t ++ b.rest) b.steps b.says))

-- the first place where a decided fact ends
record IsLast (P : ℕ → Type 0) (n : ℕ) : Type 0 where
  at : ℕ
  within : at ≤ n
  holds : P at
  ends : at < n → P (suc at) → ⊥

last_place : (P : ℕ → Type 0) → ((k : ℕ) → Decided (P k)) → (fuel k n : ℕ) → n ≡ k + fuel → P k → IsLast P n
last_place P d zero k n e h = record { at = k; within = omega (arith, e); holds = h; ends = λ l q. omega (arith, e, l) }
last_place P d (suc fuel) k n e h = by (d (suc k)) (λ q. last_place P d fuel (suc k) n (omega (arith, e)) q)
  where
    by : Decided (P (suc k)) → (P (suc k) → IsLast P n) → IsLast P n
    by (inl q) on = on q
    by (inr q) on = record { at = k; within = omega (arith, e); holds = h; ends = λ l r. q r }

-- each text says a certificate, or has a first byte that continues none
pub said_or_bad : (text : Text) → ((xs : List CertStep) × SaysCertificate text xs) ⊎ ((at : ℕ) × HasBadStep text at)
said_or_bad text = by (row_is_decided.member text)
  where
    nothing : BeginsCertificate (take 0 text)
    nothing = let c = certificate_of row_is_decided.some.0 row_is_decided.some.1 in record { rest = row_is_decided.some.0; steps = c.0; says = c.1 }

    by : Decided (StepRow text) → ((xs : List CertStep) × SaysCertificate text xs) ⊎ ((at : ℕ) × HasBadStep text at)
    by (inl p) = inl (certificate_of text p)
    by (inr p) =
        let found = last_place (λ k. BeginsCertificate (take k text)) (λ k. begins_certificate (take k text)) (length text) 0 (length text) (omega arith) nothing in
        inr (found.at, record { within = found.within; before = found.holds; no_further = found.ends; none = λ xs s. p (row_of text xs s) })
