-- Bytes of a text from a place on.
use Rattle.std.proofs.Common.{◌≡◌, ◌≢◌, ℕ, zero, suc, ◌+◌, ◌-◌, ◌<◌, ◌≤◌, inl, inr, Bool, true, false, ◌&&◌, ◌||◌, [], ◌∷◌, ◌++◌, length, get_or, take, drop, arith, refl, ap, sym, subst, ◌∙◌, append_assoc}
use Rattle.std.specs.Prelude.{slice_range, not, ◌==◌}
use Rattle.std.specs.List.{list_all}
use Rattle.std.proofs.lemmas.Bool.{and_parts, or_cases, or_parts, or_from, eqb-true, ne_eqb, false≢true}
use Rattle.std.proofs.lemmas.List.{get_or-append-add, length-append, take_at, take-append-le, drop_at, get_or_append_left}
use Rattle.token_model.specs.Bytes.{is_blank, is_between, is_digit, is_upper, is_letter, is_word, is_second, is_radix_digit, IsRun}
use Rattle.token_model.proofs.Leads.{other_byte}
use Rattle.grammar_model.specs.Terminal.{Text}
use Rattle.reread_law.proofs.Copies.{IsCopy, EndsNumeral}

-- from a place on these bytes stand up to the end of the text
pub record At (t : Text) (i : ℕ) (r : Text) : Type 0 where
  pub front : Text
  pub split : t ≡ front ++ r
  pub place : i ≡ length front

-- behind some of the bytes
pub behind : {t : Text} {i : ℕ} (w s : Text) → At t i (w ++ s) → At t (i + length w) s
behind {t} {i} w s a = record {
  front = a.front ++ w;
  split = a.split ∙ sym (append_assoc a.front w s);
  place = omega (arith, a.place, length-append a.front w);
}

-- the same bytes
pub same_bytes : {t : Text} {i : ℕ} (r s : Text) → r ≡ s → At t i r → At t i s
same_bytes {t} {i} r s e a = subst (At t i) e a

-- one of the bytes
pub byte_at : {t : Text} {i : ℕ} {r : Text} → At t i r → (k : ℕ) → get_or t (i + k) 0 ≡ get_or r k 0
byte_at {t} {i} {r} a k = (λ j. get_or (a.split j) (a.place j + k) 0) ∙ get_or-append-add a.front r k 0

-- the first of the bytes
pub first_at : {t : Text} {i : ℕ} {r : Text} → At t i r → get_or t i 0 ≡ get_or r 0 0
first_at {t} {i} {r} a = let e : i + 0 ≡ i = omega arith in ap (λ k. get_or t k 0) (sym e) ∙ byte_at a 0

-- the length of the text
pub length_at : {t : Text} {i : ℕ} {r : Text} → At t i r → length t ≡ i + length r
length_at {t} {i} {r} a = ap length a.split ∙ length-append a.front r ∙ ap (λ n. n + length r) (sym a.place)

-- the bytes in front of others
pub range_at : {t : Text} {i : ℕ} (w s : Text) → At t i (w ++ s) → slice_range t i (i + length w) ≡ w
range_at {t} {i} w s a =
    let e : i + length w - i ≡ length w = omega arith in
    ap (λ n. take n (drop i t)) e ∙ (λ j. take (length w) (drop (a.place j) (a.split j))) ∙ ap (take (length w)) (drop_at a.front (w ++ s) (length a.front) refl) ∙ take_at w s (length w) refl

-- a run of some of the bytes
pub run_at : {t : Text} {i : ℕ} {r : Text} (p : ℕ → Bool) → At t i r → (m n : ℕ) → m ≤ n → ((k : ℕ) → m ≤ k → k < n → p (get_or r k 0) ≡ true) → p (get_or r n 0) ≡ false → IsRun p t (i + m) (i + n)
run_at {t} {i} {r} p a m n le all stops = record {
  order = omega arith;
  all = λ k x y.
      let e : i + (k - i) ≡ k = omega arith in
      ap (λ j. p (get_or t j 0)) (sym e) ∙ ap p (byte_at a (k - i)) ∙ all (k - i) (omega arith) (omega arith);
  stops = ap p (byte_at a n) ∙ stops;
}

-- bytes of a class
pub all_at : (p : ℕ → Bool) (w s : Text) (k : ℕ) → list_all p w ≡ true → k < length w → p (get_or (w ++ s) k 0) ≡ true
all_at p [] s k h lt = absurd (omega arith)
all_at p (b ∷ w) s zero h lt = (and_parts (p b) (list_all p w) h).0
all_at p (b ∷ w) s (suc k) h lt = all_at p w s k (and_parts (p b) (list_all p w) h).1 (omega arith)

-- the first byte behind some
pub first_behind : (w s : Text) → get_or (w ++ s) (length w) 0 ≡ get_or s 0 0
first_behind w s = let e : length w + 0 ≡ length w = omega arith in ap (λ k. get_or (w ++ s) k 0) (sym e) ∙ get_or-append-add w s 0 0

-- the bytes in front of others are a copy
pub copy_at : {t : Text} {i : ℕ} (w s : Text) → At t i (w ++ s) → IsCopy t i w 0 (length w)
copy_at {t} {i} w s a = record {
  bytes = λ k lt. let e : 0 + k ≡ k = omega arith in byte_at a k ∙ get_or_append_left w s 0 k lt ∙ ap (λ m. get_or w m 0) (sym e);
  ranges = λ k le.
      let e : i + k - i ≡ k = omega arith in
      let f : 0 + k - 0 ≡ k = omega arith in
      ap (λ n. take n (drop i t)) e ∙ (λ j. take k (drop (a.place j) (a.split j))) ∙ ap (take k) (drop_at a.front (w ++ s) (length a.front) refl) ∙ take-append-le k w s le ∙ ap (λ n. take n w) (sym f);
}

-- a byte that ends each token before it: a blank, a line feed, ) ] ; or }
abbrev pub is_mark : ℕ → Bool
is_mark b = b == 32 || b == 10 || b == 41 || b == 93 || b == 59 || b == 125

-- what stands behind an expression: such a mark, a period that is no fraction's, or nothing
abbrev pub ends : Text → Bool
ends [] = true
ends (b ∷ s) = is_mark b || (b == 46 && not (is_digit (get_or s 0 0)))

-- what follows of that
pub record Ends (s : Text) : Type 0 where
  pub word : is_word (get_or s 0 0) ≡ false
  pub second : is_second (get_or s 0 0) ≡ false
  pub colon : get_or s 0 0 ≢ 58
  pub quote : get_or s 0 0 ≢ 39
  pub fraction : get_or s 0 0 ≡ 46 → is_digit (get_or s 1 0) ≡ false

-- such a mark
ends_mark : (b n : ℕ) (s : Text) → is_word n ≡ false → is_second n ≡ false → n ≢ 58 → n ≢ 39 → n ≢ 46 → (b == n) ≡ true → Ends (b ∷ s)
ends_mark b n s w x c q f e =
    let is : n ≡ b = sym (eqb-true b n e) in
    record { word = ap is_word (sym is) ∙ w; second = ap is_second (sym is) ∙ x; colon = λ h. c (is ∙ h); quote = λ h. q (is ∙ h); fraction = λ h. absurd (f (is ∙ h)) }

-- what stands behind an expression ends each token
pub ends_all : (s : Text) → ends s ≡ true → Ends s
ends_all [] h = record { word = refl; second = refl; colon = λ e. omega arith; quote = λ e. omega arith; fraction = λ e. absurd (omega arith) }
ends_all (b ∷ s) h =
    elim (or_cases (is_mark b) (b == 46 && not (is_digit (get_or s 0 0))) h) [
      | inr g ↦
          let parts = and_parts (b == 46) (not (is_digit (get_or s 0 0))) g in
          let is : 46 ≡ b = sym (eqb-true b 46 parts.0) in
          record { word = ap is_word (sym is); second = ap is_second (sym is); colon = λ e. omega arith; quote = λ e. omega arith; fraction = λ e. not_digit (is_digit (get_or s 0 0)) parts.1 }
      | inl g ↦ elim (or_cases (b == 32 || b == 10 || b == 41 || b == 93 || b == 59) (b == 125) g) [
        | inr e ↦ ends_mark b 125 s refl refl (omega arith) (omega arith) (omega arith) e
        | inl g ↦ elim (or_cases (b == 32 || b == 10 || b == 41 || b == 93) (b == 59) g) [
          | inr e ↦ ends_mark b 59 s refl refl (omega arith) (omega arith) (omega arith) e
          | inl g ↦ elim (or_cases (b == 32 || b == 10 || b == 41) (b == 93) g) [
            | inr e ↦ ends_mark b 93 s refl refl (omega arith) (omega arith) (omega arith) e
            | inl g ↦ elim (or_cases (b == 32 || b == 10) (b == 41) g) [
              | inr e ↦ ends_mark b 41 s refl refl (omega arith) (omega arith) (omega arith) e
              | inl g ↦ elim (or_cases (b == 32) (b == 10) g) [
                | inr e ↦ ends_mark b 10 s refl refl (omega arith) (omega arith) (omega arith) e
                | inl e ↦ ends_mark b 32 s refl refl (omega arith) (omega arith) (omega arith) e
              ]
            ]
          ]
        ]
      ]
    ]
  where
    not_digit : (d : Bool) → not d ≡ true → d ≡ false
    not_digit true e = absurd (false≢true e)
    not_digit false e = refl

-- a byte of a class that holds no blank is none
pub no_blank : (p : ℕ → Bool) (b : ℕ) → p b ≡ true → p 9 ≡ false → p 10 ≡ false → p 12 ≡ false → p 13 ≡ false → p 32 ≡ false → is_blank b ≡ false
no_blank p b h a c d e f =
    rw (ne_eqb b 9 (other_byte p b 9 h a), ne_eqb b 10 (other_byte p b 10 h c), ne_eqb b 12 (other_byte p b 12 h d), ne_eqb b 13 (other_byte p b 13 h e), ne_eqb b 32 (other_byte p b 32 h f)) refl

-- behind what ends each token no numeral goes on
pub ends_numeral : {t : Text} {i : ℕ} {s : Text} → At t i s → Ends s → EndsNumeral t i
ends_numeral {t} {i} {s} a e =
    let first = first_at a in
    let parts = or_parts (is_letter (get_or s 0 0)) (is_digit (get_or s 0 0)) e.word in
    let letters = or_parts (is_upper (get_or s 0 0)) (is_between 97 122 (get_or s 0 0)) parts.0 in
    record {
      digit = ap is_digit first ∙ parts.1;
      radix = ap is_radix_digit first ∙ or_from (is_digit (get_or s 0 0)) (is_upper (get_or s 0 0)) parts.1 letters.0;
      no_r = λ h. false≢true (sym e.word ∙ ap is_word (sym first ∙ h));
      no_e = λ h. false≢true (sym e.word ∙ ap is_word (sym first ∙ h));
      no_fraction = λ h. false≢true (sym (ap is_digit (byte_at a 1) ∙ e.fraction (sym first ∙ h.0)) ∙ h.1);
    }
