-- The blanks that a text begins with.
use Rattle.std.proofs.Common.{◌≡◌, ◌≢◌, ℕ, zero, suc, ◌+◌, ◌⊎◌, inl, inr, Bool, true, false, cond, List, [], ◌∷◌, ◌++◌, length, drop, refl, ap, sym, subst, ◌∙◌, arith, ◌||◌, true≢false}
use Rattle.std.specs.Prelude.{◌==◌, if◌then◌else◌}
use Rattle.std.proofs.lemmas.Bool.{eq-eqb}
use Rattle.std.proofs.lemmas.Bool.Decides.{eqb_tells}
use Rattle.std.proofs.lemmas.List.Folds.{list_any-append}
use Rattle.rb_base.specs.Doubling.{IsPaired, Empty, Byte, Pair, doubled}
use Rattle.chunk_format.specs.Blank.{is_blank, blank_len, IsBlank, drop_blanks, HasNoLeadingBlank}
use Rattle.chunk_format.specs.Chunks.{holds_mark}
use Rattle.chunk_format.proofs.Doubles.{doubled-other, mark_or_not}

-- no blank is the mark
blank_other : (b : ℕ) → is_blank b ≡ true → b ≢ 33
blank_other b blank is =
    let P : ℕ → Type 0 = λ y. is_blank y ≡ true in true≢false (sym (subst P is blank))

-- one byte on: a blank is dropped, and any other byte ends the blanks
pub drop_blanks-cons : (b : ℕ) (s : List ℕ) → drop_blanks (b ∷ s) ≡ (if is_blank b then drop_blanks s else b ∷ s)
drop_blanks-cons b s = by (is_blank b)
  where
    by : (t : Bool) → drop (cond t (1 + blank_len s) 0) (b ∷ s) ≡ (if t then drop_blanks s else b ∷ s)
    by true = let e : 1 + blank_len s ≡ suc (blank_len s) = omega arith in ap (λ n. drop n (b ∷ s)) e
    by false = refl

-- what is left without the leading blanks is paired as the whole is
pub IsPaired-drop_blanks : (s : List ℕ) → IsPaired 33 s → IsPaired 33 (drop_blanks s)
IsPaired-drop_blanks s Empty = Empty
IsPaired-drop_blanks s (Byte {b} {s = t} other p) = by (is_blank b) (IsPaired-drop_blanks t p) (drop_blanks-cons b t)
  where
    by : (x : Bool) → IsPaired 33 (drop_blanks t) → drop_blanks (b ∷ t) ≡ (if x then drop_blanks t else b ∷ t) → IsPaired 33 (drop_blanks (b ∷ t))
    by true rest e = subst (IsPaired 33) (sym e) rest
    by false rest e = subst (IsPaired 33) (sym e) (Byte other p)
IsPaired-drop_blanks s (Pair p) = Pair p

-- a text of blanks is one blank and a text of blanks
pub record BlankCons (b : ℕ) (s : List ℕ) : Type 0 where
  pub first : is_blank b ≡ true
  pub rest : IsBlank s

-- a text of blanks begins with one, and goes on with blanks
pub IsBlank-cons : (b : ℕ) (s : List ℕ) → IsBlank (b ∷ s) → BlankCons b s
IsBlank-cons b s h = by (is_blank b) refl h
  where
    by : (t : Bool) → is_blank b ≡ t → cond t (1 + blank_len s) 0 ≡ suc (length s) → BlankCons b s
    by true is e = record { first = is; rest = omega arith }
    by false is e = absurd (omega arith)

-- blanks hold no mark, so no mark stands alone among them
pub IsPaired-IsBlank : (s : List ℕ) → IsBlank s → IsPaired 33 s
IsPaired-IsBlank [] h = Empty
IsPaired-IsBlank (b ∷ s) h =
    let c = IsBlank-cons b s h in Byte (blank_other b c.first) (IsPaired-IsBlank s c.rest)

-- the test of a byte that is not the mark
not_mark : (b : ℕ) → b ≢ 33 → (b == 33) ≡ false
not_mark b other = elim (eqb_tells b 33) [ inl same ↦ absurd (other same.1) | inr differs ↦ differs.0 ]

-- blanks hold no mark
holds_mark-IsBlank : (s : List ℕ) → IsBlank s → holds_mark s ≡ false
holds_mark-IsBlank [] h = refl
holds_mark-IsBlank (b ∷ s) h =
    let c = IsBlank-cons b s h in
    ap (λ t. t || holds_mark s) (not_mark b (blank_other b c.first)) ∙ holds_mark-IsBlank s c.rest

-- writing each mark twice makes no mark, and takes none away
holds_mark-doubled : (s : List ℕ) → holds_mark (doubled 33 s) ≡ holds_mark s
holds_mark-doubled [] = refl
holds_mark-doubled (b ∷ s) = by (holds_mark-doubled s) (mark_or_not 33 b)
  where
    by : holds_mark (doubled 33 s) ≡ holds_mark s → (b ≡ 33) ⊎ (b ≢ 33) → holds_mark (doubled 33 (b ∷ s)) ≡ holds_mark (b ∷ s)
    by rest (inl same) =
        let P : ℕ → Type 0 = λ y. holds_mark (doubled 33 (y ∷ s)) ≡ holds_mark (y ∷ s) in subst P (sym same) refl
    by rest (inr other) = ap holds_mark (doubled-other 33 b s other) ∙ ap (λ t. (b == 33) || t) rest

-- a written source behind blanks holds the mark where the source does
pub holds_mark-written : (blanks s : List ℕ) → IsBlank blanks → holds_mark s ≡ holds_mark (blanks ++ doubled 33 s)
holds_mark-written blanks s h =
    sym (list_any-append (λ b. b == 33) blanks (doubled 33 s) ∙ ap (λ t. t || holds_mark (doubled 33 s)) (holds_mark-IsBlank blanks h) ∙ holds_mark-doubled s)

-- blanks in front are dropped
pub drop_blanks-append : (blanks s : List ℕ) → IsBlank blanks → drop_blanks (blanks ++ s) ≡ drop_blanks s
drop_blanks-append [] s h = refl
drop_blanks-append (b ∷ blanks) s h =
    let c = IsBlank-cons b blanks h in
    drop_blanks-cons b (blanks ++ s) ∙ ap (λ t. if t then drop_blanks (blanks ++ s) else b ∷ (blanks ++ s)) c.first ∙ drop_blanks-append blanks s c.rest

-- a source that begins with no blank is written as a text that begins with none
pub drop_blanks-doubled : (s : List ℕ) → HasNoLeadingBlank s → drop_blanks (doubled 33 s) ≡ doubled 33 s
drop_blanks-doubled [] h = refl
drop_blanks-doubled (b ∷ s) h = by (mark_or_not 33 b)
  where
    not_blank : (t : Bool) → is_blank b ≡ t → cond t (1 + blank_len s) 0 ≡ 0 → is_blank b ≡ false
    not_blank true is e = absurd (omega arith)
    not_blank false is e = is

    by : (b ≡ 33) ⊎ (b ≢ 33) → drop_blanks (doubled 33 (b ∷ s)) ≡ doubled 33 (b ∷ s)
    by (inl same) =
        let P : ℕ → Type 0 = λ y. drop_blanks (doubled 33 (y ∷ s)) ≡ doubled 33 (y ∷ s) in subst P (sym same) refl
    by (inr other) =
        ap drop_blanks (doubled-other 33 b s other) ∙ drop_blanks-cons b (doubled 33 s) ∙ ap (λ t. if t then drop_blanks (doubled 33 s) else b ∷ doubled 33 s) (not_blank (is_blank b) refl h) ∙ sym (doubled-other 33 b s other)

-- a text that holds no mark has another first byte
plain_cons : (b : ℕ) (s : List ℕ) → holds_mark (b ∷ s) ≡ false → (b ≢ 33) × (holds_mark s ≡ false)
plain_cons b s h = by (mark_or_not 33 b)
  where
    by : (b ≡ 33) ⊎ (b ≢ 33) → (b ≢ 33) × (holds_mark s ≡ false)
    by (inl same) = absurd (true≢false (ap (λ t. t || holds_mark s) (sym (eq-eqb b 33 same)) ∙ h))
    by (inr other) = (other, ap (λ t. t || holds_mark s) (sym (not_mark b other)) ∙ h)

-- what is left of a text that holds no mark holds none
pub holds_mark-drop : (n : ℕ) (s : List ℕ) → holds_mark s ≡ false → holds_mark (drop n s) ≡ false
holds_mark-drop zero s h = h
holds_mark-drop (suc n) [] h = refl
holds_mark-drop (suc n) (b ∷ s) h = holds_mark-drop n s (plain_cons b s h).1

-- a text that holds no mark is written as it is
pub doubled-plain : (s : List ℕ) → holds_mark s ≡ false → doubled 33 s ≡ s
doubled-plain [] h = refl
doubled-plain (b ∷ s) h = let c = plain_cons b s h in doubled-other 33 b s c.0 ∙ ap (λ t. b ∷ t) (doubled-plain s c.1)
