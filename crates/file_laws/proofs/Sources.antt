-- The source of a chunk begins with no blank.
use Rattle.std.proofs.Common.{◌≡◌, ◌≢◌, ℕ, ◌+◌, Bool, true, false, cond, List, [], ◌∷◌, refl, sym, ap, subst, ◌∙◌, true≢false}
use Rattle.std.specs.Prelude.{if◌then◌else◌}
use Rattle.rb_base.specs.Doubling.{doubled}
use Rattle.chunk_format.specs.Blank.{is_blank, blank_len, drop_blanks, HasNoLeadingBlank}
use Rattle.chunk_format.specs.Source.{IsSource}
use Rattle.chunk_format.proofs.Blanks.{drop_blanks-cons}
use Rattle.chunk_format.proofs.Doubles.{doubled-other}

-- a blank is not the mark
blank_is_other : (b : ℕ) → is_blank b ≡ true → b ≢ 33
blank_is_other b h e = true≢false (sym (subst (λ (c : ℕ). is_blank c ≡ true) e h))

-- behind the blanks of a body stands no blank
no_blank_behind : (body : List ℕ) (b : ℕ) (s : List ℕ) → drop_blanks body ≡ b ∷ s → is_blank b ≡ false
no_blank_behind [] b s e = absurd (cc)
no_blank_behind (c ∷ body) b s e = by (is_blank c) refl (sym (drop_blanks-cons c body) ∙ e) (no_blank_behind body b s)
  where
    by : (t : Bool) → is_blank c ≡ t → (if t then drop_blanks body else c ∷ body) ≡ b ∷ s → (drop_blanks body ≡ b ∷ s → is_blank b ≡ false) → is_blank b ≡ false
    by true k h rest = rest h
    by false k h rest = let same : c ≡ b = cc in subst (λ (x : ℕ). is_blank x ≡ false) same k

-- the source of a chunk
pub source_begins : (body source : List ℕ) → IsSource body source → HasNoLeadingBlank source
source_begins body [] e = refl
source_begins body (b ∷ s) e = by (is_blank b) refl
  where
    by : (t : Bool) → is_blank b ≡ t → blank_len (b ∷ s) ≡ 0
    by true k = absurd (true≢false (sym k ∙ no_blank_behind body b (doubled 33 s) (sym e ∙ doubled-other 33 b s (blank_is_other b k))))
    by false k = ap (λ (t : Bool). cond t (1 + blank_len s) 0) k
