-- Where a metavariable begins, and where none.
use Rattle.std.proofs.Common.{◌≡◌, ℕ, ◌⊎◌, inl, inr, true, false, get_or, refl, sym, ◌∙◌, ap, subst, arith}
use Rattle.std.proofs.lemmas.Bool.Decides.{nat_tests}
use Rattle.token_model.specs.Bytes.{is_blank, is_letter, Passes, IsRun}
use Rattle.token_model.specs.TokenLists.{Piece, IsNext, IsNextFault}
use Rattle.token_model.specs.declared.kind.Dialect.TheVariants.{Second}
use Rattle.token_model.specs.declared.kind.TokenKind.{TokenKind}
use Rattle.token_model.specs.declared.kind.TokenKind.TheVariants.{Identifier, Keyword}
use Rattle.token_model.specs.declared.fault.LexFault.{LexFault}
use Rattle.token_model.proofs.Exist.{word_begins}
use Rattle.token_model.proofs.Lists.{IsNext-same, next_or_fault}
use Rattle.grammar_model.specs.Terminal.{Text}
use Rattle.grammar_model.specs.PatternTokens.{mark_at, behind_mark, IsMeta}
use Rattle.grammar_model.proofs.MetaTokens.{meta_letter}

-- a letter is no blank
letter_blank : (b : ℕ) → is_letter b ≡ true → is_blank b ≡ false
letter_blank b h = grind (arith, nat_tests)

-- a token that begins with a letter is a word
abbrev IsWord : Piece → Type 0
IsWord p = (p.kind ≡ Identifier) ⊎ (p.kind ≡ Keyword)

-- where a letter stands, a word comes next
letter_next : (t : Text) (i : ℕ) → Passes is_letter t i → (p : Piece) × (p.from ≡ i) × IsWord p × IsNext Second t i p
letter_next t i letter =
    let blanks : IsRun is_blank t i i = record { order = omega arith; all = λ k low high. absurd (omega (arith, low, high)); stops = letter_blank (get_or t i 0) letter } in
    elim (word_begins t i letter) [
      | inl (j, word) ↦ (record { kind = Identifier; from = i; to = j }, refl, inl refl, record { blanks = blanks; token = word })
      | inr (j, word) ↦ (record { kind = Keyword; from = i; to = j }, refl, inr refl, record { blanks = blanks; token = word })
    ]

-- where no token comes next behind the marks, there is no metavariable
pub none_at_fault : (t : Text) (from place : ℕ) (fault : LexFault) → place ≡ behind_mark t (mark_at t from) → IsNextFault Second t place fault → (kind : TokenKind) (to : ℕ) → ¬ IsMeta kind t from to
none_at_fault t from place fault at fails kind to meta =
    let word = letter_next t (behind_mark t (mark_at t from)) (meta_letter kind t from to meta) in
    next_or_fault Second t (behind_mark t (mark_at t from)) word.0 fault word.3 (subst (λ i. IsNextFault Second t i fault) at fails)

-- behind the marks of a metavariable a word comes next, with no blanks before it
pub word_of_meta : (t : Text) (from place : ℕ) (p : Piece) → place ≡ behind_mark t (mark_at t from) → IsNext Second t place p → (kind : TokenKind) (to : ℕ) → IsMeta kind t from to → (p.from ≡ place) × ((p.kind ≡ Identifier) ⊎ (p.kind ≡ Keyword))
word_of_meta t from place p at next kind to meta =
    let word = letter_next t (behind_mark t (mark_at t from)) (meta_letter kind t from to meta) in
    let same = IsNext-same Second t (behind_mark t (mark_at t from)) word.0 p word.3 (subst (λ i. IsNext Second t i p) at next) in
    (sym (ap (λ x. x.from) same) ∙ word.1 ∙ sym at, subst IsWord same word.2)
