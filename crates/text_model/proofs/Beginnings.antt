-- The first byte of a canonical text.
use Rattle.std.proofs.Common.{◌≡◌, refl, sym, ap, subst, inl, inr, ℕ, ◌<◌, true, false, ◌||◌, ◌==◌, List, [], ◌∷◌, ◌++◌, length, slice_index, arith}
use Rattle.std.proofs.lemmas.Bool.{cases_Bool, eqb-true, or_cases}
use Rattle.std.specs.List.{onto_first}
use Rattle.token_model.specs.Bytes.{is_blank, is_letter, is_binary}
use Rattle.tree_model.specs.Tree.{MethodOf}
use Rattle.text_model.specs.Pieces.{is_colon, keywords_of, pieces_in_turn, pieces_joined}
use Rattle.text_model.specs.Literals.{is_selector}
use Rattle.text_model.specs.Whole.{pattern_text, canonical_method}
use Rattle.text_model.proofs.KeywordRows.{keywords_row}

-- the list begins with this byte
abbrev Begins : ℕ → List ℕ → Type 0
Begins b s = (rest : List ℕ) × (s ≡ b ∷ rest)

-- the first piece begins with this byte
abbrev FirstBegins : ℕ → List (List ℕ) → Type 0
FirstBegins b [] = ⊥
FirstBegins b (p ∷ ps) = Begins b p

-- a byte that was put in front of the first piece
FirstBegins-onto_first : (b : ℕ) (ps : List (List ℕ)) → FirstBegins b (onto_first b ps)
FirstBegins-onto_first b [] = ([], refl)
FirstBegins-onto_first b (p ∷ ps) = (p, refl)

-- a selector's first keyword begins as the selector does
FirstBegins-keywords_of : (b : ℕ) (s : List ℕ) → FirstBegins b (keywords_of (b ∷ s))
FirstBegins-keywords_of b s =
    elim (cases_Bool (is_colon b)) [ inl h ↦ rw h ([], refl) | inr h ↦ rw h (FirstBegins-onto_first b (keywords_of s)) ]

-- what begins with a byte goes on beginning with it
Begins-append : (b : ℕ) (s t : List ℕ) → Begins b s → Begins b (s ++ t)
Begins-append b s t (rest, e) = (rest ++ t, ap (λ u. u ++ t) e)

-- so does a pattern
Begins-joined : (b : ℕ) (mark : List ℕ) (ps qs : List (List ℕ)) → FirstBegins b ps → Begins b (pieces_joined mark (pieces_in_turn ps qs))
Begins-joined b mark [] qs h = absurd h
Begins-joined b mark (p ∷ ps) [] h = Begins-append b p _ h
Begins-joined b mark (p ∷ ps) (q ∷ qs) h = Begins-append b p _ h

-- a canonical text begins as the selector does
pub Begins-canonical_method : (b : ℕ) (s : List ℕ) (m : MethodOf (List ℕ)) → m.selector ≡ b ∷ s → Begins b (canonical_method m)
Begins-canonical_method b s m e =
    Begins-append b (pattern_text m.selector m.arguments) _
    (rw e (Begins-joined b (32 ∷ []) (keywords_of (b ∷ s)) m.arguments (FirstBegins-keywords_of b s)))

-- the byte begins no selector
abbrev BeginsNone : ℕ → Type 0
BeginsNone b = (is_letter b ≡ false) × (is_binary b ≡ false) × ((b == 124) ≡ false)

-- a blank begins no selector
BeginsNone-blank : (b : ℕ) → is_blank b ≡ true → BeginsNone b
BeginsNone-blank b h =
    elim (or_cases (b == 9 || b == 10 || b == 12 || b == 13) (b == 32) h) [
      | inr e ↦ at 32 e (refl, refl, refl)
      | inl g ↦ elim (or_cases (b == 9 || b == 10 || b == 12) (b == 13) g) [
        | inr e ↦ at 13 e (refl, refl, refl)
        | inl f ↦ elim (or_cases (b == 9 || b == 10) (b == 12) f) [
          | inr e ↦ at 12 e (refl, refl, refl)
          | inl d ↦ elim (or_cases (b == 9) (b == 10) d) [
            | inr e ↦ at 10 e (refl, refl, refl)
            | inl e ↦ at 9 e (refl, refl, refl)
          ]
        ]
      ]
    ]
  where
    at : (n : ℕ) → (b == n) ≡ true → BeginsNone n → BeginsNone b
    at n e p = subst BeginsNone (sym (eqb-true b n e)) p

-- no selector begins with such a byte
is_selector-none : (b : ℕ) (s : List ℕ) → BeginsNone b → is_selector (b ∷ s) ≡ false
is_selector-none b [] (l, p, q) = rw (keywords_row (b ∷ []), l, p, q) refl
is_selector-none b (c ∷ []) (l, p, q) = rw (keywords_row (b ∷ c ∷ []), l, p) refl
is_selector-none b (c ∷ d ∷ s) (l, p, q) = rw (keywords_row (b ∷ c ∷ d ∷ s), l) refl

-- a selector begins with no blank
pub is_blank-selector : (b : ℕ) (s : List ℕ) → is_selector (b ∷ s) ≡ true → is_blank b ≡ false
is_blank-selector b s h =
    elim (cases_Bool (is_blank b)) [ inl e ↦ let none = is_selector-none b s (BeginsNone-blank b e) in cc | inr e ↦ e ]

-- the law
pub begins_with_no_blank_lem : (m : MethodOf (List ℕ)) → is_selector m.selector ≡ true → (0 < length (canonical_method m)) × (is_blank (slice_index (canonical_method m) 0) ≡ false)
begins_with_no_blank_lem m h = of m.selector refl
  where
    of : (s : List ℕ) → m.selector ≡ s → (0 < length (canonical_method m)) × (is_blank (slice_index (canonical_method m) 0) ≡ false)
    of [] e = let none = rw e at h in cc
    of (b ∷ s) e =
        let text = Begins-canonical_method b s m e in
        let good = rw e at h in
        rw text.1 (omega arith, is_blank-selector b s good)
