-- The texts of messages and patterns, by the selectors' kinds.
use Rattle.std.proofs.Common.{◌≡◌, ℕ, Bool, true, false, ◌||◌, List, [], ◌∷◌, ◌++◌, inl, inr, refl, ap, sym, subst, ◌∙◌, append_assoc}
use Rattle.std.specs.Prelude.{◌==◌}
use Rattle.std.specs.List.{list_all}
use Rattle.std.proofs.lemmas.Bool.{and_parts, or_cases, or_from, or_right, or_left, eqb-true, ne_eqb, false≢true}
use Rattle.std.proofs.lemmas.List.{append-nil}
use Rattle.std.proofs.lemmas.List.Folds.{list_any-append}
use Rattle.token_model.specs.Bytes.{is_letter, is_word, is_binary, is_second}
use Rattle.token_model.proofs.Leads.{other_byte}
use Rattle.tree_model.specs.Tree.{TreesOf}
use Rattle.text_model.specs.Pieces.{pieces_behind, pieces_in_turn, is_colon, keywords_of, has_colon}
use Rattle.text_model.specs.Literals.{is_operator}
use Rattle.text_model.specs.Expressions.{message_text}
use Rattle.text_model.proofs.PieceLemmas.{keywords_of-colon, keywords_of-plain}
use Rattle.grammar_model.specs.Terminal.{Text}
use Rattle.reread_law.specs.WellFormed.{IsWord, IsKeywordText, AreParts, LastOne, OneBefore}

-- a byte of a class that the colon is not in
not_colon : (p : ℕ → Bool) (b : ℕ) → p b ≡ true → p 58 ≡ false → is_colon b ≡ false
not_colon p b h e = ne_eqb b 58 (other_byte p b 58 h e)

-- no colon among the bytes of such a class
none_colon : (w : Text) → list_all is_word w ≡ true → has_colon w ≡ false
none_colon [] h = refl
none_colon (b ∷ w) h =
    let p = and_parts (is_word b) (list_all is_word w) h in or_from (is_colon b) (has_colon w) (not_colon is_word b p.0 refl) (none_colon w p.1)

-- an identifier has no colon
pub word_colon : (n : Text) → IsWord n → has_colon n ≡ false
word_colon [] h = refl
word_colon (b ∷ w) h =
    let p = and_parts (is_letter b) (list_all is_word w) h in or_from (is_colon b) (has_colon w) (not_colon is_letter b p.0 refl) (none_colon w p.1)

-- a binary selector has no colon
pub operator_colon : (s : Text) → is_operator s ≡ true → has_colon s ≡ false
operator_colon [] h = refl
operator_colon (b ∷ []) h = elim (or_cases (is_binary b) (b == 124) h) [
  | inl g ↦ or_from (is_colon b) false (not_colon is_binary b g refl) refl
  | inr g ↦ ap (λ x. has_colon (x ∷ [])) (eqb-true b 124 g)
]
operator_colon (b ∷ c ∷ []) h =
    let p = and_parts (is_binary b) (is_second c) h in
    let q = and_parts (is_binary c) _ p.1 in
    or_from (is_colon b) (is_colon c || false) (not_colon is_binary b p.0 refl) (or_from (is_colon c) false (not_colon is_binary c q.0 refl) refl)
operator_colon (b ∷ c ∷ d ∷ s) h = absurd (false≢true h)

-- a keyword has one
keyword_colon : (k : Text) → IsKeywordText k → has_colon k ≡ true
keyword_colon k h = ap has_colon h.is ∙ list_any-append is_colon h.name (58 ∷ []) ∙ or_right (has_colon h.name) true refl

-- so have keywords joined
pub parts_colon : {xs : TreesOf Text} (s : Text) → AreParts s xs → has_colon s ≡ true
parts_colon s (LastOne h) = keyword_colon s h
parts_colon s (OneBefore {k} {s = r} h g) = list_any-append is_colon k r ∙ or_left (has_colon k) (has_colon r) (keyword_colon k h)

-- a selector without a colon is one piece
pub one_piece : (s : Text) → (s ≡ [] → ⊥) → has_colon s ≡ false → keywords_of s ≡ s ∷ []
one_piece [] some h = absurd (some refl)
one_piece (b ∷ w) some h = keywords_of-plain b w h

-- an identifier is not empty
pub word_some : (n : Text) → IsWord n → n ≡ [] → ⊥
word_some n h e = false≢true (subst IsWord e h)

-- nor is a binary selector
pub operator_some : (s : Text) → is_operator s ≡ true → s ≡ [] → ⊥
operator_some s h e = false≢true (subst (λ x. is_operator x ≡ true) e h)

-- a keyword is one piece before others
pub keyword_piece : (k s : Text) → IsKeywordText k → keywords_of (k ++ s) ≡ k ∷ keywords_of s
keyword_piece k s h =
    ap keywords_of (ap (λ x. x ++ s) h.is ∙ append_assoc h.name (58 ∷ []) s) ∙ keywords_of-colon h.name s (word_colon h.name h.word) ∙ ap (λ x. x ∷ keywords_of s) (sym h.is)

-- a keyword alone is one piece
pub keyword_alone : (k : Text) → IsKeywordText k → keywords_of k ≡ k ∷ []
keyword_alone k h = ap keywords_of (sym (append-nil k)) ∙ keyword_piece k [] h

-- the text of a unary message
pub unary_text : (s : Text) → IsWord s → message_text s [] ≡ 32 ∷ s
unary_text s h = ap (λ ps. pieces_behind (32 ∷ []) (pieces_in_turn ps [])) (one_piece s (word_some s h) (word_colon s h)) ∙ append-nil (32 ∷ s)

-- the text of a binary message
pub binary_text : (s x : Text) → is_operator s ≡ true → message_text s (x ∷ []) ≡ 32 ∷ (s ++ 32 ∷ x)
binary_text s x h = ap (λ ps. pieces_behind (32 ∷ []) (pieces_in_turn ps (x ∷ []))) (one_piece s (operator_some s h) (operator_colon s h)) ∙ ap (λ y. 32 ∷ (s ++ y)) (append-nil (32 ∷ x))

-- the text of the last keyword and its argument
pub last_text : (k x : Text) → IsKeywordText k → message_text k (x ∷ []) ≡ 32 ∷ (k ++ 32 ∷ x)
last_text k x h = ap (λ ps. pieces_behind (32 ∷ []) (pieces_in_turn ps (x ∷ []))) (keyword_alone k h) ∙ ap (λ y. 32 ∷ (k ++ y)) (append-nil (32 ∷ x))

-- the text of a keyword and its argument before others
pub before_text : (k s x : Text) (xs : List Text) → IsKeywordText k → message_text (k ++ s) (x ∷ xs) ≡ 32 ∷ (k ++ 32 ∷ (x ++ message_text s xs))
before_text k s x xs h = ap (λ ps. pieces_behind (32 ∷ []) (pieces_in_turn ps (x ∷ xs))) (keyword_piece k s h)
