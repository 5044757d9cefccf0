-- Parts of texts that are words, keywords and selectors.
use Rattle.std.proofs.Common.{◌≡◌, ℕ, zero, suc, ◌+◌, ◌-◌, ◌<◌, ◌≤◌, true, List, [], ◌∷◌, length, get_or, take, drop, arith, refl, ap, sym, ◌∙◌, le_refl, inl, inr}
use Rattle.std.specs.Prelude.{slice_range}
use Rattle.std.specs.List.{list_all}
use Rattle.std.proofs.lemmas.Bool.{and_from}
use Rattle.std.proofs.lemmas.List.{drop_more}
use Rattle.token_model.specs.Bytes.{is_letter, is_word, is_binary, is_second, Passes, Has}
use Rattle.token_model.specs.Tokens.{IsName, IsKeyword, IsBinary, IsByte}
use Rattle.token_model.proofs.Spans.{IsName-span, IsKeyword-span, IsBinary-span}
use Rattle.text_model.specs.Pieces.{is_colon}
use Rattle.text_model.specs.Literals.{is_identifier, ends_as_keyword, is_keyword, is_operator}

-- the first byte of a part and the others
pub slice_head : (t : List ℕ) (i j : ℕ) → i < j → j ≤ length t → slice_range t i j ≡ get_or t i 0 ∷ slice_range t (i + 1) j
slice_head t i j lt le =
    let one : j - i ≡ suc (j - (i + 1)) = omega arith in
    ap (λ s. take (j - i) s) (drop_more t i 0 (omega arith)) ∙ ap (λ n. take n (get_or t i 0 ∷ drop (i + 1) t)) one

slice_alone : (t : List ℕ) (i j : ℕ) → j ≡ i + 1 → j ≤ length t → slice_range t i j ≡ get_or t i 0 ∷ []
slice_alone t i j e le =
    let none : j - (i + 1) ≡ 0 = omega arith in
    slice_head t i j (omega arith) le ∙ ap (λ m. get_or t i 0 ∷ take m (drop (i + 1) t)) none

-- bytes that are all of a class
words_slice : (t : List ℕ) (n i j : ℕ) → j ≡ i + n → j ≤ length t → ((k : ℕ) → i ≤ k → k < j → Passes is_word t k) → list_all is_word (slice_range t i j) ≡ true
words_slice t zero i j e le h = let none : j - i ≡ 0 = omega arith in ap (λ m. list_all is_word (take m (drop i t))) none
words_slice t (suc n) i j e le h =
    let later = words_slice t n (i + 1) j (omega arith) le (λ k a b. h k (omega arith) b) in
    ap (list_all is_word) (slice_head t i j (omega arith) le) ∙ and_from (is_word (get_or t i 0)) (list_all is_word (slice_range t (i + 1) j)) (h i (le_refl i) (omega arith)) later

pub name_slice : (t : List ℕ) (i j : ℕ) → IsName t i j → is_identifier (slice_range t i j) ≡ true
name_slice t i j h =
    let span = IsName-span t i j h in
    let later = words_slice t (j - (i + 1)) (i + 1) j (omega (arith, h.1.order)) span.inside h.1.all in
    ap is_identifier (slice_head t i j span.some span.inside) ∙ and_from (is_letter (get_or t i 0)) (list_all is_word (slice_range t (i + 1) j)) h.0 later

-- words and a colon behind them
ends_slice : (t : List ℕ) (n i j : ℕ) → j ≡ i + n + 1 → j ≤ length t → ((k : ℕ) → i ≤ k → k < i + n → Passes is_word t k) → Has t (i + n) 58 → ends_as_keyword (slice_range t i j) ≡ true
ends_slice t zero i j e le h c =
    let same : i + 0 ≡ i = omega arith in
    ap ends_as_keyword (slice_alone t i j (omega arith) le) ∙ ap is_colon (ap (λ k. get_or t k 0) (sym same) ∙ c)
ends_slice t (suc n) i j e le h c =
    let same : i + suc n ≡ i + 1 + n = omega arith in
    let later = ends_slice t n (i + 1) j (omega arith) le (λ k a b. h k (omega arith) (omega arith)) (ap (λ k. get_or t k 0) (sym same) ∙ c) in
    let next = slice_head t (i + 1) j (omega arith) le in
    ap ends_as_keyword (slice_head t i j (omega arith) le ∙ ap (λ (s : List ℕ). get_or t i 0 ∷ s) next)
    ∙ and_from (is_word (get_or t i 0)) (ends_as_keyword (get_or t (i + 1) 0 ∷ slice_range t (i + 1 + 1) j)) (h i (le_refl i) (omega arith)) (ap ends_as_keyword (sym next) ∙ later)

pub keyword_slice : (t : List ℕ) (i j : ℕ) → IsKeyword t i j → is_keyword (slice_range t i j) ≡ true
keyword_slice t i j h =
    let span = IsKeyword-span t i j h in
    let name = IsName-span t i h.colon h.name in
    let end : i + 1 + (h.colon - (i + 1)) ≡ h.colon = omega (arith, name.some) in
    let later =
    ends_slice t (h.colon - (i + 1)) (i + 1) j (omega (arith, h.end, end)) span.inside (λ k a b. h.name.1.all k a (omega (arith, end))) (ap (λ k. get_or t k 0) end ∙ h.has_colon.0) in
    ap is_keyword (slice_head t i j span.some span.inside) ∙ and_from (is_letter (get_or t i 0)) (ends_as_keyword (slice_range t (i + 1) j)) h.name.0 later

-- one or two bytes of a binary selector, or a bar
pub binary_slice : (t : List ℕ) (i j : ℕ) → IsBinary t i j → is_operator (slice_range t i j) ≡ true
binary_slice t i j (b, inl h) =
    let span = IsBinary-span t i j (b, inl h) in
    ap is_operator (slice_head t i j span.some span.inside ∙ ap (λ (s : List ℕ). get_or t i 0 ∷ s) (slice_alone t (i + 1) j (omega (arith, h.1)) span.inside)) ∙ and_from (is_binary (get_or t i 0)) (is_second (get_or t (i + 1) 0)) b h.0
binary_slice t i j (b, inr h) =
    let span = IsBinary-span t i j (b, inr h) in
    ap is_operator (slice_alone t i j h.1 span.inside) ∙ (rw b refl)

pub bar_slice : (t : List ℕ) (i j : ℕ) → IsByte 124 t i j → j ≤ length t → is_operator (slice_range t i j) ≡ true
bar_slice t i j h le = ap is_operator (slice_alone t i j h.1 le ∙ ap (λ b. b ∷ []) h.0)
