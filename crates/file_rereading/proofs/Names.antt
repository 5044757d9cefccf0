-- The names in a string, with one blank between them, are its words.
use Rattle.std.proofs.Common.{◌≡◌, ◌≢◌, ℕ, ◌+◌, ◌||◌, Bool, true, false, not, cond, List, [], ◌∷◌, ◌++◌, length, filter, refl, ap, ◌∙◌, arith, append-nil}
use Rattle.std.specs.Prelude.{codes, ◌==◌, flat_map, IsTrue}
use Rattle.std.specs.List.{slice_split, list_all, onto_first, AllByRecursion}
use Rattle.std.proofs.lemmas.Bool.{and_parts, and_from, ne_eqb}
use Rattle.std.proofs.lemmas.Bool.{false≢true}
use Rattle.token_model.specs.Bytes.{is_letter, is_word}
use Rattle.chunk_format.specs.Blank.{is_blank, blank_len, HasNoLeadingBlank}
use Rattle.text_model.specs.Pieces.{pieces_joined}
use Rattle.text_model.specs.Literals.{is_identifier}
use Rattle.reread_law.proofs.Bytes.{no_blank}
use Rattle.scope_model.specs.SpecialNames.{is_pseudo_variable}
use Rattle.file_model.specs.Words.{words_of, is_global, may_name, may_name_all}
use Rattle.file_model.specs.Filing.{Text}

-- a name may be given
abbrev pub MayName : Text → Type 0
MayName n = IsTrue (may_name n)

-- a name that may be given is an identifier
pub identifier_of : (n : Text) → MayName n → is_identifier n ≡ true
identifier_of n h = (and_parts (is_identifier n) (not (is_pseudo_variable n || is_global n)) h).0

-- no letter is a blank, and no digit
letter_no_blank : (b : ℕ) → is_letter b ≡ true → is_blank b ≡ false
letter_no_blank b h = no_blank is_letter b h refl refl refl refl refl

word_no_blank : (b : ℕ) → is_word b ≡ true → is_blank b ≡ false
word_no_blank b h = no_blank is_word b h refl refl refl refl refl

-- bytes that are no blanks
abbrev NoBlanks : Text → Type 0
NoBlanks s = AllByRecursion (λ b. is_blank b ≡ false) s

words_no_blanks : (s : Text) → list_all is_word s ≡ true → NoBlanks s
words_no_blanks [] h = tt
words_no_blanks (b ∷ s) h = let p = and_parts (is_word b) (list_all is_word s) h in (word_no_blank b p.0, words_no_blanks s p.1)

identifier_no_blanks : (n : Text) → is_identifier n ≡ true → NoBlanks n
identifier_no_blanks [] h = tt
identifier_no_blanks (b ∷ s) h = let p = and_parts (is_letter b) (list_all is_word s) h in (letter_no_blank b p.0, words_no_blanks s p.1)

-- an identifier before other text begins with no blank and no mark
pub begins_no_blank : (n s : Text) → is_identifier n ≡ true → HasNoLeadingBlank (n ++ s)
begins_no_blank [] s h = absurd (false≢true h)
begins_no_blank (b ∷ w) s h = ap (λ (t : Bool). cond t (1 + blank_len (w ++ s)) 0) (letter_no_blank b (and_parts (is_letter b) (list_all is_word w) h).0)

pub is_not_empty : (n s : Text) → is_identifier n ≡ true → n ++ s ≢ []
is_not_empty [] s h = absurd (false≢true h)
is_not_empty (b ∷ w) s h = λ e. cc

-- a text without blanks before a blank, and at the end
split_before : (w s : Text) → NoBlanks w → slice_split is_blank (w ++ 32 ∷ s) ≡ w ∷ slice_split is_blank s
split_before [] s h = refl
split_before (b ∷ w) s h =
    ap (λ (t : Bool). cond t ([] ∷ slice_split is_blank (w ++ 32 ∷ s)) (onto_first b (slice_split is_blank (w ++ 32 ∷ s)))) h.0 ∙ ap (onto_first b) (split_before w s h.1)

split_last : (w : Text) → NoBlanks w → slice_split is_blank w ≡ w ∷ []
split_last [] h = refl
split_last (b ∷ w) h = ap (λ (t : Bool). cond t ([] ∷ slice_split is_blank w) (onto_first b (slice_split is_blank w))) h.0 ∙ ap (onto_first b) (split_last w h.1)

-- the parts of a text that are not empty
abbrev kept : List Text → List Text
kept ws = filter (λ (w : Text). not (length w == 0)) ws

-- an identifier is kept
kept_word : (n : Text) (ws : List Text) → is_identifier n ≡ true → kept (n ∷ ws) ≡ n ∷ kept ws
kept_word [] ws h = absurd (false≢true h)
kept_word (b ∷ s) ws h = let some : length (b ∷ s) ≢ 0 = λ e. omega arith in ap (λ (t : Bool). cond (not t) ((b ∷ s) ∷ kept ws) (kept ws)) (ne_eqb (length (b ∷ s)) 0 some)

-- names, each behind a blank
abbrev behind_blanks : List Text → Text
behind_blanks names = flat_map (λ p. codes " " ++ p) names

-- a name and further names behind blanks
words_behind : (n : Text) (names : List Text) → MayName n → AllByRecursion MayName names → words_of (n ++ behind_blanks names) ≡ n ∷ names
words_behind n [] h all =
    let word = identifier_of n h in
    ap words_of (append-nil n) ∙ ap kept (split_last n (identifier_no_blanks n word)) ∙ kept_word n [] word
words_behind n (m ∷ names) h all =
    let word = identifier_of n h in
    ap kept (split_before n (m ++ behind_blanks names) (identifier_no_blanks n word)) ∙ kept_word n (slice_split is_blank (m ++ behind_blanks names)) word ∙ ap (λ (ws : List Text). n ∷ ws) (words_behind m names all.0 all.1)

-- names with one blank between them
pub words_joined : (names : List Text) → AllByRecursion MayName names → words_of (pieces_joined (codes " ") names) ≡ names
words_joined [] all = refl
words_joined (n ∷ names) all = words_behind n names all.0 all.1

-- names that may be given
all_may : (names : List Text) → AllByRecursion MayName names → list_all may_name names ≡ true
all_may [] all = refl
all_may (n ∷ names) all = and_from (may_name n) (list_all may_name names) all.0 (all_may names all.1)

pub joined_may : (names : List Text) → AllByRecursion MayName names → may_name_all (pieces_joined (codes " ") names) ≡ true
joined_may names all = ap (list_all may_name) (words_joined names all) ∙ all_may names all
