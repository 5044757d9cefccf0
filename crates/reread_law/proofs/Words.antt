-- The words of canonical texts are tokens.
use Rattle.std.proofs.Common.{◌≡◌, ◌≢◌, ℕ, ◌+◌, inl, inr, Bool, true, false, ◌&&◌, [], ◌∷◌, ◌++◌, length, get_or, Some, arith, refl, ap, sym, subst, ◌∙◌, append_assoc}
use Rattle.std.specs.Prelude.{codes, ◌==◌, if◌then◌else◌}
use Rattle.std.specs.List.{list_all}
use Rattle.std.specs.Str.{bytes_eq}
use Rattle.std.proofs.lemmas.Bool.{and_parts, or_cases, eqb-true, false≢true}
use Rattle.std.proofs.lemmas.List.{length-append, get_or_append_left}
use Rattle.std.proofs.lemmas.Slice.Eq.{bytes_eq-Decides}
use Rattle.token_model.specs.Bytes.{is_blank, is_digit, is_letter, is_word, is_binary, is_second}
use Rattle.token_model.specs.Tokens.{IsToken, IsByte, IsBytePair, IsName, IsKeyword, IsBinary, IsComment, IsNumeral}
use Rattle.token_model.specs.declared.kind.Dialect.TheVariants.{Second}
use Rattle.token_model.specs.declared.kind.TokenKind.{TokenKind}
use Rattle.token_model.specs.declared.kind.TokenKind.TheVariants as kinds
use Rattle.token_model.proofs.RunLemmas.{Passes-inside}
use Rattle.tree_model.specs.Tree.{char}
use Rattle.text_model.specs.Literals.{is_operator}
use Rattle.grammar_model.specs.Terminal.{Text, BinaryKind, Common, Sign, Less, Greater, Bar, Terminal, Numeral, Constant}
use Rattle.grammar_model.specs.Terminal as grammar
use Rattle.grammar_model.specs.Lexemes.{name_of, keyword_of, binary_of, numeral_of, terminal_of}
use Rattle.reread_law.specs.WellFormed.{IsWord, IsKeywordText, IsNote, IsUnsigned}
use Rattle.reread_law.proofs.Copies.{EndsNumeral, numeral_copy, comment_copy}
use Rattle.reread_law.proofs.Bytes.{At, behind, same_bytes, byte_at, first_at, length_at, run_at, all_at, first_behind, copy_at, Ends, no_blank, ends_numeral}

-- These bytes in front of those are a token of the kind, and the grammar sees it so. The flag of a binary selector says that a numeral begins behind it, and then a digit does.
pub record IsWordOf (kind : TokenKind) (k : Terminal) (w s : Text) : Type 0 where
  pub token : (t : Text) (i : ℕ) → At t i (w ++ s) → IsToken Second kind t i (i + length w)
  pub inner : kind ≢ kinds.End
  pub begins : is_blank (get_or (w ++ s) 0 0) ≡ false
  pub seen : (b : Bool) → (b ≡ true → is_digit (get_or s 0 0) ≡ true) → terminal_of kind w b ≡ Some k

-- a letter is part of a word
letter_word : (b : ℕ) → is_letter b ≡ true → is_word b ≡ true
letter_word b h = rw h refl

-- an identifier as a name in a text
pub name_at : {t : Text} {i : ℕ} (n s : Text) → IsWord n → is_word (get_or s 0 0) ≡ false → At t i (n ++ s) → IsName t i (i + length n)
name_at [] s h e a = absurd (false≢true h)
name_at (b ∷ w) s h e a =
    let p = and_parts (is_letter b) (list_all is_word w) h in
    let all : list_all is_word (b ∷ w) ≡ true = rw (letter_word b p.0, p.1) refl in
    (ap is_letter (first_at a) ∙ p.0, run_at is_word a 1 (length (b ∷ w)) (omega arith) (λ k x y. all_at is_word (b ∷ w) s k all y) (ap is_word (first_behind (b ∷ w) s) ∙ e))

-- an identifier begins with no blank
word_no_blank : (n s : Text) → IsWord n → is_blank (get_or (n ++ s) 0 0) ≡ false
word_no_blank [] s h = absurd (false≢true h)
word_no_blank (b ∷ w) s h = no_blank is_letter b (and_parts (is_letter b) (list_all is_word w) h).0 refl refl refl refl refl

-- an identifier
pub name_word : (n s : Text) → IsWord n → Ends s → IsWordOf kinds.Identifier (name_of n) n s
name_word n s h e = record {
  token = λ t i a. (name_at n s h e.word a, λ c. e.colon (sym (first_at (behind n s a)) ∙ c.0));
  inner = λ is. cc;
  begins = word_no_blank n s h;
  seen = λ b d. refl;
}

-- a keyword in a text
pub keyword_at : {t : Text} {i : ℕ} (k s : Text) → IsKeywordText k → get_or s 0 0 ≢ 61 → At t i (k ++ s) → IsKeyword t i (i + length k)
keyword_at {t} {i} k s h e a =
    let place = same_bytes (k ++ s) (h.name ++ 58 ∷ s) (ap (λ x. x ++ s) h.is ∙ append_assoc h.name (58 ∷ []) s) a in
    let colon = behind h.name (58 ∷ s) place in
    record {
      colon = i + length h.name;
      name = name_at h.name (58 ∷ s) h.word refl place;
      has_colon = (first_at colon, λ is. e (sym (byte_at colon 1) ∙ is));
      end = omega (arith, ap length h.is, length-append h.name (58 ∷ []));
    }

-- a keyword begins with no blank
keyword_no_blank : (k s : Text) → IsKeywordText k → is_blank (get_or (k ++ s) 0 0) ≡ false
keyword_no_blank k s h = ap (λ x. is_blank (get_or x 0 0)) (ap (λ x. x ++ s) h.is ∙ append_assoc h.name (58 ∷ []) s) ∙ word_no_blank h.name (58 ∷ s) h.word

-- a keyword
pub keyword_word : (k s : Text) → IsKeywordText k → get_or s 0 0 ≢ 61 → IsWordOf kinds.Keyword (keyword_of k) k s
keyword_word k s h e = record { token = λ t i a. keyword_at k s h e a; inner = λ is. cc; begins = keyword_no_blank k s h; seen = λ b d. refl }

-- one binary character, or two
pub binary_at : {t : Text} {i : ℕ} (w s : Text) → is_operator w ≡ true → (w ≡ 124 ∷ [] → ⊥) → is_second (get_or s 0 0) ≡ false → At t i (w ++ s) → IsBinary t i (i + length w)
binary_at [] s h n e a = absurd (false≢true h)
binary_at (b ∷ []) s h n e a =
    elim (or_cases (is_binary b) (b == 124) h) [
      | inl g ↦ (ap is_binary (first_at a) ∙ g, inr (ap is_second (byte_at a 1) ∙ e, refl))
      | inr g ↦ absurd (n (ap (λ x. x ∷ []) (eqb-true b 124 g)))
    ]
binary_at (b ∷ c ∷ []) s h n e a =
    let p = and_parts (is_binary b) (is_second c) h in
    (ap is_binary (first_at a) ∙ p.0, inl (ap is_second (byte_at a 1) ∙ p.1, refl))
binary_at (b ∷ c ∷ d ∷ w) s h n e a = absurd (false≢true h)

-- a binary selector that is seen as one
pub record IsOperator (w s : Text) : Type 0 where
  pub kind : TokenKind
  pub class : BinaryKind
  pub word : IsWordOf kind (grammar.Binary class w) w s

-- the class of a binary selector with no numeral behind it
class_of : (w : Text) → BinaryKind
class_of w = if bytes_eq w (codes "<") then Less else (if bytes_eq w (codes ">") then Greater else Common)

-- its terminal
binary_class : (w : Text) → binary_of w false ≡ grammar.Binary (class_of w) w
unfolding class_of
binary_class w = go (bytes_eq w (codes "-")) (bytes_eq w (codes "<")) (bytes_eq w (codes ">"))
  where
    go : (x y z : Bool) → (if x && false then grammar.Binary Sign w else (if y then grammar.Binary Less w else (if z then grammar.Binary Greater w else grammar.Binary Common w))) ≡ grammar.Binary (if y then Less else (if z then Greater else Common)) w
    go true true z = refl
    go true false true = refl
    go true false false = refl
    go false true z = refl
    go false false true = refl
    go false false false = refl

-- a byte that is seen as none
no_flag : (b : Bool) (d : ℕ) → is_digit d ≡ false → (b ≡ true → is_digit d ≡ true) → b ≡ false
no_flag true d e h = absurd (false≢true (sym e ∙ h refl))
no_flag false d e h = refl

-- a binary selector begins with no blank
operator_no_blank : (w s : Text) → is_operator w ≡ true → is_blank (get_or (w ++ s) 0 0) ≡ false
operator_no_blank [] s h = absurd (false≢true h)
operator_no_blank (b ∷ []) s h =
    elim (or_cases (is_binary b) (b == 124) h) [
      | inl g ↦ no_blank is_binary b g refl refl refl refl refl
      | inr g ↦ ap is_blank (eqb-true b 124 g)
    ]
operator_no_blank (b ∷ c ∷ []) s h = no_blank is_binary b (and_parts (is_binary b) (is_second c) h).0 refl refl refl refl refl
operator_no_blank (b ∷ c ∷ d ∷ w) s h = absurd (false≢true h)

-- a mark of one byte
mark : (kind : TokenKind) (k : Terminal) (b : ℕ) (s : Text) → ((t : Text) (i : ℕ) → IsByte b t i (i + 1) → IsToken Second kind t i (i + 1)) → kind ≢ kinds.End → is_blank b ≡ false → ((f : Bool) → terminal_of kind (b ∷ []) f ≡ Some k) → IsWordOf kind k (b ∷ []) s
mark kind k b s h inner begins seen = record {
  token = λ t i a. h t i (first_at a, refl);
  inner = inner;
  begins = begins;
  seen = λ f d. seen f;
}

-- a mark of two bytes
pair : (kind : TokenKind) (k : Terminal) (b c : ℕ) (s : Text) → ((t : Text) (i : ℕ) → IsBytePair b c t i (i + 2) → IsToken Second kind t i (i + 2)) → kind ≢ kinds.End → is_blank b ≡ false → ((f : Bool) → terminal_of kind (b ∷ c ∷ []) f ≡ Some k) → IsWordOf kind k (b ∷ c ∷ []) s
pair kind k b c s h inner begins seen = record {
  token = λ t i a. h t i (first_at a, byte_at a 1, refl);
  inner = inner;
  begins = begins;
  seen = λ f d. seen f;
}

-- |
pub bar_word : (s : Text) → IsWordOf kinds.Bar (grammar.Binary Bar (124 ∷ [])) (124 ∷ []) s
bar_word s = mark kinds.Bar (grammar.Binary Bar (124 ∷ [])) 124 s (λ t i h. h) (λ is. cc) refl (λ f. refl)

-- ;
pub semicolon_word : (s : Text) → IsWordOf kinds.Semicolon grammar.Semicolon (59 ∷ []) s
semicolon_word s = mark kinds.Semicolon grammar.Semicolon 59 s (λ t i h. h) (λ is. cc) refl (λ f. refl)

-- .
pub period_word : (s : Text) → IsWordOf kinds.Period grammar.Period (46 ∷ []) s
period_word s = mark kinds.Period grammar.Period 46 s (λ t i h. h) (λ is. cc) refl (λ f. refl)

-- ^
pub caret_word : (s : Text) → IsWordOf kinds.Caret grammar.Caret (94 ∷ []) s
caret_word s = mark kinds.Caret grammar.Caret 94 s (λ t i h. h) (λ is. cc) refl (λ f. refl)

-- (
pub open_word : (s : Text) → IsWordOf kinds.Open (grammar.Opens grammar.Group) (40 ∷ []) s
open_word s = mark kinds.Open (grammar.Opens grammar.Group) 40 s (λ t i h. h) (λ is. cc) refl (λ f. refl)

-- )
pub close_word : (s : Text) → IsWordOf kinds.Close (grammar.Closes grammar.GroupEnd) (41 ∷ []) s
close_word s = mark kinds.Close (grammar.Closes grammar.GroupEnd) 41 s (λ t i h. h) (λ is. cc) refl (λ f. refl)

-- [
pub block_open_word : (s : Text) → IsWordOf kinds.BlockOpen (grammar.Opens grammar.BlockStart) (91 ∷ []) s
block_open_word s = mark kinds.BlockOpen (grammar.Opens grammar.BlockStart) 91 s (λ t i h. h) (λ is. cc) refl (λ f. refl)

-- ]
pub block_close_word : (s : Text) → IsWordOf kinds.BlockClose (grammar.Closes grammar.BlockEnd) (93 ∷ []) s
block_close_word s = mark kinds.BlockClose (grammar.Closes grammar.BlockEnd) 93 s (λ t i h. h) (λ is. cc) refl (λ f. refl)

-- {
pub brace_open_word : (s : Text) → IsWordOf kinds.BraceOpen (grammar.Opens grammar.BraceStart) (123 ∷ []) s
brace_open_word s = mark kinds.BraceOpen (grammar.Opens grammar.BraceStart) 123 s (λ t i h. (refl, h)) (λ is. cc) refl (λ f. refl)

-- }
pub brace_close_word : (s : Text) → IsWordOf kinds.BraceClose (grammar.Closes grammar.BraceEnd) (125 ∷ []) s
brace_close_word s = mark kinds.BraceClose (grammar.Closes grammar.BraceEnd) 125 s (λ t i h. (refl, h)) (λ is. cc) refl (λ f. refl)

-- :=
pub assign_word : (s : Text) → IsWordOf kinds.Assign grammar.Assignment (58 ∷ 61 ∷ []) s
assign_word s = pair kinds.Assign grammar.Assignment 58 61 s (λ t i h. inl h) (λ is. cc) refl (λ f. refl)

-- #(
pub array_open_word : (s : Text) → IsWordOf kinds.ArrayOpen (grammar.Opens grammar.ArrayStart) (35 ∷ 40 ∷ []) s
array_open_word s = pair kinds.ArrayOpen (grammar.Opens grammar.ArrayStart) 35 40 s (λ t i h. h) (λ is. cc) refl (λ f. refl)

-- #[
pub bytes_open_word : (s : Text) → IsWordOf kinds.BytesOpen (grammar.Opens grammar.BytesStart) (35 ∷ 91 ∷ []) s
bytes_open_word s = pair kinds.BytesOpen (grammar.Opens grammar.BytesStart) 35 91 s (λ t i h. h) (λ is. cc) refl (λ f. refl)

-- a colon before no =
pub colon_word : (s : Text) → get_or s 0 0 ≢ 61 → IsWordOf kinds.Colon grammar.Colon (58 ∷ []) s
colon_word s n = record {
  token = λ t i a. ((first_at a, λ is. n (sym (byte_at a 1) ∙ is)), refl);
  inner = λ is. cc;
  begins = refl;
  seen = λ f d. refl;
}

-- a binary selector before a byte that is neither a digit nor a second character
pub operator_word : (w s : Text) → is_operator w ≡ true → is_second (get_or s 0 0) ≡ false → is_digit (get_or s 0 0) ≡ false → IsOperator w s
operator_word w s h e d = go (bytes_eq w (124 ∷ [])) refl
  where
    go : (b : Bool) → bytes_eq w (124 ∷ []) ≡ b → IsOperator w s
    go true is =
        let bar : IsOperator (124 ∷ []) s = record { kind = kinds.Bar; class = Bar; word = bar_word s } in
        subst (λ w. IsOperator w s) (sym ((bytes_eq-Decides w (124 ∷ [])).0 is)) bar
    go false is = record {
      kind = kinds.Binary;
      class = class_of w;
      word = record {
        token = λ t i a. binary_at w s h (λ bar. false≢true (sym is ∙ (bytes_eq-Decides w (124 ∷ [])).1 bar)) e a;
        inner = λ is. cc;
        begins = operator_no_blank w s h;
        seen = λ b f. ap Some (ap (binary_of w) (no_flag b (get_or s 0 0) d f) ∙ binary_class w);
      };
    }

-- the minus before a numeral
pub minus_at : {t : Text} {i : ℕ} (s : Text) → is_second (get_or s 0 0) ≡ false → At t i (45 ∷ s) → IsBinary t i (i + 1)
minus_at s e a = binary_at (45 ∷ []) s refl (λ is. cc) e a

-- a numeral before bytes with which none goes on
pub numeral_before : (w s : Text) → IsUnsigned w → ((t : Text) (i : ℕ) → At t i s → EndsNumeral t i) → IsWordOf kinds.Numeral (grammar.Numeral (numeral_of w) w) w s
numeral_before w s h e = record {
  token = λ t i a. let f : 0 + length w ≡ length w = omega arith in numeral_copy t i w 0 (length w) (copy_at w s a) (e t (i + length w) (behind w s a)) (subst (IsNumeral w 0) (sym f) h);
  inner = λ is. cc;
  begins = ap is_blank (get_or_append_left w s 0 0 (Passes-inside is_digit w 0 refl h.digits.0)) ∙ no_blank is_digit (get_or w 0 0) h.digits.0 refl refl refl refl refl;
  seen = λ f d. refl;
}

-- a numeral
pub numeral_word : (w s : Text) → IsUnsigned w → Ends s → IsWordOf kinds.Numeral (grammar.Numeral (numeral_of w) w) w s
numeral_word w s h e = numeral_before w s h (λ t i a. ends_numeral a e)

-- < before a letter
pub less_word : (s : Text) → is_second (get_or s 0 0) ≡ false → IsWordOf kinds.Binary (grammar.Binary Less (60 ∷ [])) (60 ∷ []) s
less_word s e = record { token = λ t i a. binary_at (60 ∷ []) s refl (λ is. cc) e a; inner = λ is. cc; begins = refl; seen = λ f d. refl }

-- >
pub greater_word : (s : Text) → is_second (get_or s 0 0) ≡ false → IsWordOf kinds.Binary (grammar.Binary Greater (62 ∷ [])) (62 ∷ []) s
greater_word s e = record { token = λ t i a. binary_at (62 ∷ []) s refl (λ is. cc) e a; inner = λ is. cc; begins = refl; seen = λ f d. refl }

-- a comment
pub note_at : {t : Text} {i : ℕ} (w s : Text) → IsNote w → At t i (w ++ s) → IsComment t i (i + length w)
note_at {t} {i} w s h a = let e : 0 + length w ≡ length w = omega arith in comment_copy t i w 0 (length w) (copy_at w s a) (subst (IsComment w 0) (sym e) h)

-- a comment begins with no blank
pub note_no_blank : (w s : Text) → IsNote w → is_blank (get_or (w ++ s) 0 0) ≡ false
note_no_blank w s h = ap is_blank (get_or_append_left w s 0 0 (omega (arith, h.order, h.end)) ∙ h.opens)

-- a character
pub char_word : (b : ℕ) (s : Text) → IsWordOf kinds.Character (Constant (char b)) (36 ∷ b ∷ []) s
char_word b s = record {
  token = λ t i a. (first_at a, omega (arith, length_at a), refl);
  inner = λ is. cc;
  begins = refl;
  seen = λ f d. refl;
}
