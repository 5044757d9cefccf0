-- The tokens of a text are well formed: what the grammar sees of them can be written again.
use Rattle.std.proofs.Common.{◌≡◌, ℕ, zero, suc, ◌+◌, ◌-◌, ◌<◌, ◌≤◌, inl, inr, Bool, true, false, List, [], ◌∷◌, ◌++◌, length, get_or, take, drop, Option, Some, None, arith, refl, ap, sym, subst, ◌∙◌, le_refl}
use Rattle.std.specs.Prelude.{slice_range, codes, ◌&&◌, if◌then◌else◌}
use Rattle.std.specs.List.{list_all}
use Rattle.std.specs.Option.{option_map_or}
use Rattle.std.specs.Str.{bytes_eq}
use Rattle.std.proofs.lemmas.Bool.{and_from, and_parts}
use Rattle.std.proofs.lemmas.List.{take-take, get_or_past, drop_more}
use Rattle.std.proofs.lemmas.List.Edits.{get_or-between, length-between, between_more}
use Rattle.std.proofs.lemmas.Slice.Eq.{bytes_eq-Decides}
use Rattle.token_model.specs.Bytes.{is_letter, is_word, is_digit, is_binary, is_second, Passes}
use Rattle.token_model.specs.Tokens.{IsToken, IsName, IsKeyword, IsBinary, IsComment, IsNumeral, IsByte}
use Rattle.token_model.specs.TokenLists.{Piece, HasTokens, Ended, Stopped, Further}
use Rattle.token_model.specs.declared.kind.Dialect.{Dialect}
use Rattle.token_model.specs.declared.kind.TokenKind.{TokenKind}
use Rattle.token_model.specs.declared.kind.TokenKind.TheVariants as token
use Rattle.token_model.specs.declared.fault.LexFault.{LexFault}
use Rattle.token_model.proofs.Spans.{IsName-span, IsKeyword-span, IsBinary-span, IsToken-inside}
use Rattle.tree_model.specs.Tree.{Notes, str, symbol, char}
use Rattle.text_model.specs.Literals.{is_identifier, is_operator}
use Rattle.grammar_model.specs.Terminal.{Text, NameKind, Ordinary, Super, KeywordKind, BinaryKind, Common, Sign, Less, Greater, Bar, NumeralKind, Terminal, Name, Keyword, Binary, Numeral, Constant, Opens, Closes, Assignment, Colon, Semicolon, Period, Caret, OperandMeta, StatementMeta, MessageMeta}
use Rattle.grammar_model.specs.Input.{Lexeme, lex, Input, beginning, kind_of, next, clear, back, first_kind, first_notes, others}
use Rattle.grammar_model.specs.Lexemes.{name_of, keyword_of, binary_of, numeral_of, terminal_of, begins_numeral, lexemes_of, IsLexed}
use Rattle.reread_law.specs.WellFormed.{IsWord, IsKeywordText, IsNote, IsUnsigned, AllNotes}
use Rattle.reread_law.proofs.Copies.{IsCopy, EndsNumeral, numeral_copy, comment_copy}

-- what the grammar sees of a token, which is no metavariable
abbrev pub GoodTerminal : Terminal → Type 0
GoodTerminal (Name c n) = IsWord n × (c ≡ Ordinary → bytes_eq n (codes "super") ≡ false)
GoodTerminal (Keyword c k) = IsKeywordText k
GoodTerminal (Binary c s) = (is_operator s ≡ true) × (c ≡ Sign → s ≡ 45 ∷ [])
GoodTerminal (Numeral c t) = IsUnsigned t × (c ≡ numeral_of t)
GoodTerminal (Constant (str t)) = Unit {0}
GoodTerminal (Constant (symbol t)) = Unit {0}
GoodTerminal (Constant (char b)) = Unit {0}
GoodTerminal (Constant l) = ⊥
GoodTerminal (OperandMeta m n) = ⊥
GoodTerminal (StatementMeta n) = ⊥
GoodTerminal (MessageMeta n) = ⊥
GoodTerminal k = Unit {0}

-- tokens with the comments before them
abbrev pub GoodLexemes : List Lexeme → Type 0
GoodLexemes [] = Unit {0}
GoodLexemes (lex c f e k ∷ ts) = AllNotes c × GoodTerminal k × GoodLexemes ts

-- what is left to read, and the comments that are held
pub record Sound (i : Input) : Type 0 where
  pub held : AllNotes i.held
  pub rest : GoodLexemes i.rest

-- comments of two lists
pub notes_append : (c d : Notes) → AllNotes c → AllNotes d → AllNotes (c ++ d)
notes_append [] d h g = g
notes_append (x ∷ c) d h g = (h.0, notes_append c d h.1 g)

-- the comments before the first token
sound_notes : (ts : List Lexeme) → GoodLexemes ts → AllNotes (first_notes ts)
sound_notes [] h = tt
sound_notes (lex c f e k ∷ ts) h = h.0

-- the tokens behind the first one
sound_others : (ts : List Lexeme) → GoodLexemes ts → GoodLexemes (others ts)
sound_others [] h = tt
sound_others (lex c f e k ∷ ts) h = h.2

-- the first token
sound_first : (ts : List Lexeme) → GoodLexemes ts → GoodTerminal (first_kind ts)
sound_first [] h = tt
sound_first (lex c f e k ∷ ts) h = h.1

-- the next token
pub sound_kind : {i : Input} {k : Terminal} → Sound i → kind_of i ≡ k → GoodTerminal k
sound_kind {i} s e = subst GoodTerminal e (sound_first i.rest s.rest)

-- behind the next token
pub sound_next : {i : Input} → Sound i → Sound (next i)
sound_next {i} s = record { held = notes_append i.held (first_notes i.rest) s.held (sound_notes i.rest s.rest); rest = sound_others i.rest s.rest }

-- with no comments held
pub sound_clear : {i : Input} → Sound i → Sound (clear i)
sound_clear s = record { held = tt; rest = s.rest }

-- behind a block
pub sound_back : {o i : Input} → Sound o → Sound i → Sound (back o i)
sound_back s t = record { held = s.held; rest = t.rest }

-- the bytes of a token are a copy of those in the text
pub slice_copy : (t : List ℕ) (i j : ℕ) → i ≤ j → j ≤ length t → IsCopy (slice_range t i j) 0 t i (j - i)
slice_copy t i j le in_text = record {
  bytes = λ k lt. let e : 0 + k ≡ k = omega arith in ap (λ m. get_or (slice_range t i j) m 0) e ∙ get_or-between t i j k 0 (omega arith);
  ranges = λ k le.
      let e : 0 + k - 0 ≡ k = omega arith in
      let f : i + k - i ≡ k = omega arith in
      ap (λ m. take m (slice_range t i j)) e ∙ take-take k (j - i) (drop i t) le ∙ ap (λ m. take m (drop i t)) (sym f);
}

-- past the end of a text no numeral goes on
ends_at_end : (t : List ℕ) (n : ℕ) → length t ≤ n → EndsNumeral t n
ends_at_end t n le =
    let e = get_or_past t n 0 le in
    record {
      digit = ap is_digit e;
      radix = ap (λ b. Rattle.token_model.specs.Bytes.is_radix_digit b) e;
      no_r = λ h. omega (arith, e, h);
      no_e = λ h. omega (arith, e, h);
      no_fraction = λ h. omega (arith, e, h.0);
    }

-- the bytes of a numeral
numeral_good : (t : List ℕ) (i j : ℕ) → i ≤ j → j ≤ length t → IsNumeral t i j → IsUnsigned (slice_range t i j)
numeral_good t i j le in_text h =
    let size : length (slice_range t i j) ≡ j - i = length-between t i j in_text in
    let e : i + (j - i) ≡ j = omega arith in
    let whole : IsNumeral t i (i + (j - i)) = subst (IsNumeral t i) (sym e) h in
    let f : 0 + (j - i) ≡ length (slice_range t i j) = omega arith in
    subst (IsNumeral (slice_range t i j) 0) f (numeral_copy (slice_range t i j) 0 t i (j - i) (slice_copy t i j le in_text) (ends_at_end (slice_range t i j) (0 + (j - i)) (omega arith)) whole)

-- the bytes of a comment
pub comment_good : (t : List ℕ) (i j : ℕ) → i ≤ j → j ≤ length t → IsComment t i j → IsNote (slice_range t i j)
comment_good t i j le in_text h =
    let size : length (slice_range t i j) ≡ j - i = length-between t i j in_text in
    let e : i + (j - i) ≡ j = omega arith in
    let whole : IsComment t i (i + (j - i)) = subst (IsComment t i) (sym e) h in
    let f : 0 + (j - i) ≡ length (slice_range t i j) = omega arith in
    subst (IsComment (slice_range t i j) 0) f (comment_copy (slice_range t i j) 0 t i (j - i) (slice_copy t i j le in_text) whole)

-- the first byte of a part and the others
slice_first : (t : List ℕ) (i j : ℕ) → i < j → j ≤ length t → slice_range t i j ≡ get_or t i 0 ∷ slice_range t (i + 1) j
slice_first t i j lt le =
    let one : j - i ≡ suc (j - (i + 1)) = omega arith in
    ap (λ s. take (j - i) s) (drop_more t i 0 (omega arith)) ∙ ap (λ n. take n (get_or t i 0 ∷ drop (i + 1) t)) one

-- bytes of a class
slice_all : (p : ℕ → Bool) (t : List ℕ) (n i j : ℕ) → j ≡ i + n → j ≤ length t → ((k : ℕ) → i ≤ k → k < j → Passes p t k) → list_all p (slice_range t i j) ≡ true
slice_all p t zero i j e le h = let none : j - i ≡ 0 = omega arith in ap (λ m. list_all p (take m (drop i t))) none
slice_all p t (suc n) i j e le h =
    let later = slice_all p t n (i + 1) j (omega arith) le (λ k a b. h k (omega arith) b) in
    ap (list_all p) (slice_first t i j (omega arith) le) ∙ and_from (p (get_or t i 0)) (list_all p (slice_range t (i + 1) j)) (h i (le_refl i) (omega arith)) later

-- the bytes of a name
name_good : (t : List ℕ) (i j : ℕ) → IsName t i j → IsWord (slice_range t i j)
name_good t i j h =
    let span = IsName-span t i j h in
    let later = slice_all is_word t (j - (i + 1)) (i + 1) j (omega (arith, h.1.order)) span.inside h.1.all in
    ap is_identifier (slice_first t i j span.some span.inside) ∙ and_from (is_letter (get_or t i 0)) (list_all is_word (slice_range t (i + 1) j)) h.0 later

-- the bytes of a keyword
keyword_good : (t : List ℕ) (i j : ℕ) → IsKeyword t i j → IsKeywordText (slice_range t i j)
keyword_good t i j h =
    let span = IsKeyword-span t i j h in
    let name = IsName-span t i h.colon h.name in
    record {
      name = slice_range t i h.colon;
      is = ap (λ m. slice_range t i m) h.end ∙ between_more t i h.colon 0 (omega (arith, name.some)) (omega (arith, span.inside, h.end)) ∙ ap (λ b. slice_range t i h.colon ++ b ∷ []) h.has_colon.0;
      word = name_good t i h.colon h.name;
    }

-- one byte of a text
slice_one : (t : List ℕ) (i j : ℕ) → j ≡ i + 1 → j ≤ length t → slice_range t i j ≡ get_or t i 0 ∷ []
slice_one t i j e le =
    let none : j - (i + 1) ≡ 0 = omega arith in
    slice_first t i j (omega arith) le ∙ ap (λ m. get_or t i 0 ∷ take m (drop (i + 1) t)) none

-- two bytes of a text
slice_two : (t : List ℕ) (i j : ℕ) → j ≡ i + 2 → j ≤ length t → slice_range t i j ≡ get_or t i 0 ∷ get_or t (i + 1) 0 ∷ []
slice_two t i j e le = slice_first t i j (omega arith) le ∙ ap (λ s. get_or t i 0 ∷ s) (slice_one t (i + 1) j (omega arith) le)

-- the bytes of a binary selector
binary_good : (t : List ℕ) (i j : ℕ) → IsBinary t i j → is_operator (slice_range t i j) ≡ true
binary_good t i j (b, inl h) =
    let span = IsBinary-span t i j (b, inl h) in
    ap is_operator (slice_two t i j h.1 span.inside) ∙ and_from (is_binary (get_or t i 0)) (is_second (get_or t (i + 1) 0)) b h.0
binary_good t i j (b, inr h) =
    let span = IsBinary-span t i j (b, inr h) in
    ap is_operator (slice_one t i j h.1 span.inside) ∙ (rw b refl)

-- the word of an identifier
good_name : (s : Text) → IsWord s → GoodTerminal (name_of s)
good_name s h = go (bytes_eq s (codes "super")) refl
  where
    go : (b : Bool) → bytes_eq s (codes "super") ≡ b → GoodTerminal (if b then Name Super s else Name Ordinary s)
    go true e = (h, λ is. cc)
    go false e = (h, λ is. e)

-- a keyword
good_keyword : (s : Text) → IsKeywordText s → GoodTerminal (keyword_of s)
good_keyword s h = go (bytes_eq s (codes "primitive:"))
  where
    go : (b : Bool) → GoodTerminal (if b then Keyword Rattle.grammar_model.specs.Terminal.PrimitiveKeyword s else Keyword Rattle.grammar_model.specs.Terminal.AnyKeyword s)
    go true = h
    go false = h

-- a binary selector before a numeral or not
good_binary : (s : Text) (b : Bool) → is_operator s ≡ true → GoodTerminal (binary_of s b)
good_binary s b h = go (bytes_eq s (codes "-") && b) (bytes_eq s (codes "<")) (bytes_eq s (codes ">")) refl
  where
    go : (x y z : Bool) → (bytes_eq s (codes "-") && b) ≡ x → GoodTerminal (if x then Binary Sign s else (if y then Binary Less s else (if z then Binary Greater s else Binary Common s)))
    go true y z e = (h, λ is. (bytes_eq-Decides s (codes "-")).0 (and_parts (bytes_eq s (codes "-")) b e).0)
    go false true z e = (h, λ is. cc)
    go false false true e = (h, λ is. cc)
    go false false false e = (h, λ is. cc)

-- a token that the grammar sees is well formed
abbrev GoodOption : Option Terminal → Type 0
GoodOption None = Unit {0}
GoodOption (Some k) = GoodTerminal k

-- the bytes of a bar
bar_good : (t : List ℕ) (i j : ℕ) → IsByte 124 t i j → j ≤ length t → is_operator (slice_range t i j) ≡ true
bar_good t i j h le = ap is_operator (slice_one t i j h.1 le ∙ ap (λ b. b ∷ []) h.0)

-- each token is well formed
token_good : (d : Dialect) (k : TokenKind) (t : List ℕ) (i j : ℕ) (b : Bool) → i ≤ j → j ≤ length t → IsToken d k t i j → GoodOption (terminal_of k (slice_range t i j) b)
token_good d token.Identifier t i j b o le h = good_name (slice_range t i j) (name_good t i j h.0)
token_good d token.Keyword t i j b o le h = good_keyword (slice_range t i j) (keyword_good t i j h)
token_good d token.Binary t i j b o le h = good_binary (slice_range t i j) b (binary_good t i j h)
token_good d token.Bar t i j b o le h = (bar_good t i j h le, λ is. cc)
token_good d token.Assign t i j b o le h = tt
token_good d token.Colon t i j b o le h = tt
token_good d token.Semicolon t i j b o le h = tt
token_good d token.Period t i j b o le h = tt
token_good d token.Caret t i j b o le h = tt
token_good d token.Open t i j b o le h = tt
token_good d token.Close t i j b o le h = tt
token_good d token.BlockOpen t i j b o le h = tt
token_good d token.BlockClose t i j b o le h = tt
token_good d token.BraceOpen t i j b o le h = tt
token_good d token.BraceClose t i j b o le h = tt
token_good d token.ArrayOpen t i j b o le h = tt
token_good d token.BytesOpen t i j b o le h = tt
token_good d token.String t i j b o le h = tt
token_good d token.Comment t i j b o le h = tt
token_good d token.Character t i j b o le h = tt
token_good d token.Symbol t i j b o le h = tt
token_good d token.Numeral t i j b o le h = (numeral_good t i j o le h, refl)
token_good d token.End t i j b o le h = tt

-- what the grammar does not see is a comment
unseen : (d : Dialect) (k : TokenKind) (t : List ℕ) (i j : ℕ) (s : Text) (b : Bool) → i ≤ j → j ≤ length t → IsToken d k t i j → terminal_of k s b ≡ None → IsNote (slice_range t i j)
unseen d token.Comment t i j s b o le h e = comment_good t i j o le h
unseen d k t i j s b o le h e = cc

-- one token more, or a comment
good_step : (o : Option Terminal) (c : Notes) (s : Text) (f e : ℕ) (ts us : List Lexeme) → GoodOption o → AllNotes c → GoodLexemes ts → (o ≡ None → GoodLexemes us) → GoodLexemes (option_map_or (λ k. lex c f e k ∷ ts) o us)
good_step None c s f e ts us g n h r = r refl
good_step (Some k) c s f e ts us g n h r = (n, g, h)

-- the tokens of a text are well formed
tokens_good : (d : Dialect) (t : Text) (at : ℕ) (ps : List Piece) (fault : Option LexFault) (held : Notes) → AllNotes held → HasTokens d t at ps fault → GoodLexemes (lexemes_of t held ps)
tokens_good d t at ps fault held n (Ended here p h e) =
    let inside = IsToken-inside d p.kind t p.from p.to h.token in
    good_step (terminal_of p.kind (slice_range t p.from p.to) false) held (slice_range t p.from p.to) p.from p.to [] [] (token_good d p.kind t p.from p.to false inside.0 inside.1 h.token) n tt (λ is. tt)
tokens_good d t at ps fault held n (Stopped here f h) = tt
tokens_good d t at ps fault held n (Further here p qs f h e r) =
    let inside = IsToken-inside d p.kind t p.from p.to h.token in
    let b = begins_numeral p.to qs in
    let s = slice_range t p.from p.to in
    good_step (terminal_of p.kind s b) held s p.from p.to (lexemes_of t [] qs) (lexemes_of t (held ++ s ∷ []) qs)
    (token_good d p.kind t p.from p.to b inside.0 inside.1 h.token) n (tokens_good d t p.to qs f [] tt r)
    (λ is. tokens_good d t p.to qs f (held ++ s ∷ []) (notes_append held (s ∷ []) n (unseen d p.kind t p.from p.to s b inside.0 inside.1 h.token is, tt)) r)

-- the tokens that the grammar sees are well formed
pub sound_lexed : (d : Dialect) (t : Text) (ts : List Lexeme) → IsLexed d t ts → Sound (beginning ts)
sound_lexed d t ts l = record { held = tt; rest = subst GoodLexemes (sym l.same) (tokens_good d t 0 l.pieces None [] tt l.read) }
