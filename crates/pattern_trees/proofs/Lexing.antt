-- The tokens of a pattern have the bytes that tokens have.
use Rattle.std.proofs.Common.{◌≡◌, ℕ, ◌+◌, ◌<◌, ◌≤◌, Bool, true, false, true≢false, List, [], ◌∷◌, ◌++◌, length, get_or, Option, Some, None, if◌then◌else◌, arith, refl, ap, sym, subst, ◌∙◌, inl, inr, append-nil}
use Rattle.std.specs.Prelude.{slice_range, slice_index, codes, ◌&&◌, ◌||◌, ◌==◌}
use Rattle.std.specs.List.{list_any}
use Rattle.std.specs.Option.{option_map_or}
use Rattle.std.specs.Str.{bytes_eq}
use Rattle.std.proofs.lemmas.Bool.{cases_Bool, eqb-true}
use Rattle.token_model.specs.Bytes.{Has}
use Rattle.token_model.specs.Tokens.{IsName, IsKeyword}
use Rattle.token_model.specs.TokenLists.{Piece}
use Rattle.token_model.specs.declared.kind.Dialect.TheVariants.{Second}
use Rattle.token_model.specs.declared.kind.TokenKind.{TokenKind}
use Rattle.token_model.specs.declared.kind.TokenKind.TheVariants as token
use Rattle.token_model.specs.declared.fault.LexFault.{LexFault}
use Rattle.token_model.proofs.Spans.{IsName-span, IsKeyword-span, IsToken-inside}
use Rattle.tree_model.specs.Tree.{Notes}
use Rattle.text_model.specs.Pieces.{is_colon, has_colon}
use Rattle.text_model.specs.Literals.{is_identifier, is_keyword, is_operator}
use Rattle.grammar_model.specs.Terminal.{Text, Terminal, Name, Ordinary, Super, Keyword, AnyKeyword, PrimitiveKeyword, Binary, Common, Sign, Less, Greater}
use Rattle.grammar_model.specs.Input.{Lexeme, lex}
use Rattle.grammar_model.specs.Lexemes.{name_of, keyword_of, binary_of, begins_numeral, lexemes_by}
use Rattle.grammar_model.specs.PatternTokens.{mark_at, behind_mark, IsMeta, IsPatternToken, HasPatternTokens, Ended, Stopped, Further, meta_name_of, meta_keyword_of, pattern_terminal_of, IsPatternLexed}
use Rattle.pattern_model.specs.Spelled.{begins, is_meta, marked}
use Rattle.pattern_trees.proofs.TokenTexts.{HasText, HaveTexts}
use Rattle.pattern_trees.proofs.Bytes.{keyword_plain, identifier_begins, keyword_ends, colon_first}
use Rattle.pattern_trees.proofs.Lists.{or_second}
use Rattle.pattern_trees.proofs.Slices.{slice_head, name_slice, keyword_slice, binary_slice, bar_slice}

-- words that are no metavariables
index_begins : (c : ℕ) → (0 == c) ≡ false → (s : Text) → (slice_index s 0 == c) ≡ begins c s
index_begins c g [] = g
index_begins c g (b ∷ s) = refl

name_text : (s : Text) → is_identifier s ≡ true → HasText (if slice_index s 0 == 96 then meta_name_of s else name_of s)
name_text s h = rw (index_begins 96 refl s ∙ identifier_begins 96 refl s h) (by (bytes_eq s (codes "super")))
  where
    by : (b : Bool) → HasText (if b then Name Super s else Name Ordinary s)
    by true = h
    by false = h

keyword_text : (s : Text) → is_keyword s ≡ true → HasText (if slice_index s 0 == 96 then meta_keyword_of s else keyword_of s)
keyword_text s h = rw (index_begins 96 refl s ∙ keyword_plain s h) (by (bytes_eq s (codes "primitive:")))
  where
    by : (b : Bool) → HasText (if b then Keyword PrimitiveKeyword s else Keyword AnyKeyword s)
    by true = h
    by false = h

binary_text : (s : Text) (b : Bool) → is_operator s ≡ true → HasText (binary_of s b)
binary_text s b h = by (bytes_eq s (codes "-") && b) (bytes_eq s (codes "<")) (bytes_eq s (codes ">"))
  where
    by : (x y z : Bool) → HasText (if x then Binary Sign s else (if y then Binary Less s else (if z then Binary Greater s else Binary Common s)))
    by true y z = h
    by false true z = h
    by false false true = h
    by false false false = h

-- what stands behind the backquotes begins with the mark
mark_begins : (s : Text) → slice_index s (mark_at s 0) ≡ slice_index (marked s) 0
mark_begins [] = refl
mark_begins (a ∷ []) = refl
mark_begins (a ∷ b ∷ s) = elim (cases_Bool (b == 96)) [ inl e ↦ rw e refl | inr e ↦ rw e refl ]

-- a metavariable whose word begins, behind its backquotes, with the byte x
module _ (s w : Text) (x : ℕ) (quote : is_meta s ≡ true) (rest : marked s ≡ x ∷ w) where
  at_mark : slice_index s (mark_at s 0) ≡ x
  at_mark = mark_begins s ∙ ap (λ (r : Text). slice_index r 0) rest

  begun : (c : ℕ) → (x == c) ≡ true → begins c (marked s) ≡ true
  begun c e = ap (begins c) rest ∙ e

  meta_name_text : ((x == 46) ≡ false → (x == 35) ≡ false → (x == 64) ≡ false → is_identifier (x ∷ w) ≡ true) → HasText (meta_name_of s)
  meta_name_text name =
      rw at_mark
      (elim (cases_Bool (x == 46)) [
        | inl e ↦ rw e (quote, begun 46 e)
        | inr e ↦ elim (cases_Bool (x == 35)) [
          | inl f ↦ rw (e, f) (quote, begun 35 f)
          | inr f ↦ elim (cases_Bool (x == 64)) [
            | inl g ↦ rw (e, f, g) (quote, begun 64 g)
            | inr g ↦ rw (e, f, g) (quote, ap is_identifier rest ∙ name e f g)
          ]
        ]
      ])

  meta_keyword_text : ((x == 64) ≡ true → has_colon s ≡ true) → ((x == 64) ≡ false → is_keyword (x ∷ w) ≡ true) → HasText (meta_keyword_of s)
  meta_keyword_text colon key =
      rw at_mark
      (elim (cases_Bool (x == 64)) [
        | inl g ↦ rw g (quote, begun 64 g, colon g)
        | inr g ↦ rw g (quote, ap is_keyword rest ∙ key g)
      ])

-- places behind the backquotes and behind the mark
mark_after : (t : Text) (i : ℕ) → i < mark_at t i
mark_after t i = by (get_or t (i + 1) 0 == 96)
  where
    by : (b : Bool) → i < (if b then i + 2 else i + 1)
    by true = omega arith
    by false = omega arith

word_after : (t : Text) (m : ℕ) → m ≤ behind_mark t m
word_after t m = by (get_or t m 0 == 46) (get_or t (m + 1) 0 == 64) (get_or t m 0 == 35 || get_or t m 0 == 64)
  where
    by : (a b c : Bool) → m ≤ (if a then (if b then m + 2 else m + 1) else if c then m + 1 else m)
    by true true c = omega arith
    by true false c = omega arith
    by false b true = omega arith
    by false b false = omega arith

no_mark : (t : Text) (m : ℕ) → (get_or t m 0 == 46) ≡ false → (get_or t m 0 == 35) ≡ false → (get_or t m 0 == 64) ≡ false → behind_mark t m ≡ m
no_mark t m e f g = rw (e, f, g) refl

one_mark : (t : Text) (m : ℕ) → (get_or t m 0 == 46) ≡ false → (get_or t m 0 == 35) ≡ false → (get_or t m 0 == 64) ≡ true → behind_mark t m ≡ m + 1
one_mark t m e f g = rw (e, f, g) refl

no_byte : (x c : ℕ) → (x ≡ c → ⊥) → (x == c) ≡ false
no_byte x c h = elim (cases_Bool (x == c)) [ inl e ↦ absurd (h (eqb-true x c e)) | inr e ↦ e ]

-- colons
keyword_colon : (k : Text) → is_keyword k ≡ true → has_colon k ≡ true
keyword_colon k h = ap has_colon (sym (append-nil k)) ∙ colon_first k [] (keyword_ends k h)

colon_marked : (s : Text) → has_colon (marked s) ≡ true → has_colon s ≡ true
colon_marked [] h = h
colon_marked (a ∷ []) h = let bad : ⊥ = true≢false (sym h) in absurd bad
colon_marked (a ∷ b ∷ s) h =
    or_second (is_colon a) (is_colon b || list_any is_colon s)
    (elim (cases_Bool (b == 96)) [ inl e ↦ or_second (is_colon b) (list_any is_colon s) (rw e at h) | inr e ↦ (rw e at h) ])

-- what stands behind the backquotes of a part of a text
module _ (t : Text) (i j : ℕ) (quote : Has t i 96) (inside : mark_at t i < j) (le : j ≤ length t) where
  some : i + 1 < j
  some = omega (arith, inside, mark_after t i)

  quote_slice : is_meta (slice_range t i j) ≡ true
  quote_slice = ap is_meta (slice_head t i j (omega (arith, some)) le) ∙ ap (λ b. b == 96) quote

  marked_slice : marked (slice_range t i j) ≡ slice_range t (mark_at t i) j
  marked_slice =
      let next = slice_head t (i + 1) j some le in
      ap marked (slice_head t i j (omega (arith, some)) le ∙ ap (λ (s : Text). get_or t i 0 ∷ s) next)
      ∙ elim (cases_Bool (get_or t (i + 1) 0 == 96)) [
        | inl e ↦ rw e (ap (λ m. slice_range t m j) two)
        | inr e ↦ rw e (sym next)
      ]
    where
      two : i + 1 + 1 ≡ i + 2
      two = omega arith

  marked_head : marked (slice_range t i j) ≡ get_or t (mark_at t i) 0 ∷ slice_range t (mark_at t i + 1) j
  marked_head = marked_slice ∙ slice_head t (mark_at t i) j inside le

-- a metavariable that is an identifier, and one that is a keyword
meta_name : (t : Text) (i j : ℕ) → IsMeta token.Identifier t i j → HasText (if slice_index (slice_range t i j) 0 == 96 then meta_name_of (slice_range t i j) else name_of (slice_range t i j))
meta_name t i j h =
    let m = mark_at t i in
    let s = slice_range t i j in
    let span = IsName-span t (behind_mark t m) j h.word.0 in
    let in_part : m < j = omega (arith, span.some, word_after t m) in
    let quote = quote_slice t i j h.quote in_part span.inside in
    rw (index_begins 96 refl s ∙ quote)
    (meta_name_text s (slice_range t (m + 1) j) (get_or t m 0) quote (marked_head t i j h.quote in_part span.inside)
    (λ e f g. ap is_identifier (sym (slice_head t m j in_part span.inside)) ∙ name_slice t m j (subst (λ b. IsName t b j) (no_mark t m e f g) h.word.0)))

meta_keyword : (t : Text) (i j : ℕ) → IsMeta token.Keyword t i j → HasText (if slice_index (slice_range t i j) 0 == 96 then meta_keyword_of (slice_range t i j) else keyword_of (slice_range t i j))
meta_keyword t i j h =
    let m = mark_at t i in
    let x = get_or t m 0 in
    let s = slice_range t i j in
    let w = slice_range t (m + 1) j in
    let span = IsKeyword-span t (behind_mark t m) j h.word in
    let in_part : m < j = omega (arith, span.some, word_after t m) in
    let quote = quote_slice t i j h.quote in_part span.inside in
    let rest = marked_head t i j h.quote in_part span.inside in
    let no_hash = no_byte x 35 h.mark.0 in
    let no_point = no_byte x 46 h.mark.1 in
    rw (index_begins 96 refl s ∙ quote)
    (meta_keyword_text s w x quote rest
    (λ g. colon_marked s (ap has_colon rest ∙ or_second (is_colon x) (has_colon w) (keyword_colon w (keyword_slice t (m + 1) j (subst (λ b. IsKeyword t b j) (one_mark t m no_point no_hash g) h.word)))))
    (λ g. ap is_keyword (sym (slice_head t m j in_part span.inside)) ∙ keyword_slice t m j (subst (λ b. IsKeyword t b j) (no_mark t m no_point no_hash g) h.word)))

-- a token that the grammar sees
abbrev TextOption : Option Terminal → Type 0
TextOption None = Unit {0}
TextOption (Some k) = HasText k

token_text : (k : TokenKind) (t : Text) (i j : ℕ) (b : Bool) → IsPatternToken Second k t i j → TextOption (pattern_terminal_of k (slice_range t i j) b)
token_text token.Identifier t i j b (inl h) = name_text (slice_range t i j) (name_slice t i j h.0)
token_text token.Identifier t i j b (inr h) = meta_name t i j h
token_text token.Keyword t i j b (inl h) = keyword_text (slice_range t i j) (keyword_slice t i j h)
token_text token.Keyword t i j b (inr h) = meta_keyword t i j h
token_text token.Binary t i j b (inl h) = binary_text (slice_range t i j) b (binary_slice t i j h)
token_text token.Binary t i j b (inr h) = absurd h.mark
token_text token.Bar t i j b (inl h) = bar_slice t i j h (IsToken-inside Second token.Bar t i j h).1
token_text token.Bar t i j b (inr h) = absurd h.mark
token_text token.Assign t i j b h = tt
token_text token.Colon t i j b h = tt
token_text token.Semicolon t i j b h = tt
token_text token.Period t i j b h = tt
token_text token.Caret t i j b h = tt
token_text token.Open t i j b h = tt
token_text token.Close t i j b h = tt
token_text token.BlockOpen t i j b h = tt
token_text token.BlockClose t i j b h = tt
token_text token.BraceOpen t i j b h = tt
token_text token.BraceClose t i j b h = tt
token_text token.ArrayOpen t i j b h = tt
token_text token.BytesOpen t i j b h = tt
token_text token.String t i j b h = tt
token_text token.Comment t i j b h = tt
token_text token.Character t i j b h = tt
token_text token.Symbol t i j b h = tt
token_text token.Numeral t i j b h = tt
token_text token.End t i j b h = tt

-- one token more, or a comment
text_step : (o : Option Terminal) (c : Notes) (f e : ℕ) (ts us : List Lexeme) → TextOption o → HaveTexts ts → HaveTexts us → HaveTexts (option_map_or (λ k. lex c f e k ∷ ts) o us)
text_step None c f e ts us h a b = b
text_step (Some k) c f e ts us h a b = (h, a)

tokens_text : (t : Text) (at : ℕ) (ps : List Piece) (fault : Option LexFault) (held : Notes) → HasPatternTokens Second t at ps fault → HaveTexts (lexemes_by pattern_terminal_of t held ps)
tokens_text t at ps fault held (Ended here p n e) = text_step (pattern_terminal_of p.kind (slice_range t p.from p.to) false) held p.from p.to [] [] (token_text p.kind t p.from p.to false n.token) tt tt
tokens_text t at ps fault held (Stopped here f n) = tt
tokens_text t at ps fault held (Further here p qs f n e r) =
    let b = begins_numeral p.to qs in
    let s = slice_range t p.from p.to in
    text_step (pattern_terminal_of p.kind s b) held p.from p.to (lexemes_by pattern_terminal_of t [] qs) (lexemes_by pattern_terminal_of t (held ++ s ∷ []) qs) (token_text p.kind t p.from p.to b n.token)
    (tokens_text t p.to qs f [] r) (tokens_text t p.to qs f (held ++ s ∷ []) r)

-- the tokens of a pattern
pub lexed_texts : (t : Text) (ts : List Lexeme) → IsPatternLexed Second t ts → HaveTexts ts
lexed_texts t ts l = subst HaveTexts (sym l.same) (tokens_text t 0 l.pieces None [] l.read)
