-- The canonical text of a literal is read as that literal.
use Rattle.std.proofs.Common.{◌≡◌, ◌≢◌, ℕ, get_or, ◌+◌, ◌≤◌, Bool, true, false, List, [], ◌∷◌, ◌++◌, arith, refl, sym, subst, append_assoc}
use Rattle.std.specs.Prelude.{codes, flat_map, nat_le, if◌then◌else◌}
use Rattle.std.specs.List.{list_all}
use Rattle.std.specs.Str.{bytes_eq}
use Rattle.std.specs.Str.Parse.{digits_value}
use Rattle.token_model.specs.Bytes.{is_digit}
use Rattle.token_model.specs.declared.kind.TokenKind.{TokenKind}
use Rattle.tree_model.specs.Tree.{Notes, LiteralOf, number, str, symbol, char, array, bytes, word, LiteralsOf, no_literals, more_literals}
use Rattle.tree_model.specs.Measure.{literal_height, literals_height}
use Rattle.text_model.specs.Pieces.{pieces_joined}
use Rattle.text_model.specs.Literals.{is_operator, literal_text, literal_texts}
use Rattle.grammar_model.specs.Terminal.{Text, Terminal, NameKind, Ordinary, Super, KeywordKind, AnyKeyword, PrimitiveKeyword, BinaryKind, Name, Keyword, Binary, Numeral, SmallDigits, LargeDigits, GroupEnd, BlockEnd, ArrayStart, BytesStart}
use Rattle.grammar_model.specs.Words.{is_literal_word}
use Rattle.grammar_model.specs.Input.{Input, kind_of, next}
use Rattle.grammar_model.specs.Ahead.{Any, IsDigits}
use Rattle.grammar_model.specs.Lexemes.{name_of, keyword_of, numeral_of}
use Rattle.grammar_model.specs.Literals.{word_or_symbol, ByteElements, OneByte, NoBytes, LiteralAt, Unsigned, Negative, Fixed, Array, ByteArray, Element, LiteralElement, NameElement, Elements, OneElement, NoElements}
use Rattle.reread_law.specs.WellFormed.{IsWord, IsKeywordText, Plain, Minus, AreBytes, NoneLeft, OneMore, WellFormedLiteral, WellFormedLiterals, NoWord}
use Rattle.reread_law.proofs.Bytes.{ends, Ends, ends_all}
use Rattle.reread_law.proofs.Words.{IsWordOf, name_word, keyword_word, operator_word, numeral_word, char_word, close_word, block_close_word, array_open_word, bytes_open_word}
use Rattle.reread_law.proofs.Quoted.{string_word, symbol_word}
use Rattle.reread_law.proofs.Steps.{World, Here, Fresh, Stepped, blank_step, step, step_minus, held_as, text_as, counts_open, counts_close}

-- the class of an identifier
pub named : (n : Text) → (c : NameKind) × (name_of n ≡ Name c n)
named n = go (bytes_eq n (codes "super"))
  where
    go : (b : Bool) → (c : NameKind) × ((if b then Name Super n else Name Ordinary n) ≡ Name c n)
    go true = (Super, refl)
    go false = (Ordinary, refl)

-- the class of a keyword
pub keyed : (k : Text) → (c : KeywordKind) × (keyword_of k ≡ Keyword c k)
keyed k = go (bytes_eq k (codes "primitive:"))
  where
    go : (b : Bool) → (c : KeywordKind) × ((if b then Keyword PrimitiveKeyword k else Keyword AnyKeyword k) ≡ Keyword c k)
    go true = (PrimitiveKeyword, refl)
    go false = (AnyKeyword, refl)

-- a word that is seen otherwise
pub word_as : {kind : TokenKind} {k l : Terminal} {x s : Text} → k ≡ l → IsWordOf kind k x s → IsWordOf kind l x s
word_as {kind} {k} {l} {x} {s} e d = subst (λ k. IsWordOf kind k x s) e d

-- an identifier is read
pub step_name : {w : World} {n : ℕ} {i : Input} {h : Notes} (x s : Text) → IsWord x → Ends s → Here w n i h (x ++ s) → (c : NameKind) × Stepped w n i h (Name c x) s
step_name {w} {n} {i} {h} x s g e a = ((named x).0, step n x s (word_as (named x).1 (name_word x s g e)) (λ c f e ts. refl) a)

-- a keyword is read
pub step_keyword : {w : World} {n : ℕ} {i : Input} {h : Notes} (x s : Text) → IsKeywordText x → get_or s 0 0 ≢ 61 → Here w n i h (x ++ s) → (c : KeywordKind) × Stepped w n i h (Keyword c x) s
step_keyword {w} {n} {i} {h} x s g e a = ((keyed x).0, step n x s (word_as (keyed x).1 (keyword_word x s g e)) (λ c f e ts. refl) a)

-- a binary selector is read
pub step_operator : {w : World} {n : ℕ} {i : Input} {h : Notes} (x s : Text) → is_operator x ≡ true → Here w n i h (x ++ 32 ∷ s) → (c : BinaryKind) × Stepped w n i h (Binary c x) (32 ∷ s)
step_operator {w} {n} {i} {h} x s g a = let o = operator_word x (32 ∷ s) g refl refl in (o.class, step n x (32 ∷ s) o.word (λ c f e ts. refl) a)

-- numerals of digits alone are seen so
digits_kind : (t : Text) → list_all is_digit t ≡ true → IsDigits (Numeral (numeral_of t) t)
digits_kind t h = rw h (go (nat_le (digits_value 10 t) 65535))
  where
    go : (b : Bool) → IsDigits (Numeral (if b then SmallDigits else LargeDigits) t)
    go true = tt
    go false = tt

-- pieces, each behind a blank
abbrev pub blanked : List Text → Text
blanked ps = flat_map (λ p. codes " " ++ p) ps

-- what stands behind them, where they begin with a blank, ends a token
pub ends_blanked : (ps : List Text) (s : Text) → ends s ≡ true → ends (blanked ps ++ s) ≡ true
ends_blanked [] s h = h
ends_blanked (p ∷ ps) s h = refl

-- a literal or an element that was read
pub record LiteralRead (w : World) (n : ℕ) (i : Input) (h : Notes) (l : LiteralOf Text) (s : Text) : Type 0 where
  pub stop : Input
  pub literal : NoWord l → LiteralAt Any i l stop
  pub element : Element Any i l stop
  pub held : stop.held ≡ h
  pub fresh : Fresh w n stop s

-- elements that were read, before a closing mark
record ElementsRead (w : World) (n : ℕ) (i : Input) (h : Notes) (ls : LiteralsOf Text) (s : Text) : Type 0 where
  stop : Input
  elements : Elements Any i ls stop
  here : Here w n stop h s

-- numerals of a byte array that were read
record BytesRead (w : World) (n : ℕ) (i : Input) (h : Notes) (ls : LiteralsOf Text) (s : Text) : Type 0 where
  stop : Input
  elements : ByteElements Any i ls stop
  here : Here w n stop h s

-- one literal by one token
one_literal : {w : World} {n : ℕ} {i : Input} {h : Notes} {l : LiteralOf Text} {s : Text} → LiteralAt Any i l (next i) → (next i).held ≡ h → Fresh w n (next i) s → LiteralRead w n i h l s
one_literal {w} {n} {i} {h} {l} {s} d e f = record { stop = next i; literal = λ no. d; element = LiteralElement d; held = e; fresh = f }

-- further numerals of a byte array
reads_more_bytes : (ls : LiteralsOf Text) → AreBytes ls → (w : World) (n : ℕ) (i : Input) (h : Notes) (s : Text) → ends s ≡ true → Here w n i h (blanked (literal_texts ls) ++ s) → BytesRead w n i h ls s
reads_more_bytes ls NoneLeft w n i h s e a = record { stop = i; elements = NoBytes tt; here = a }
reads_more_bytes ls (OneMore {t} {ls = ks} u d g) w n i h s e a =
    let rest = blanked (literal_texts ks) in
    let one = text_as ((t ++ rest) ++ s) (t ++ (rest ++ s)) (append_assoc t rest s) (blank_step 32 ((t ++ rest) ++ s) refl a) in
    let z = step n t (rest ++ s) (numeral_word t (rest ++ s) u (ends_all (rest ++ s) (ends_blanked (literal_texts ks) s e))) (λ c f e ts. refl) one in
    let y = reads_more_bytes ks g w n (next i) h s e (held_as z.held z.fresh.here) in
    record { stop = y.stop; elements = OneByte z.kind (subst IsDigits (sym z.kind) (digits_kind t d)) y.elements; here = y.here }

-- the numerals of a byte array
reads_bytes : (ls : LiteralsOf Text) → AreBytes ls → (w : World) (n : ℕ) (i : Input) (h : Notes) (s : Text) → ends s ≡ true → Here w n i h (pieces_joined (codes " ") (literal_texts ls) ++ s) → BytesRead w n i h ls s
reads_bytes ls NoneLeft w n i h s e a = record { stop = i; elements = NoBytes tt; here = a }
reads_bytes ls (OneMore {t} {ls = ks} u d g) w n i h s e a =
    let rest = blanked (literal_texts ks) in
    let one = text_as ((t ++ rest) ++ s) (t ++ (rest ++ s)) (append_assoc t rest s) a in
    let z = step n t (rest ++ s) (numeral_word t (rest ++ s) u (ends_all (rest ++ s) (ends_blanked (literal_texts ks) s e))) (λ c f e ts. refl) one in
    let y = reads_more_bytes ks g w n (next i) h s e (held_as z.held z.fresh.here) in
    record { stop = y.stop; elements = OneByte z.kind (subst IsDigits (sym z.kind) (digits_kind t d)) y.elements; here = y.here }

-- nil, true or false in an array
word_element : {i : Input} (n : Text) (c : NameKind) → is_literal_word n ≡ true → kind_of i ≡ Name c n → Element Any i (word n) (next i)
word_element {i} n c h e = let d : Element Any i (word_or_symbol n) (next i) = NameElement e in rw h at d

mutual
  -- a literal
  pub reads_literal : (l : LiteralOf Text) → WellFormedLiteral l → (w : World) (n : ℕ) (i : Input) (h : Notes) (s : Text) → ends s ≡ true → n + literal_height l ≤ 400 → Here w n i h (literal_text l ++ s) → LiteralRead w n i h l s
  reads_literal (number t) (Plain u) w n i h s e le a =
      let z = step n t s (numeral_word t s u (ends_all s e)) (λ c f e ts. refl) a in
      one_literal (Unsigned z.kind) z.held z.fresh
  reads_literal (number t) (Minus {t = u} d) w n i h s e le a =
      let z = step_minus u s d (ends_all s e) a in
      record { stop = next (next i); literal = λ no. Negative z.first z.second; element = LiteralElement (Negative z.first z.second); held = z.held; fresh = z.fresh }
  reads_literal (str t) g w n i h s e le a =
      let z = step n (literal_text (str t)) s (string_word t s (ends_all s e).quote) (λ c f e ts. refl) a in
      one_literal (Fixed z.kind) z.held z.fresh
  reads_literal (symbol t) g w n i h s e le a =
      let z = step n (literal_text (symbol t)) s (symbol_word t s (ends_all s e)) (λ c f e ts. refl) a in
      one_literal (Fixed z.kind) z.held z.fresh
  reads_literal (char b) g w n i h s e le a =
      let z = step n (36 ∷ b ∷ []) s (char_word b s) (λ c f e ts. refl) a in
      one_literal (Fixed z.kind) z.held z.fresh
  reads_literal (word t) g w n i h s e le a =
      let z = step_name t s g.0 (ends_all s e) a in
      record { stop = next i; literal = λ no. absurd no; element = word_element t z.0 g.1 z.1.kind; held = z.1.held; fresh = z.1.fresh }
  reads_literal (array ls) g w n i h s e le a =
      let rest = pieces_joined (codes " ") (literal_texts ls) in
      let x = step (n + 1) (35 ∷ 40 ∷ []) (rest ++ 41 ∷ s) (array_open_word (rest ++ 41 ∷ s)) (counts_open n ArrayStart (omega arith)) (text_as _ _ (append_assoc (35 ∷ 40 ∷ rest) (41 ∷ []) s) a) in
      let y = reads_elements ls g w (n + 1) (next i) h (41 ∷ s) refl (omega arith) (held_as x.held x.fresh.here) in
      let z = step n (41 ∷ []) s (close_word s) (counts_close n GroupEnd) y.here in
      let d = Array x.kind y.elements z.kind in
      record { stop = next y.stop; literal = λ no. d; element = LiteralElement d; held = z.held; fresh = z.fresh }
  reads_literal (bytes ls) g w n i h s e le a =
      let rest = pieces_joined (codes " ") (literal_texts ls) in
      let x = step (n + 1) (35 ∷ 91 ∷ []) (rest ++ 93 ∷ s) (bytes_open_word (rest ++ 93 ∷ s)) (counts_open n BytesStart (omega arith)) (text_as _ _ (append_assoc (35 ∷ 91 ∷ rest) (93 ∷ []) s) a) in
      let y = reads_bytes ls g w (n + 1) (next i) h (93 ∷ s) refl (held_as x.held x.fresh.here) in
      let z = step n (93 ∷ []) s (block_close_word s) (counts_close n BlockEnd) y.here in
      let d = ByteArray x.kind y.elements z.kind in
      record { stop = next y.stop; literal = λ no. d; element = LiteralElement d; held = z.held; fresh = z.fresh }

  -- the elements of an array
  reads_elements : (ls : LiteralsOf Text) → WellFormedLiterals ls → (w : World) (n : ℕ) (i : Input) (h : Notes) (s : Text) → ends s ≡ true → n + literals_height ls ≤ 400 → Here w n i h (pieces_joined (codes " ") (literal_texts ls) ++ s) → ElementsRead w n i h ls s
  reads_elements no_literals g w n i h s e le a = record { stop = i; elements = NoElements tt; here = a }
  reads_elements (more_literals l ls) g w n i h s e le a =
      let rest = blanked (literal_texts ls) in
      let x = reads_literal l g.0 w n i h (rest ++ s) (ends_blanked (literal_texts ls) s e) (omega arith) (text_as ((literal_text l ++ rest) ++ s) (literal_text l ++ (rest ++ s)) (append_assoc (literal_text l) rest s) a) in
      let y = reads_more ls g.1 w n x.stop h s e (omega arith) (held_as x.held x.fresh.here) in
      record { stop = y.stop; elements = OneElement {m = x.stop} {j = y.stop} x.element y.elements; here = y.here }

  -- further elements, each behind a blank
  reads_more : (ls : LiteralsOf Text) → WellFormedLiterals ls → (w : World) (n : ℕ) (i : Input) (h : Notes) (s : Text) → ends s ≡ true → n + literals_height ls ≤ 400 → Here w n i h (blanked (literal_texts ls) ++ s) → ElementsRead w n i h ls s
  reads_more no_literals g w n i h s e le a = record { stop = i; elements = NoElements tt; here = a }
  reads_more (more_literals l ls) g w n i h s e le a =
      let rest = blanked (literal_texts ls) in
      let one = text_as ((literal_text l ++ rest) ++ s) (literal_text l ++ (rest ++ s)) (append_assoc (literal_text l) rest s) (blank_step 32 ((literal_text l ++ rest) ++ s) refl a) in
      let x = reads_literal l g.0 w n i h (rest ++ s) (ends_blanked (literal_texts ls) s e) (omega arith) one in
      let y = reads_more ls g.1 w n x.stop h s e (omega arith) (held_as x.held x.fresh.here) in
      record { stop = y.stop; elements = OneElement {m = x.stop} {j = y.stop} x.element y.elements; here = y.here }
