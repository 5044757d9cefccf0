-- A reader puts out the events of the literals that it reads.
use Rattle.std.proofs.Common.{◌≡◌, ℕ, suc, ◌+◌, Bool, true, false, List, [], ◌∷◌, ◌++◌, refl, ap, sym, ◌∙◌, subst, arith, append_assoc, ◌⊎◌, inl, inr}
use Rattle.std.proofs.lemmas.List.{append-nil}
use Rattle.std.specs.Prelude.{◌==◌, if◌then◌else◌}
use Rattle.std.proofs.lemmas.Bool.Decides.{nat_tests}
use Rattle.tree_model.specs.Tree.{Notes, LiteralOf, array, bytes, LiteralsOf}
use Rattle.grammar_model.specs.Terminal.{Text, BinaryKind, Sign, NumeralKind, SmallDigits, LargeDigits, Group, BlockStart, BraceStart, ArrayStart, BytesStart, GroupEnd, BlockEnd, KeywordKind, AnyKeyword, PrimitiveKeyword, AnyKey, Terminal, Name, Keyword, Binary, Numeral, Constant, Opens, Closes}
use Rattle.grammar_model.specs.Input.{lex, Input, kind_of, from_of, next}
use Rattle.grammar_model.specs.Ahead.{Longest, IsDigits}
use Rattle.grammar_model.specs.Literals.{NoSign, IsKeyword, NoAnyKey, KeywordRow, LastKeyword, JoinedKeyword, ByteElements, OneByte, NoBytes, LiteralAt, Unsigned, Negative, Fixed, Array, ByteArray, Element, LiteralElement, InnerArray, InnerBytes, NameElement, KeywordElement, BinaryElement, Elements, OneElement, NoElements}
use Rattle.grammar_model.proofs.Reading.{IsReal, IsLiteralStart}
use Rattle.parse_events.specs.Found.{literal_events, literals_events, count_literals}
use Rattle.parse_events.specs.declared.event.Event.{Event}
use Rattle.parse_events.specs.declared.event.Event.TheVariants as event
use Rattle.st_events.specs.declared.part.Part.{Part}
use Rattle.st_events.specs.declared.part.Part.TheVariants as part
use Rattle.st_events.specs.declared.part.LiteralPart.TheVariants as literal
use Rattle.st_events.specs.declared.reader.Head.{Head}
use Rattle.st_events.specs.declared.reader.Reader.{Reader}
use Rattle.st_events.specs.declared.answers.Answer.TheVariants.{Refuses, Takes}
use Rattle.st_events.specs.Classes.{is_element}
use Rattle.st_events.specs.Answers.{taken_if, answer}
use Rattle.st_events.specs.Steps.{pushed, emitted, begin_literal, element_taken, joined_taken, step, run}
use Rattle.st_events.proofs.Running.{reader, found, go, takes_one, leaves_one}

-- a literal begins with one of these tokens
pub starts_LiteralAt : {i j : Input} {l : LiteralOf Text} → LiteralAt Longest i l j → IsLiteralStart (kind_of i)
starts_LiteralAt (Unsigned e) = subst IsLiteralStart (sym e) tt
starts_LiteralAt (Negative e f) = subst IsLiteralStart (sym e) tt
starts_LiteralAt (Fixed e) = subst IsLiteralStart (sym e) tt
starts_LiteralAt (Array e d c) = subst IsLiteralStart (sym e) tt
starts_LiteralAt (ByteArray e d c) = subst IsLiteralStart (sym e) tt

-- such a token is not the end
pub real_literal : (k : Terminal) → IsLiteralStart k → IsReal k
real_literal (Binary Sign s) h = tt
real_literal (Numeral c t) h = tt
real_literal (Constant l) h = tt
real_literal (Opens ArrayStart) h = tt
real_literal (Opens BytesStart) h = tt
real_literal k h = absurd h

-- an array's elements go on with such a token
element_literal : (n : ℕ) (k : Terminal) (e : ℕ) (r : Reader) → IsLiteralStart k → element_taken n k e r ≡ begin_literal k (pushed (part.Literal (literal.Elements (n + 1))) r)
element_literal n (Binary Sign s) e r h = refl
element_literal n (Numeral c t) e r h = refl
element_literal n (Constant l) e r h = refl
element_literal n (Opens ArrayStart) e r h = refl
element_literal n (Opens BytesStart) e r h = refl
element_literal n k e r h = absurd h

-- such a token is an element
is_element_literal : (k : Terminal) → IsLiteralStart k → is_element k ≡ true
is_element_literal (Binary Sign s) h = refl
is_element_literal (Numeral c t) h = refl
is_element_literal (Constant l) h = refl
is_element_literal (Opens ArrayStart) h = refl
is_element_literal (Opens BytesStart) h = refl
is_element_literal k h = absurd h

-- a binary selector is an element
element_binary : (n : ℕ) (c : BinaryKind) (s : Text) (e : ℕ) (r : Reader) → NoSign c → element_taken n (Binary c s) e r ≡ emitted (event.Symbol s) (pushed (part.Literal (literal.Elements (n + 1))) r)
element_binary n Sign s e r h = absurd h
element_binary n c s e r h = refl

-- the first keyword of a row
abbrev pub first_of_row : {i j : Input} {s : Text} → KeywordRow i s j → (c : KeywordKind) × (k : Text) × (kind_of i ≡ Keyword c k) × NoAnyKey c
first_of_row (LastKeyword {c} {k} e a h) = (c, k, e, a)
first_of_row (JoinedKeyword {c} {k} e a h d) = (c, k, e, a)

-- a keyword that is no metavariable is an element
element_keyword : (c : KeywordKind) (n : Text) → NoAnyKey c → is_element (Keyword c n) ≡ true
element_keyword AnyKey n a = absurd a
element_keyword c n a = refl

-- equal places
same_place : (a b : ℕ) → (a == b) ≡ true → a ≡ b
same_place a b h = grind (arith, nat_tests)

-- a place is itself
place_same : (a b : ℕ) → a ≡ b → (a == b) ≡ true
place_same a b h = grind (arith, nat_tests)

-- a flag is set or not
set_or_not : (b : Bool) → (b ≡ true) ⊎ (b ≡ false)
set_or_not true = inl refl
set_or_not false = inr refl

-- a keyword that is no metavariable, behind keywords that do not end where it begins, is an element of its own
joined_keyword : (s : Text) (to n : ℕ) (c : KeywordKind) (k : Text) (f e : ℕ) (r : Reader) → (IsKeyword (Keyword c k) → f ≡ to → ⊥) → NoAnyKey c →
    joined_taken s to n (Keyword c k) f e r ≡ element_taken n (Keyword c k) e (emitted (event.Symbol s) r)
joined_keyword s to n AnyKey k f e r apart a = absurd a
joined_keyword s to n c k f e r apart a = elim (set_or_not (f == to)) [
  | inl same ↦ absurd (apart tt (same_place f to same))
  | inr other ↦ ap (λ b. if b then pushed (part.Literal (literal.BehindKeyword (s ++ k) e n)) r else element_taken n (Keyword c k) e (emitted (event.Symbol s) r)) other
]

-- behind keywords that are not joined to others stand the elements of the array
apart_step : (s : Text) (to n : ℕ) (ss : List Part) (es : List Event) (h : Head) (d : Notes) (l : ℕ) (k : Terminal) (c : Notes) (f e : ℕ) → (IsKeyword k → f ≡ to → ⊥) →
    step (part.Literal (literal.BehindKeyword s to n) ∷ ss) (reader (part.Literal (literal.BehindKeyword s to n) ∷ ss) es h d l) (lex c f e k) ≡
    step (part.Literal (literal.Elements n) ∷ ss) (reader (part.Literal (literal.Elements n) ∷ ss) (es ++ event.Symbol s ∷ []) h d l) (lex c f e k)
apart_step s to n ss es h d l (Keyword AnyKey k) c f e apart = refl
apart_step s to n ss es h d l (Keyword AnyKeyword k) c f e apart = joined_keyword s to n AnyKeyword k f e (reader ss es h (d ++ c) e) apart tt
apart_step s to n ss es h d l (Keyword PrimitiveKeyword k) c f e apart = joined_keyword s to n PrimitiveKeyword k f e (reader ss es h (d ++ c) e) apart tt
apart_step s to n ss es h d l (Opens BraceStart) c f e apart = refl
apart_step s to n ss es h d l (Closes GroupEnd) c f e apart = refl
apart_step s to n ss es h d l k c f e apart = refl

-- keywords that are not joined to others
law_apart : (s : Text) (to n : ℕ) (ss : List Part) (es : List Event) (h : Head) (i : Input) → (IsKeyword (kind_of i) → from_of i ≡ to → ⊥) →
    go (part.Literal (literal.BehindKeyword s to n) ∷ ss) es h i ≡ go (part.Literal (literal.Elements n) ∷ ss) (es ++ event.Symbol s ∷ []) h i
law_apart s to n ss es h i apart =
    leaves_one (part.Literal (literal.BehindKeyword s to n)) (part.Literal (literal.Elements n)) ss es (es ++ event.Symbol s ∷ []) h i i.held
    (λ c e. apart_step s to n ss es h i.held i.last (kind_of i) c (from_of i) e apart)

-- a keyword that is joined to others
joins : (s : Text) (to n : ℕ) (c : KeywordKind) (k : Text) (f e : ℕ) (r : Reader) → f ≡ to → joined_taken s to n (Keyword c k) f e r ≡ pushed (part.Literal (literal.BehindKeyword (s ++ k) e n)) r
joins s to n c k f e r same = ap (λ b. if b then pushed (part.Literal (literal.BehindKeyword (s ++ k) e n)) r else element_taken n (Keyword c k) e (emitted (event.Symbol s) r)) (place_same f to same)

-- a row of keywords behind its first keyword, to which others were joined
law_KeywordRow : {i j : Input} {s : Text} (d : KeywordRow i s j) (p : Text) (n : ℕ) (ss : List Part) (es : List Event) (h : Head) →
    go (part.Literal (literal.BehindKeyword (p ++ (first_of_row d).1) (next i).last n) ∷ ss) es h (next i) ≡ go (part.Literal (literal.Elements n) ∷ ss) (es ++ event.Symbol (p ++ s) ∷ []) h j
law_KeywordRow {i} (LastKeyword {c} {k} e a apart) p n ss es h = law_apart (p ++ k) (next i).last n ss es h (next i) (λ keyword at. apart (record { keyword = keyword; at = at }))
law_KeywordRow {i} {j} (JoinedKeyword {c} {k} {s} e a joined d) p n ss es h =
    let f = first_of_row d in
    let to = (next i).last in
    takes_one (part.Literal (literal.BehindKeyword (p ++ k) to n)) ss es h (next i) (Keyword f.0 f.1) f.2 tt (ap (λ b. taken_if b Refuses) (element_keyword f.0 f.1 f.3)) ∙
    ap (λ r. run r (next (next i)).rest) (joins (p ++ k) to n f.0 f.1 (from_of (next i)) (next (next i)).last (found ss es h (next (next i))) joined.at) ∙
    law_KeywordRow d (p ++ k) n ss es h ∙ ap (λ x. go (part.Literal (literal.Elements n) ∷ ss) (es ++ event.Symbol x ∷ []) h j) (append_assoc p k s)

-- a numeral of digits alone is taken
byte_taken : (n : ℕ) (c : NumeralKind) (t : Text) → IsDigits (Numeral c t) → answer (part.Literal (literal.Bytes n)) (Numeral c t) ≡ Takes
byte_taken n SmallDigits t g = refl
byte_taken n LargeDigits t g = refl
byte_taken n c t g = absurd g

-- numbers of a byte array
law_ByteElements : {i j : Input} {xs : LiteralsOf Text} → ByteElements Longest i xs j → (n : ℕ) (ss : List Part) (es : List Event) (h : Head) →
    go (part.Literal (literal.Bytes n) ∷ ss) es h i ≡ go (part.Literal (literal.Bytes (n + count_literals xs)) ∷ ss) (es ++ literals_events xs) h j
law_ByteElements {i} {j} (OneByte {c} {t} {xs} e g d) n ss es h =
    takes_one (part.Literal (literal.Bytes n)) ss es h i (Numeral c t) e tt (byte_taken n c t (subst IsDigits e g)) ∙ law_ByteElements d (n + 1) ss (es ++ event.Number t ∷ []) h ∙
    (let a : n + 1 + count_literals xs ≡ n + suc (count_literals xs) = omega arith in
    let b = append_assoc es (event.Number t ∷ []) (literals_events xs) in
    λ x. go (part.Literal (literal.Bytes (a x)) ∷ ss) (b x) h j)
law_ByteElements {j} (NoBytes g) n ss es h =
    let a : n ≡ n + 0 = omega arith in
    let b = sym (append-nil es) in
    λ x. go (part.Literal (literal.Bytes (a x)) ∷ ss) (b x) h j

-- a byte array behind its opening mark
law_bytes : {i m : Input} {xs : LiteralsOf Text} → ByteElements Longest i xs m → kind_of m ≡ Closes BlockEnd → (ss : List Part) (es : List Event) (h : Head) →
    go (part.Literal (literal.Bytes 0) ∷ ss) es h i ≡ go ss (es ++ literal_events (bytes xs)) h (next m)
law_bytes {m} {xs} d c ss es h =
    let z : 0 + count_literals xs ≡ count_literals xs = omega arith in
    law_ByteElements d 0 ss es h ∙ ap (λ n. go (part.Literal (literal.Bytes n) ∷ ss) (es ++ literals_events xs) h m) z ∙ takes_one (part.Literal (literal.Bytes (count_literals xs))) ss (es ++ literals_events xs) h m (Closes BlockEnd) c tt refl ∙
    ap (λ x. go ss x h (next m)) (append_assoc es (literals_events xs) (event.Bytes (count_literals xs) ∷ []))

-- an array behind its opening mark, where its elements are read so
close_array : {i m : Input} {xs : LiteralsOf Text} → Elements Longest i xs m → (ss : List Part) (es : List Event) (h : Head) → kind_of m ≡ Closes GroupEnd →
    go (part.Literal (literal.Elements 0) ∷ ss) es h i ≡ go (part.Literal (literal.Elements (0 + count_literals xs)) ∷ ss) (es ++ literals_events xs) h m →
    go (part.Literal (literal.Elements 0) ∷ ss) es h i ≡ go ss (es ++ literal_events (array xs)) h (next m)
close_array {m} {xs} d ss es h c read =
    let z : 0 + count_literals xs ≡ count_literals xs = omega arith in
    read ∙ ap (λ n. go (part.Literal (literal.Elements n) ∷ ss) (es ++ literals_events xs) h m) z ∙ takes_one (part.Literal (literal.Elements (count_literals xs))) ss (es ++ literals_events xs) h m (Closes GroupEnd) c tt refl ∙
    ap (λ x. go ss x h (next m)) (append_assoc es (literals_events xs) (event.Array (count_literals xs) ∷ []))

mutual
  -- a literal, behind its first token
  pub law_LiteralAt : {i j : Input} {l : LiteralOf Text} → LiteralAt Longest i l j → (ss : List Part) (es : List Event) (h : Head) →
      run (begin_literal (kind_of i) (found ss es h (next i))) (next i).rest ≡ go ss (es ++ literal_events l) h j
  law_LiteralAt {i} (Unsigned e) ss es h = ap (λ k. run (begin_literal k (found ss es h (next i))) (next i).rest) e
  law_LiteralAt {i} (Negative {c} {s} {t} e f) ss es h =
      ap (λ k. run (begin_literal k (found ss es h (next i))) (next i).rest) e ∙ takes_one (part.Literal (literal.Numeral s)) ss es h (next i) (Numeral c t) f tt refl
  law_LiteralAt {i} (Fixed e) ss es h = ap (λ k. run (begin_literal k (found ss es h (next i))) (next i).rest) e
  law_LiteralAt {i} (Array {m} {xs} e d c) ss es h = ap (λ k. run (begin_literal k (found ss es h (next i))) (next i).rest) e ∙ close_array d ss es h c (law_Elements d 0 ss es h)
  law_LiteralAt {i} (ByteArray e d c) ss es h = ap (λ k. run (begin_literal k (found ss es h (next i))) (next i).rest) e ∙ law_bytes d c ss es h

  -- an element of an array
  law_Element : {i j : Input} {l : LiteralOf Text} → Element Longest i l j → (n : ℕ) (ss : List Part) (es : List Event) (h : Head) →
      go (part.Literal (literal.Elements n) ∷ ss) es h i ≡ go (part.Literal (literal.Elements (n + 1)) ∷ ss) (es ++ literal_events l) h j
  law_Element {i} (LiteralElement d) n ss es h =
      let s = starts_LiteralAt d in
      takes_one (part.Literal (literal.Elements n)) ss es h i (kind_of i) refl (real_literal (kind_of i) s) (ap (λ b. taken_if b Refuses) (is_element_literal (kind_of i) s)) ∙
      ap (λ r. run r (next i).rest) (element_literal n (kind_of i) (next i).last (found ss es h (next i)) s) ∙
      law_LiteralAt d (part.Literal (literal.Elements (n + 1)) ∷ ss) es h
  law_Element {i} (InnerArray {m} {xs} e d c) n ss es h =
      takes_one (part.Literal (literal.Elements n)) ss es h i (Opens Group) e tt refl ∙ close_array d (part.Literal (literal.Elements (n + 1)) ∷ ss) es h c (law_Elements d 0 (part.Literal (literal.Elements (n + 1)) ∷ ss) es h)
  law_Element {i} (InnerBytes e d c) n ss es h =
      takes_one (part.Literal (literal.Elements n)) ss es h i (Opens BlockStart) e tt refl ∙ law_bytes d c (part.Literal (literal.Elements (n + 1)) ∷ ss) es h
  law_Element {i} (NameElement {c} {n = m} e) n ss es h = takes_one (part.Literal (literal.Elements n)) ss es h i (Name c m) e tt refl
  law_Element {i} (KeywordElement d) n ss es h =
      let f = first_of_row d in
      takes_one (part.Literal (literal.Elements n)) ss es h i (Keyword f.0 f.1) f.2 tt (ap (λ b. taken_if b Refuses) (element_keyword f.0 f.1 f.3)) ∙ law_KeywordRow d [] (n + 1) ss es h
  law_Element {i} (BinaryElement {c} {s} e g) n ss es h =
      takes_one (part.Literal (literal.Elements n)) ss es h i (Binary c s) e tt refl ∙ ap (λ r. run r (next i).rest) (element_binary n c s (next i).last (found ss es h (next i)) g)

  -- the elements of an array
  law_Elements : {i j : Input} {xs : LiteralsOf Text} → Elements Longest i xs j → (n : ℕ) (ss : List Part) (es : List Event) (h : Head) →
      go (part.Literal (literal.Elements n) ∷ ss) es h i ≡ go (part.Literal (literal.Elements (n + count_literals xs)) ∷ ss) (es ++ literals_events xs) h j
  law_Elements {j} (OneElement {x} {xs} d r) n ss es h =
      law_Element d n ss es h ∙ law_Elements r (n + 1) ss (es ++ literal_events x) h ∙
      (let a : n + 1 + count_literals xs ≡ n + suc (count_literals xs) = omega arith in
      let b = append_assoc es (literal_events x) (literals_events xs) in
      λ y. go (part.Literal (literal.Elements (a y)) ∷ ss) (b y) h j)
  law_Elements {j} (NoElements g) n ss es h =
      let a : n ≡ n + 0 = omega arith in
      let b = sym (append-nil es) in
      λ y. go (part.Literal (literal.Elements (a y)) ∷ ss) (b y) h j
