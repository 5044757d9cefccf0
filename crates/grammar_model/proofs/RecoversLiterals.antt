-- What the machine reads as a literal, the grammar spells.
use Rattle.std.proofs.Common.{◌≡◌, ℕ, zero, suc, ◌+◌, ◌*◌, ◌≤◌, List, [], ◌∷◌, ◌++◌, length, None, refl, sym, ◌∙◌, arith, le_refl, subst}
use Rattle.std.proofs.Math.Decide.{ℕ_discrete}
use Rattle.tree_model.specs.Tree.{Notes, LiteralOf, number, symbol, array, bytes, no_literals, more_literals}
use Rattle.grammar_model.specs.Terminal.{Text, KeywordKind, Sign, NumeralKind, SmallDigits, LargeDigits, Group, BlockStart, ArrayStart, BytesStart, GroupEnd, BlockEnd, BraceEnd, Terminal, Name, Keyword, Binary, Numeral, Constant, Opens, Closes, AnyKeyword, PrimitiveKeyword}
use Rattle.grammar_model.specs.Input.{Lexeme, lex, Input, first_kind, others, kind_of, next}
use Rattle.grammar_model.specs.Ahead.{Longest}
use Rattle.grammar_model.specs.Literals.{word_or_symbol, KeywordRow, LastKeyword, JoinedKeyword, ByteElements, OneByte, NoBytes, LiteralAt, Unsigned, Negative, Fixed, Array, ByteArray, Element, LiteralElement, InnerArray, InnerBytes, NameElement, KeywordElement, BinaryElement, Elements, OneElement, NoElements, NoAnyKey}
use Rattle.grammar_model.specs.Machine.{Stack, TheNumeral, TheElements, TheBytes, Awaits, step, run}
use Rattle.grammar_model.proofs.Reading.{reads, wrong_at, IsLiteralStart}
use Rattle.grammar_model.proofs.Recognizes.{BeginsLiteral, elements_begin}

-- From some place on X spells something, and the rest is read by what is left of the stack.
pub record Got {A : Type 0} (X : A → Input → Type 0) (ts : List Lexeme) (ss : Stack) : Type 0 where
  pub what : A
  pub stop : Input
  pub spells : X what stop
  pub shorter : length stop.rest ≤ length ts
  pub goes_on : run ss stop.rest ≡ None

-- a place from its parts
abbrev pub place : Notes → ℕ → List Lexeme → Input
place h l ts = record { held = h; last = l; rest = ts }

-- a token that the stack awaits stands first
pub record Shut (k : Terminal) (ts : List Lexeme) (ss : Stack) : Type 0 where
  pub is : first_kind ts ≡ k
  pub shorter : suc (length (others ts)) ≡ length ts
  pub goes_on : run ss (others ts) ≡ None

-- a closing parenthesis stands first
pub closed : (ts : List Lexeme) (ss : Stack) → run (Awaits GroupEnd ∷ ss) ts ≡ None → Shut (Closes GroupEnd) ts ss
closed [] ss h = cc
closed (lex c f e (Closes GroupEnd) ∷ ts) ss h = record { is = refl; shorter = refl; goes_on = h }
closed (lex c f e k ∷ ts) ss h = cc

-- a closing bracket stands first
pub block_closed : (ts : List Lexeme) (ss : Stack) → run (Awaits BlockEnd ∷ ss) ts ≡ None → Shut (Closes BlockEnd) ts ss
block_closed [] ss h = cc
block_closed (lex c f e (Closes BlockEnd) ∷ ts) ss h = record { is = refl; shorter = refl; goes_on = h }
block_closed (lex c f e k ∷ ts) ss h = cc

-- a closing brace stands first
pub brace_closed : (ts : List Lexeme) (ss : Stack) → run (Awaits BraceEnd ∷ ss) ts ≡ None → Shut (Closes BraceEnd) ts ss
brace_closed [] ss h = cc
brace_closed (lex c f e (Closes BraceEnd) ∷ ts) ss h = record { is = refl; shorter = refl; goes_on = h }
brace_closed (lex c f e k ∷ ts) ss h = cc

-- where the stack can not read the token the tokens are wrong
pub stuck : (ss : Stack) (c : Notes) (f e : ℕ) (k : Terminal) (ts : List Lexeme) → step ss k ≡ None → run ss (lex c f e k ∷ ts) ≡ None → ⊥
stuck ss c f e k ts s h =
    let r = wrong_at ss c f e k ts s in
    cc

-- the numerals of a byte array, and its end
gets_ByteElements : (h : Notes) (l : ℕ) (ts : List Lexeme) (ss : Stack) → run (TheBytes ∷ Awaits BlockEnd ∷ ss) ts ≡ None → Got (λ xs j. ByteElements Longest (place h l ts) xs j) ts (Awaits BlockEnd ∷ ss)
gets_ByteElements h l [] ss r = cc
gets_ByteElements h l (lex c f e (Numeral SmallDigits t) ∷ ts) ss r =
    let g = gets_ByteElements (h ++ c) e ts ss r in
    record { what = more_literals (number t) g.what; stop = g.stop; spells = OneByte refl tt g.spells; shorter = omega (arith, g.shorter); goes_on = g.goes_on }
gets_ByteElements h l (lex c f e (Numeral LargeDigits t) ∷ ts) ss r =
    let g = gets_ByteElements (h ++ c) e ts ss r in
    record { what = more_literals (number t) g.what; stop = g.stop; spells = OneByte refl tt g.spells; shorter = omega (arith, g.shorter); goes_on = g.goes_on }
gets_ByteElements h l (lex c f e (Closes BlockEnd) ∷ ts) ss r = record { what = no_literals; stop = place h l (lex c f e (Closes BlockEnd) ∷ ts); spells = NoBytes tt; shorter = le_refl _; goes_on = r }
gets_ByteElements h l (lex c f e k ∷ ts) ss r = cc

-- a row of keywords, the first of which was read
gets_KeywordRow : (h : Notes) (l : ℕ) (c : Notes) (f e : ℕ) (k : KeywordKind) (n : Text) → NoAnyKey k → (ts : List Lexeme) (ss : Stack) → run (TheElements ∷ ss) ts ≡ None → Got (λ s j. KeywordRow (place h l (lex c f e (Keyword k n) ∷ ts)) s j) ts (TheElements ∷ ss)
gets_KeywordRow h l c f e k n q [] ss r = record { what = n; stop = place (h ++ c) e []; spells = LastKeyword refl q (λ j. j.keyword); shorter = le_refl _; goes_on = r }
gets_KeywordRow h l c f e k n q (lex c' f' e' (Keyword AnyKeyword n') ∷ ts) ss r =
    let single : ¬ (f' ≡ e) → Got (λ s j. KeywordRow (place h l (lex c f e (Keyword k n) ∷ lex c' f' e' (Keyword AnyKeyword n') ∷ ts)) s j) (lex c' f' e' (Keyword AnyKeyword n') ∷ ts) (TheElements ∷ ss) =
    λ apart. record { what = n; stop = place (h ++ c) e (lex c' f' e' (Keyword AnyKeyword n') ∷ ts); spells = LastKeyword refl q (λ j. apart j.at); shorter = le_refl _; goes_on = r } in
    let g = gets_KeywordRow (h ++ c) e c' f' e' AnyKeyword n' tt ts ss r in
    elim (ℕ_discrete f' e) [
      | yes same ↦ record { what = n ++ g.what; stop = g.stop; spells = JoinedKeyword refl q (record { keyword = tt; at = same }) g.spells; shorter = omega (arith, g.shorter); goes_on = g.goes_on }
      | no apart ↦ single apart
    ]
gets_KeywordRow h l c f e k n q (lex c' f' e' (Keyword PrimitiveKeyword n') ∷ ts) ss r =
    let single : ¬ (f' ≡ e) → Got (λ s j. KeywordRow (place h l (lex c f e (Keyword k n) ∷ lex c' f' e' (Keyword PrimitiveKeyword n') ∷ ts)) s j) (lex c' f' e' (Keyword PrimitiveKeyword n') ∷ ts) (TheElements ∷ ss) =
    λ apart. record { what = n; stop = place (h ++ c) e (lex c' f' e' (Keyword PrimitiveKeyword n') ∷ ts); spells = LastKeyword refl q (λ j. apart j.at); shorter = le_refl _; goes_on = r } in
    let g = gets_KeywordRow (h ++ c) e c' f' e' PrimitiveKeyword n' tt ts ss r in
    elim (ℕ_discrete f' e) [
      | yes same ↦ record { what = n ++ g.what; stop = g.stop; spells = JoinedKeyword refl q (record { keyword = tt; at = same }) g.spells; shorter = omega (arith, g.shorter); goes_on = g.goes_on }
      | no apart ↦ single apart
    ]
gets_KeywordRow h l c f e k n q (lex c' f' e' m ∷ ts) ss r = record { what = n; stop = place (h ++ c) e (lex c' f' e' m ∷ ts); spells = LastKeyword refl q (λ j. j.keyword); shorter = le_refl _; goes_on = r }

-- the numeral behind a sign
gets_Numeral : (h : Notes) (l : ℕ) (ts : List Lexeme) (ss : Stack) → run (TheNumeral ∷ ss) ts ≡ None → Got {A = NumeralKind × Text} (λ v j. (suc (length j.rest) ≤ length ts) × (kind_of (place h l ts) ≡ Numeral v.0 v.1) × (j ≡ next (place h l ts))) ts ss
gets_Numeral h l [] ss r = cc
gets_Numeral h l (lex c f e (Numeral k v) ∷ ts) ss r = record { what = (k, v); stop = place (h ++ c) e ts; spells = (omega arith, refl, refl); shorter = omega arith; goes_on = r }
gets_Numeral h l (lex c f e k ∷ ts) ss r = cc

mutual
  -- elements up to the end of their array
  gets_Elements : (n : ℕ) (h : Notes) (l : ℕ) (ts : List Lexeme) (ss : Stack) → 4 * length ts + 2 ≤ n → run (TheElements ∷ Awaits GroupEnd ∷ ss) ts ≡ None → Got (λ xs j. Elements Longest (place h l ts) xs j) ts (Awaits GroupEnd ∷ ss)
  gets_Elements zero h l ts ss le r = absurd (omega arith)
  gets_Elements (suc n) h l [] ss le r = cc
  gets_Elements (suc n) h l (lex c f e (Closes GroupEnd) ∷ ts) ss le r = record { what = no_literals; stop = place h l (lex c f e (Closes GroupEnd) ∷ ts); spells = NoElements tt; shorter = le_refl _; goes_on = r }
  gets_Elements (suc n) h l (lex c f e (Name k v) ∷ ts) ss le r = more_elements n h l (lex c f e (Name k v) ∷ ts) ss (word_or_symbol v) (place (h ++ c) e ts) (NameElement refl) (omega arith) (omega arith) r
  gets_Elements (suc n) h l (lex c f e (Keyword AnyKeyword v) ∷ ts) ss le r =
      let g = gets_KeywordRow h l c f e AnyKeyword v tt ts (Awaits GroupEnd ∷ ss) r in
      more_elements n h l (lex c f e (Keyword AnyKeyword v) ∷ ts) ss (symbol g.what) g.stop (KeywordElement g.spells) (omega (arith, g.shorter)) (omega arith) g.goes_on
  gets_Elements (suc n) h l (lex c f e (Keyword PrimitiveKeyword v) ∷ ts) ss le r =
      let g = gets_KeywordRow h l c f e PrimitiveKeyword v tt ts (Awaits GroupEnd ∷ ss) r in
      more_elements n h l (lex c f e (Keyword PrimitiveKeyword v) ∷ ts) ss (symbol g.what) g.stop (KeywordElement g.spells) (omega (arith, g.shorter)) (omega arith) g.goes_on
  gets_Elements (suc n) h l (lex c f e (Binary Sign v) ∷ ts) ss le r =
      let g = gets_LiteralAt n h l (lex c f e (Binary Sign v) ∷ ts) (TheElements ∷ Awaits GroupEnd ∷ ss) (TheElements ∷ Awaits GroupEnd ∷ ss) (elements_begin _) tt (omega arith) r in
      more_elements n h l (lex c f e (Binary Sign v) ∷ ts) ss g.what g.stop (LiteralElement g.spells.1) g.spells.0 (omega arith) g.goes_on
  gets_Elements (suc n) h l (lex c f e (Binary k v) ∷ ts) ss le r = more_elements n h l (lex c f e (Binary k v) ∷ ts) ss (symbol v) (place (h ++ c) e ts) (BinaryElement refl tt) (omega arith) (omega arith) r
  gets_Elements (suc n) h l (lex c f e (Numeral k v) ∷ ts) ss le r = more_elements n h l (lex c f e (Numeral k v) ∷ ts) ss (number v) (place (h ++ c) e ts) (LiteralElement (Unsigned refl)) (omega arith) (omega arith) r
  gets_Elements (suc n) h l (lex c f e (Constant v) ∷ ts) ss le r = more_elements n h l (lex c f e (Constant v) ∷ ts) ss v (place (h ++ c) e ts) (LiteralElement (Fixed refl)) (omega arith) (omega arith) r
  gets_Elements (suc n) h l (lex c f e (Opens ArrayStart) ∷ ts) ss le r =
      let g = gets_LiteralAt n h l (lex c f e (Opens ArrayStart) ∷ ts) (TheElements ∷ Awaits GroupEnd ∷ ss) (TheElements ∷ Awaits GroupEnd ∷ ss) (elements_begin _) tt (omega arith) r in
      more_elements n h l (lex c f e (Opens ArrayStart) ∷ ts) ss g.what g.stop (LiteralElement g.spells.1) g.spells.0 (omega arith) g.goes_on
  gets_Elements (suc n) h l (lex c f e (Opens BytesStart) ∷ ts) ss le r =
      let g = gets_LiteralAt n h l (lex c f e (Opens BytesStart) ∷ ts) (TheElements ∷ Awaits GroupEnd ∷ ss) (TheElements ∷ Awaits GroupEnd ∷ ss) (elements_begin _) tt (omega arith) r in
      more_elements n h l (lex c f e (Opens BytesStart) ∷ ts) ss g.what g.stop (LiteralElement g.spells.1) g.spells.0 (omega arith) g.goes_on
  gets_Elements (suc n) h l (lex c f e (Opens Group) ∷ ts) ss le r =
      let a = gets_Elements n (h ++ c) e ts (TheElements ∷ Awaits GroupEnd ∷ ss) (omega arith) r in
      let s = closed a.stop.rest (TheElements ∷ Awaits GroupEnd ∷ ss) a.goes_on in
      more_elements n h l (lex c f e (Opens Group) ∷ ts) ss (array a.what) (next a.stop) (InnerArray refl a.spells s.is) (omega (arith, a.shorter, s.shorter)) (omega arith) s.goes_on
  gets_Elements (suc n) h l (lex c f e (Opens BlockStart) ∷ ts) ss le r =
      let a = gets_ByteElements (h ++ c) e ts (TheElements ∷ Awaits GroupEnd ∷ ss) r in
      let s = block_closed a.stop.rest (TheElements ∷ Awaits GroupEnd ∷ ss) a.goes_on in
      more_elements n h l (lex c f e (Opens BlockStart) ∷ ts) ss (bytes a.what) (next a.stop) (InnerBytes refl a.spells s.is) (omega (arith, a.shorter, s.shorter)) (omega arith) s.goes_on
  gets_Elements (suc n) h l (lex c f e k ∷ ts) ss le r = cc

  -- the elements behind one element
  more_elements : (n : ℕ) (h : Notes) (l : ℕ) (ts : List Lexeme) (ss : Stack) (x : LiteralOf Text) (m : Input) → Element Longest (place h l ts) x m → suc (length m.rest) ≤ length ts → 4 * length ts + 1 ≤ n → run (TheElements ∷ Awaits GroupEnd ∷ ss) m.rest ≡ None → Got (λ xs j. Elements Longest (place h l ts) xs j) ts (Awaits GroupEnd ∷ ss)
  more_elements zero h l ts ss x m d short le r = absurd (omega arith)
  more_elements (suc n) h l ts ss x m d short le r =
      let g = gets_Elements n m.held m.last m.rest ss (omega (arith, short)) r in
      record { what = more_literals x g.what; stop = g.stop; spells = OneElement d g.spells; shorter = omega (arith, g.shorter, short); goes_on = g.goes_on }

  -- a literal; it has at least one token
  pub gets_LiteralAt : (n : ℕ) (h : Notes) (l : ℕ) (ts : List Lexeme) (top below : Stack) → BeginsLiteral top below → IsLiteralStart (first_kind ts) → 4 * length ts + 1 ≤ n → run top ts ≡ None → Got (λ x j. (suc (length j.rest) ≤ length ts) × LiteralAt Longest (place h l ts) x j) ts below
  gets_LiteralAt zero h l ts top below b s le r = absurd (omega arith)
  gets_LiteralAt (suc n) h l [] top below b s le r = absurd s
  gets_LiteralAt (suc n) h l (lex c f e (Numeral k v) ∷ ts) top below b s le r =
      record { what = number v; stop = place (h ++ c) e ts; spells = (omega arith, Unsigned refl); shorter = omega arith; goes_on = sym (reads top below (lex c f e (Numeral k v) ∷ ts) (Numeral k v) refl tt (b _ tt)) ∙ r }
  gets_LiteralAt (suc n) h l (lex c f e (Constant v) ∷ ts) top below b s le r =
      record { what = v; stop = place (h ++ c) e ts; spells = (omega arith, Fixed refl); shorter = omega arith; goes_on = sym (reads top below (lex c f e (Constant v) ∷ ts) (Constant v) refl tt (b _ tt)) ∙ r }
  gets_LiteralAt (suc n) h l (lex c f e (Binary Sign v) ∷ ts) top below b s le r =
      let q = gets_Numeral (h ++ c) e ts below (sym (reads top _ (lex c f e (Binary Sign v) ∷ ts) (Binary Sign v) refl tt (b _ tt)) ∙ r) in
      record { what = number (v ++ q.what.1); stop = q.stop; spells = (omega (arith, q.spells.0), subst (λ j. LiteralAt Longest (place h l (lex c f e (Binary Sign v) ∷ ts)) (number (v ++ q.what.1)) j) (sym q.spells.2) (Negative refl q.spells.1)); shorter = omega (arith, q.shorter); goes_on = q.goes_on }
  gets_LiteralAt (suc n) h l (lex c f e (Opens ArrayStart) ∷ ts) top below b s le r =
      let a = gets_Elements n (h ++ c) e ts below (omega arith) (sym (reads top _ (lex c f e (Opens ArrayStart) ∷ ts) (Opens ArrayStart) refl tt (b _ tt)) ∙ r) in
      let z = closed a.stop.rest below a.goes_on in
      record { what = array a.what; stop = next a.stop; spells = (omega (arith, a.shorter, z.shorter), Array refl a.spells z.is); shorter = omega (arith, a.shorter, z.shorter); goes_on = z.goes_on }
  gets_LiteralAt (suc n) h l (lex c f e (Opens BytesStart) ∷ ts) top below b s le r =
      let a = gets_ByteElements (h ++ c) e ts below (sym (reads top _ (lex c f e (Opens BytesStart) ∷ ts) (Opens BytesStart) refl tt (b _ tt)) ∙ r) in
      let z = block_closed a.stop.rest below a.goes_on in
      record { what = bytes a.what; stop = next a.stop; spells = (omega (arith, a.shorter, z.shorter), ByteArray refl a.spells z.is); shorter = omega (arith, a.shorter, z.shorter); goes_on = z.goes_on }
  gets_LiteralAt (suc n) h l (lex c f e k ∷ ts) top below b s le r = absurd s
