-- The machine reads exactly the texts of the grammar.
use Rattle.std.proofs.Common.{◌≡◌, ℕ, ◌+◌, ◌*◌, ◌≤◌, Bool, true, false, List, [], ◌∷◌, ◌++◌, length, Option, Some, None, refl, ap, sym, ◌∙◌, arith, le_refl, subst}
use Rattle.std.specs.Str.Parse.{digits_value}
use Rattle.tree_model.specs.Tree.{Notes}
use Rattle.grammar_model.specs.Terminal.{Text, NameKind, KeywordKind, PrimitiveKeyword, Less, Greater, Bar, SmallDigits, TextEnd, Terminal, Name, Keyword, Binary, Numeral, Closes}
use Rattle.grammar_model.specs.Input.{Lexeme, lex, Input, first_kind, others, kind_of, from_of, next}
use Rattle.grammar_model.specs.Spanned.{Declared, SpannedStatements, NoStatements}
use Rattle.grammar_model.specs.Ahead.{Longest}
use Rattle.grammar_model.specs.Whole.{IsOver, PatternParts, LastPatternPart, FurtherPatternPart, Pattern, UnaryPattern, BinaryPattern, KeywordPattern, MethodBody, WithBars, WithoutBars, Primitive, OnePrimitive, Behind, Plainly, Primitively, Form, DoIt, Method, IsText, PatternText}
use Rattle.grammar_model.specs.Machine.{Stack, TheSequence, TheNames, TheStatements, ThePattern, BinaryName, KeywordName, PatternRest, KernelBody, ThePrimitive, PrimitiveNumber, PrimitiveEnd, Awaits, body_part, run, start}
use Rattle.grammar_model.proofs.OneWhole.{closing_bracket}
use Rattle.grammar_model.proofs.Reading.{reads, reads_alike, Takes, takes_closing, as_statements, NoLess, as_body, pattern_end}
use Rattle.grammar_model.proofs.Recognizes.{reads_Names, reads_Sequence, reads_Statements, reads_Expression}
use Rattle.grammar_model.proofs.RecoversLiterals.{Got, place}
use Rattle.grammar_model.proofs.Recovers.{gets_Names, gets_Sequence, gets_Statements, gets_Expression}

-- the end of the text is awaited
abbrev bottom : Stack
bottom = Awaits TextEnd ∷ []

-- the end of a text is read
takes_end : {i : Input} {c : Notes} → IsOver i c → Takes bottom (kind_of i)
takes_end {i} o = takes_closing TextEnd (kind_of i) [] (ap first_kind o.over)

-- and nothing is left
reads_end : {i : Input} {c : Notes} → IsOver i c → run bottom i.rest ≡ None
reads_end o = ap (run bottom) o.over

-- the keywords of a pattern, read by the machine
reads_PatternParts : {i j : Input} {s : Text} {ds : List Declared} → PatternParts Longest i s ds j → (kernel : Bool) (ss : Stack) → run (PatternRest kernel ∷ ss) i.rest ≡ run (body_part kernel ∷ ss) j.rest
reads_PatternParts {i} (LastPatternPart {c} {d} {k} {n} e f h) kernel ss =
    reads _ _ i.rest (Keyword c k) e tt refl ∙ reads (KeywordName kernel ∷ ss) _ (next i).rest (Name d n) f tt refl ∙ pattern_end kernel (next (next i)).rest ss h
reads_PatternParts {i} (FurtherPatternPart {c} {d} {k} {n} e f r) kernel ss =
    reads _ _ i.rest (Keyword c k) e tt refl ∙ reads (KeywordName kernel ∷ ss) _ (next i).rest (Name d n) f tt refl ∙ reads_PatternParts r kernel ss

-- the first keyword
first_keyword : {i j : Input} {s : Text} {ds : List Declared} → PatternParts Longest i s ds j → (c : KeywordKind) × (k : Text) × (kind_of i ≡ Keyword c k)
first_keyword (LastPatternPart {c} {k} e f h) = (c, k, e)
first_keyword (FurtherPatternPart {c} {k} e f r) = (c, k, e)

-- a pattern, read by the machine
reads_Pattern : {i j : Input} {s : Text} {ds : List Declared} → Pattern Longest i s ds j → (kernel : Bool) (ss : Stack) → run (ThePattern kernel ∷ ss) i.rest ≡ run (body_part kernel ∷ ss) j.rest
reads_Pattern {i} (UnaryPattern {c} {n} e) kernel ss = reads _ _ i.rest (Name c n) e tt refl
reads_Pattern {i} (BinaryPattern {c} {d} {s} {n} e f) kernel ss = reads _ _ i.rest (Binary c s) e tt refl ∙ reads (BinaryName kernel ∷ ss) _ (next i).rest (Name d n) f tt refl
reads_Pattern {i} (KeywordPattern d) kernel ss =
    let k = first_keyword d in
    reads_alike (ThePattern kernel ∷ ss) (PatternRest kernel ∷ ss) _ i.rest (Keyword k.0 k.1) k.2 tt refl refl ∙ reads_PatternParts d kernel ss

-- the body of a method, read by the machine
reads_MethodBody : {i j : Input} {c : Notes} {ds : List Declared} {ss : SpannedStatements} → MethodBody Longest i c ds ss j → (below : Stack) → Takes below (kind_of j) → run (TheSequence ∷ below) i.rest ≡ run below j.rest
reads_MethodBody {i} (WithBars {m} {s} {t} e d f b) below k =
    reads _ _ i.rest (Binary Bar s) e tt refl ∙ reads_Names d below ∙ reads (TheNames ∷ below) _ m.rest (Binary Bar t) f tt refl ∙ reads_Statements b below k
reads_MethodBody {i} (WithoutBars h b) below k = as_statements i.rest below h ∙ reads_Statements b below k

-- a token that is no bracket of primitives
not_less : (k : Terminal) → ((s : Text) → k ≡ Binary Less s → ⊥) → NoLess k
not_less (Binary Less s) h = h s refl
not_less k h = tt

-- a method's body begins with no bracket of primitives
no_less : {i j : Input} {c t : Notes} {ds : List Declared} {ss : SpannedStatements} → MethodBody Longest i c ds ss j → IsOver j t → NoLess (kind_of i)
no_less {i} (WithBars e d f b) o = not_less (kind_of i) (λ s less. let k = sym e ∙ less in cc)
no_less {i} (WithoutBars h b) o = not_less (kind_of i) (λ s less. closing_bracket less b o)

-- a primitive, read by the machine
reads_Primitive : {i j : Input} {n : ℕ} → Primitive i n j → (ss : Stack) → run (KernelBody ∷ ss) i.rest ≡ run ss j.rest
reads_Primitive {i} (OnePrimitive {s} {k} {t} {u} a b c d) ss =
    reads _ _ i.rest (Binary Less s) a tt refl ∙ reads (ThePrimitive ∷ ss) _ (next i).rest (Keyword PrimitiveKeyword k) b tt refl ∙
    reads (PrimitiveNumber ∷ ss) _ (next (next i)).rest (Numeral SmallDigits t) c tt refl ∙ reads (PrimitiveEnd ∷ ss) _ (next (next (next i))).rest (Binary Greater u) d tt refl

-- what stands behind a pattern, read by the machine
reads_Behind : {kernel : Bool} {i j : Input} {c t : Notes} {n : Option ℕ} {ds : List Declared} {ss : SpannedStatements} → Behind Longest kernel i c n ds ss j → IsOver j t → run (body_part kernel ∷ bottom) i.rest ≡ run bottom j.rest
reads_Behind {kernel} {i} (Plainly b) o = as_body kernel i.rest bottom (no_less b o) ∙ reads_MethodBody b bottom (takes_end o)
reads_Behind (Primitively p) o = reads_Primitive p bottom

-- a text is read to its end
pub reads_text : (form : Form) (ts : List Lexeme) → IsText form ts → run (start form) ts ≡ None
reads_text DoIt ts (s, d) = reads_Sequence d.sequence bottom (takes_end d.over) ∙ reads_end d.over
reads_text PatternText ts (t, d) = reads_Expression d.expression bottom ∙ reads_end d.over
reads_text (Method kernel) ts (m, d) = reads_Pattern d.pattern kernel bottom ∙ reads_Behind d.behind d.over ∙ reads_end d.over

-- no token is read where nothing is left
nothing : (t : Lexeme) (ts : List Lexeme) → run [] (t ∷ ts) ≡ None → ⊥
nothing (lex c f e k) ts h = cc

-- the end of a text
gets_end : (h : Notes) (l : ℕ) (ts : List Lexeme) → run bottom ts ≡ None → (c : Notes) × IsOver (place h l ts) c
gets_end h l [] r = cc
gets_end h l (lex c f e (Closes TextEnd) ∷ []) r = (h ++ c, record { notes = c; from = f; to = e; over = refl; tail_is = refl })
gets_end h l (lex c f e (Closes TextEnd) ∷ t ∷ ts) r = absurd (nothing t ts r)
gets_end h l (lex c f e k ∷ ts) r = cc

-- keywords of a pattern, the first of which was read
gets_PatternParts : (kernel : Bool) (h : Notes) (l : ℕ) (c : Notes) (f e : ℕ) (k : KeywordKind) (m : Text) (ts : List Lexeme) (ss : Stack) → run (KeywordName kernel ∷ ss) ts ≡ None →
    Got {A = Text × List Declared} (λ v j. PatternParts Longest (place h l (lex c f e (Keyword k m) ∷ ts)) v.0 v.1 j) ts (body_part kernel ∷ ss)
gets_PatternParts kernel h l c f e k m [] ss r = cc
gets_PatternParts kernel h l c f e k m (lex c' f' e' (Name d n) ∷ lex a b g (Keyword k' m') ∷ ts) ss r =
    let q = gets_PatternParts kernel ((h ++ c) ++ c') e' a b g k' m' ts ss r in
    record { what = (m ++ q.what.0, record { name = n; from = f' } ∷ q.what.1); stop = q.stop; spells = FurtherPatternPart refl refl q.spells; shorter = omega (arith, q.shorter); goes_on = q.goes_on }
gets_PatternParts kernel h l c f e k m (lex c' f' e' (Name d n) ∷ ts) ss r =
    record { what = (m, record { name = n; from = f' } ∷ []); stop = place ((h ++ c) ++ c') e' ts; spells = LastPatternPart refl refl tt; shorter = omega arith; goes_on = sym (pattern_end kernel ts ss tt) ∙ r }
gets_PatternParts kernel h l c f e k m (lex c' f' e' d ∷ ts) ss r = cc

-- the name behind a binary selector
gets_Name : (kernel : Bool) (h : Notes) (l : ℕ) (ts : List Lexeme) (ss : Stack) → run (BinaryName kernel ∷ ss) ts ≡ None → Got {A = NameKind × Text} (λ v j. (kind_of (place h l ts) ≡ Name v.0 v.1) × (j ≡ next (place h l ts))) ts (body_part kernel ∷ ss)
gets_Name kernel h l [] ss r = cc
gets_Name kernel h l (lex c f e (Name d n) ∷ ts) ss r = record { what = (d, n); stop = place (h ++ c) e ts; spells = (refl, refl); shorter = omega arith; goes_on = r }
gets_Name kernel h l (lex c f e k ∷ ts) ss r = cc

-- a pattern, which the grammar spells where the machine reads it
gets_Pattern : (kernel : Bool) (h : Notes) (l : ℕ) (ts : List Lexeme) (ss : Stack) → run (ThePattern kernel ∷ ss) ts ≡ None → Got {A = Text × List Declared} (λ v j. Pattern Longest (place h l ts) v.0 v.1 j) ts (body_part kernel ∷ ss)
gets_Pattern kernel h l [] ss r = cc
gets_Pattern kernel h l (lex c f e (Name d n) ∷ ts) ss r = record { what = (n, []); stop = place (h ++ c) e ts; spells = UnaryPattern refl; shorter = omega arith; goes_on = r }
gets_Pattern kernel h l (lex c f e (Binary k s) ∷ ts) ss r =
    let g = gets_Name kernel (h ++ c) e ts ss r in
    let i = place h l (lex c f e (Binary k s) ∷ ts) in
    let ds : List Declared = record { name = g.what.1; from = from_of (next i) } ∷ [] in
    record { what = (s, ds); stop = g.stop; spells = subst (Pattern Longest i s ds) (sym g.spells.1) (BinaryPattern refl g.spells.0); shorter = omega (arith, g.shorter); goes_on = g.goes_on }
gets_Pattern kernel h l (lex c f e (Keyword k m) ∷ ts) ss r =
    let g = gets_PatternParts kernel h l c f e k m ts ss r in
    record { what = g.what; stop = g.stop; spells = KeywordPattern g.spells; shorter = omega (arith, g.shorter); goes_on = g.goes_on }
gets_Pattern kernel h l (lex c f e k ∷ ts) ss r = cc

-- the body of a method, which the grammar spells where the machine reads it
gets_MethodBody : (h : Notes) (l : ℕ) (ts : List Lexeme) (ss : Stack) → run (TheSequence ∷ ss) ts ≡ None → Got {A = Notes × List Declared × SpannedStatements} (λ v j. MethodBody Longest (place h l ts) v.0 v.1 v.2 j) ts ss
gets_MethodBody h l (lex c f e (Binary Bar s) ∷ ts) ss r =
    let d = gets_Names [] e ts ss r in
    let m = next d.spells.0 in
    let short : length m.rest ≤ length ts = omega (arith, d.shorter, ap (λ (j : Input). length j.rest) d.spells.4) in
    let b = gets_Statements (16 * length m.rest + 7) m.held m.last m.rest ss (le_refl _) (subst (λ (j : Input). run (TheStatements ∷ ss) j.rest ≡ None) d.spells.4 d.goes_on) in
    record { what = (h ++ c, d.what, b.what); stop = b.stop; spells = WithBars refl d.spells.2 d.spells.3 b.spells; shorter = omega (arith, b.shorter, short); goes_on = b.goes_on }
gets_MethodBody h l ts ss r =
    let b = gets_Statements (16 * length ts + 7) h l ts ss (le_refl _) (sym (as_statements ts ss tt) ∙ r) in
    record { what = ([], [], b.what); stop = b.stop; spells = WithoutBars tt b.spells; shorter = b.shorter; goes_on = b.goes_on }

-- a token of a primitive is the next one
record NextIs (k : Text → Terminal) (ts : List Lexeme) (ss : Stack) : Type 0 where
  text : Text
  is : first_kind ts ≡ k text
  shorter : length (others ts) ≤ length ts
  goes_on : run ss (others ts) ≡ None

-- the keyword of a primitive
primitive_keyword : (ts : List Lexeme) (ss : Stack) → run (ThePrimitive ∷ ss) ts ≡ None → NextIs (Keyword PrimitiveKeyword) ts (PrimitiveNumber ∷ ss)
primitive_keyword [] ss r = cc
primitive_keyword (lex c f e (Keyword PrimitiveKeyword k) ∷ ts) ss r = record { text = k; is = refl; shorter = omega arith; goes_on = r }
primitive_keyword (lex c f e k ∷ ts) ss r = cc

-- the number of a primitive
primitive_number : (ts : List Lexeme) (ss : Stack) → run (PrimitiveNumber ∷ ss) ts ≡ None → NextIs (Numeral SmallDigits) ts (PrimitiveEnd ∷ ss)
primitive_number [] ss r = cc
primitive_number (lex c f e (Numeral SmallDigits k) ∷ ts) ss r = record { text = k; is = refl; shorter = omega arith; goes_on = r }
primitive_number (lex c f e k ∷ ts) ss r = cc

-- the end of a primitive
primitive_end : (ts : List Lexeme) (ss : Stack) → run (PrimitiveEnd ∷ ss) ts ≡ None → NextIs (Binary Greater) ts ss
primitive_end [] ss r = cc
primitive_end (lex c f e (Binary Greater k) ∷ ts) ss r = record { text = k; is = refl; shorter = omega arith; goes_on = r }
primitive_end (lex c f e k ∷ ts) ss r = cc

-- what stands behind a pattern
record GotBehind (kernel : Bool) (i : Input) (ss : Stack) : Type 0 where
  opening : Notes
  primitive : Option ℕ
  temporaries : List Declared
  statements : SpannedStatements
  stop : Input
  spells : Behind Longest kernel i opening primitive temporaries statements stop
  goes_on : run ss stop.rest ≡ None

-- a body without a primitive
gets_plainly : (kernel : Bool) (h : Notes) (l : ℕ) (ts : List Lexeme) (ss : Stack) → run (TheSequence ∷ ss) ts ≡ None → GotBehind kernel (place h l ts) ss
gets_plainly kernel h l ts ss r =
    let b = gets_MethodBody h l ts ss r in
    record { opening = b.what.0; primitive = None; temporaries = b.what.1; statements = b.what.2; stop = b.stop; spells = Plainly b.spells; goes_on = b.goes_on }

-- what stands behind a pattern, which the grammar spells where the machine reads it
gets_Behind : (kernel : Bool) (h : Notes) (l : ℕ) (ts : List Lexeme) (ss : Stack) → run (body_part kernel ∷ ss) ts ≡ None → GotBehind kernel (place h l ts) ss
gets_Behind false h l ts ss r = gets_plainly false h l ts ss r
gets_Behind true h l (lex c f e (Binary Less s) ∷ ts) ss r =
    let i = place h l (lex c f e (Binary Less s) ∷ ts) in
    let a = primitive_keyword ts ss r in
    let b = primitive_number (others ts) ss a.goes_on in
    let z = primitive_end (others (others ts)) ss b.goes_on in
    record { opening = []; primitive = Some (digits_value 10 b.text); temporaries = []; statements = NoStatements; stop = next (next (next (next i))); spells = Primitively (OnePrimitive refl a.is b.is z.is); goes_on = z.goes_on }
gets_Behind true h l ts ss r = gets_plainly true h l ts ss (sym (as_body true ts ss tt) ∙ r)

-- what is read to its end is a text
pub gets_text : (form : Form) (ts : List Lexeme) → run (start form) ts ≡ None → IsText form ts
gets_text DoIt ts r =
    let g = gets_Sequence (16 * length ts + 8) [] 0 ts bottom (le_refl _) r in
    let e = gets_end g.stop.held g.stop.last g.stop.rest g.goes_on in
    (record { temporaries = g.what.0; statements = g.what.1; tail = e.0 }, record { stop = g.stop; sequence = g.spells; over = e.1 })
gets_text PatternText ts r =
    let g = gets_Expression (16 * length ts + 8) [] 0 ts bottom (omega arith) r in
    let e = gets_end g.stop.held g.stop.last g.stop.rest g.goes_on in
    (g.what, record { stop = g.stop; tail = e.0; expression = g.spells; over = e.1 })
gets_text (Method kernel) ts r =
    let p = gets_Pattern kernel [] 0 ts bottom r in
    let b = gets_Behind kernel p.stop.held p.stop.last p.stop.rest bottom p.goes_on in
    let e = gets_end b.stop.held b.stop.last b.stop.rest b.goes_on in (
      record { selector = p.what.0; arguments = p.what.1; opening = b.opening; primitive = b.primitive; body = record { temporaries = b.temporaries; statements = b.statements; tail = e.0 } },
      record { begin = p.stop; stop = b.stop; pattern = p.spells; behind = b.spells; over = e.1 },
    )
