-- A reader finds the events of whole texts.
use Rattle.std.proofs.Common.{◌≡◌, ℕ, ◌+◌, Bool, true, List, [], ◌∷◌, ◌++◌, Some, None, refl, ap, sym, ◌∙◌, subst, append_assoc}
use Rattle.std.specs.Prelude.{Option}
use Rattle.std.proofs.lemmas.List.{append-nil}
use Rattle.std.specs.Str.Parse.{digits_value}
use Rattle.tree_model.specs.Tree.{Notes}
use Rattle.grammar_model.specs.Terminal.{Text, KeywordKind, PrimitiveKeyword, Less, Greater, Bar, SmallDigits, Terminal, Name, Keyword, Binary, Numeral}
use Rattle.grammar_model.specs.Input.{Lexeme, lex, Input, beginning, first_kind, first_from, kind_of, from_of, next}
use Rattle.grammar_model.specs.Spanned.{Declared, SpannedTree, SpannedStatements, SpannedSequence, SpannedMethod}
use Rattle.grammar_model.specs.Ahead.{Longest, NoBar, NoKeyword, IsOperandStart}
use Rattle.grammar_model.specs.Grammar.{Names, OneName, NoNames, Temporaries, Declares, DeclaresNone, Sequence, Sequenced, Statements, BlankPeriod, NoMore, Returned, AnyStatement, OneStatement}
use Rattle.grammar_model.specs.Whole.{IsOver, IsDoIt, PatternParts, LastPatternPart, FurtherPatternPart, Pattern, UnaryPattern, BinaryPattern, KeywordPattern, MethodBody, WithBars, WithoutBars, OnePrimitive, Behind, Plainly, Primitively, IsMethod, IsPatternText, alone}
use Rattle.grammar_model.proofs.OneTree.{starts_Expression}
use Rattle.parse_events.specs.Found.{declarations, count_statements, tree_events, statements_events, sequence_events, method_events}
use Rattle.parse_events.specs.declared.event.Declaration.{Declaration}
use Rattle.parse_events.specs.declared.event.Event.{Event}
use Rattle.parse_events.specs.declared.event.Event.TheVariants as event
use Rattle.st_events.specs.declared.part.Part.{Part}
use Rattle.st_events.specs.declared.part.Part.TheVariants as part
use Rattle.st_events.specs.declared.part.Enclosure.TheVariants as enclosure
use Rattle.st_events.specs.declared.part.Rest.{Rest}
use Rattle.st_events.specs.declared.part.Rest.TheVariants as rest
use Rattle.st_events.specs.declared.part.SequencePart.TheVariants as sequence
use Rattle.st_events.specs.declared.part.HeadPart.TheVariants as head
use Rattle.st_events.specs.declared.reader.Head.{Head}
use Rattle.st_events.specs.declared.reader.Reader.{Reader}
use Rattle.st_events.specs.declared.answers.Answer.TheVariants.{Refuses}
use Rattle.st_events.specs.Answers.{taken_if}
use Rattle.st_events.specs.Steps.{step, run}
use Rattle.st_events.specs.Starts.{head_of, doit_start, method_start, pattern_start, sequence_of, method_of}
use Rattle.st_events.proofs.Running.{reader, found, go, takes_one, leaves_one, begins_with}
use Rattle.st_events.proofs.Ends.{real_operand}
use Rattle.st_events.proofs.ExpressionEvents.{law_Expression, law_Statements}

-- the statements of a whole text
abbrev body : ℕ → Rest → List Part
body n more = part.Sequence (sequence.Statements enclosure.Text n more) ∷ []

-- the end of a text
law_end : {i : Input} {c : Notes} (o : IsOver i c) (n : ℕ) (more : Rest) (es : List Event) (h : Head) → go (body n more) es h i ≡ record { stack = []; events = es; held = []; last = o.to; head = record h { tail = c } }
law_end {i} {c} o n more es h =
    ap (λ ts. run (found (body n more) es h i) ts) o.over ∙
    ap (λ x. record { stack = []; events = es; held = []; last = o.to; head = record h { tail = x } }) (sym o.tail_is)

-- the statements of a text and its end
law_statements : {i j : Input} {c : Notes} {steps : SpannedStatements} → Statements Longest i steps j → (o : IsOver j c) (h : Head) → go (body 0 rest.Any) [] h i ≡ record { stack = []; events = statements_events steps; held = []; last = o.to; head = record h { tail = c } }
law_statements {steps} b o h = law_Statements b enclosure.Text 0 [] [] h ∙ law_end o (0 + count_statements steps) rest.Periods (statements_events steps) h

-- temporaries of a whole text
law_Names : {i j : Input} {ds : List Declared} → Names Longest i ds j → (ss : List Part) (h : Head) → go (part.Head head.Names ∷ ss) [] h i ≡ go (part.Head head.Names ∷ ss) [] (record h { temporaries = h.temporaries ++ declarations ds }) j
law_Names {i} {j} (OneName {c} {n} {ds} e d) ss h =
    let q : List Declaration = record { name = n; from = from_of i } ∷ [] in
    takes_one (part.Head head.Names) ss [] h i (Name c n) e tt refl ∙ law_Names d ss (record h { temporaries = h.temporaries ++ q }) ∙
    ap (λ x. go (part.Head head.Names ∷ ss) [] (record h { temporaries = x }) j) (append_assoc h.temporaries q (declarations ds))
law_Names {j} (NoNames g) ss h = ap (λ x. go (part.Head head.Names ∷ ss) [] (record h { temporaries = x }) j) (sym (append-nil h.temporaries))

-- a do-it without temporaries
no_temporaries : (h : Head) (d : Notes) (l : ℕ) (k : Terminal) (c : Notes) (f e : ℕ) → NoBar k →
    step (part.Head head.DoitTemporaries ∷ []) (reader (part.Head head.DoitTemporaries ∷ []) [] h d l) (lex c f e k) ≡ step (body 0 rest.Any) (reader (body 0 rest.Any) [] h d l) (lex c f e k)
no_temporaries h d l (Binary Bar s) c f e g = absurd g
no_temporaries h d l (Binary Less s) c f e g = refl
no_temporaries h d l k c f e g = refl

-- temporaries of a do-it, or none
law_Temporaries : {i j : Input} {ds : List Declared} → Temporaries Longest i ds j → go (part.Head head.DoitTemporaries ∷ []) [] (head_of [] []) i ≡ go (body 0 rest.Any) [] (record (head_of [] []) { temporaries = declarations ds }) j
law_Temporaries {i} (Declares {j} {s} {t} {ds} e d f) =
    takes_one (part.Head head.DoitTemporaries) [] [] (head_of [] []) i (Binary Bar s) e tt refl ∙ law_Names d [] (head_of [] []) ∙
    takes_one (part.Head head.Names) [] [] (record (head_of [] []) { temporaries = declarations ds }) j (Binary Bar t) f tt refl
law_Temporaries {i} (DeclaresNone g) =
    leaves_one (part.Head head.DoitTemporaries) (part.Sequence (sequence.Statements enclosure.Text 0 rest.Any)) [] [] [] (head_of [] []) i i.held
    (λ c e. no_temporaries (head_of [] []) i.held i.last (kind_of i) c (from_of i) e g)

-- a do-it
law_sequence : {i j : Input} {c : Notes} {ds : List Declared} {steps : SpannedStatements} → Sequence Longest i ds steps j → (o : IsOver j c) →
    go (part.Head head.DoitTemporaries ∷ []) [] (head_of [] []) i ≡ record { stack = []; events = statements_events steps; held = []; last = o.to; head = record (head_of [] []) { temporaries = declarations ds; tail = c } }
law_sequence (Sequenced {ds} d b) o = law_Temporaries d ∙ law_statements b o (record (head_of [] []) { temporaries = declarations ds })

-- the reader finds the events of a do-it
pub law_DoIt : (ts : List Lexeme) (s : SpannedSequence) → IsDoIt Longest ts s → sequence_of (run doit_start ts) ≡ sequence_events s
law_DoIt ts s d = ap sequence_of (law_sequence d.sequence d.over)

-- the end of a pattern
law_pattern_end : {i : Input} {c : Notes} (o : IsOver i c) (f : ℕ) (es : List Event) (h : Head) →
    go (part.Sequence (sequence.BehindPattern f) ∷ []) es h i ≡ record { stack = []; events = es ++ event.Statement f [] ∷ []; held = i.held ++ o.notes; last = o.to; head = h }
law_pattern_end {i} o f es h = ap (λ ts. run (found (part.Sequence (sequence.BehindPattern f) ∷ []) es h i) ts) o.over

-- the reader finds the events of a pattern, which is one expression
pub law_PatternText : (ts : List Lexeme) (t : SpannedTree) → IsPatternText Longest ts t → sequence_of (run pattern_start ts) ≡ sequence_events (alone ts t)
law_PatternText ts t d =
    let i = beginning ts in
    let h = head_of [] [] in
    ap sequence_of (
    takes_one (part.Sequence sequence.Pattern) [] [] h i (kind_of i) refl (real_operand (kind_of i) (starts_Expression d.expression)) (ap (λ b. taken_if b Refuses) (begins_with (kind_of i) (starts_Expression d.expression))) ∙
    law_Expression d.expression (part.Sequence (sequence.BehindPattern (first_from ts)) ∷ []) [] h ∙
    law_pattern_end d.over (first_from ts) (tree_events t) h
    )

-- the first keyword of a pattern
abbrev first_of_pattern : {i j : Input} {s : Text} {ds : List Declared} → PatternParts Longest i s ds j → (c : KeywordKind) × (k : Text) × (kind_of i ≡ Keyword c k)
first_of_pattern (LastPatternPart {c} {k} e f h) = (c, k, e)
first_of_pattern (FurtherPatternPart {c} {k} e f r) = (c, k, e)

-- the body of a method behind a keyword's argument
no_keyword : (kernel : Bool) (h : Head) (d : Notes) (l : ℕ) (k : Terminal) (c : Notes) (f e : ℕ) → NoKeyword k →
    step (part.Head (head.BehindArgument kernel) ∷ []) (reader (part.Head (head.BehindArgument kernel) ∷ []) [] h d l) (lex c f e k) ≡
    step (part.Head (head.MethodTemporaries kernel) ∷ []) (reader (part.Head (head.MethodTemporaries kernel) ∷ []) [] h d l) (lex c f e k)
no_keyword kernel h d l (Keyword m s) c f e g = absurd g
no_keyword kernel h d l k c f e g = refl

-- keywords with their arguments, behind the first keyword, to which others were joined
law_PatternParts : {i j : Input} {s : Text} {ds : List Declared} (d : PatternParts Longest i s ds j) (kernel : Bool) (p : Text) (qs : List Declaration) →
    go (part.Head (head.KeywordArgument kernel) ∷ []) [] (head_of (p ++ (first_of_pattern d).1) qs) (next i) ≡ go (part.Head (head.MethodTemporaries kernel) ∷ []) [] (head_of (p ++ s) (qs ++ declarations ds)) j
law_PatternParts {i} (LastPatternPart {d} {k} {n} e f none) kernel p qs =
    let q : List Declaration = record { name = n; from = from_of (next i) } ∷ [] in
    let j = next (next i) in
    let h = head_of (p ++ k) (qs ++ q) in
    takes_one (part.Head (head.KeywordArgument kernel)) [] [] (head_of (p ++ k) qs) (next i) (Name d n) f tt refl ∙
    leaves_one (part.Head (head.BehindArgument kernel)) (part.Head (head.MethodTemporaries kernel)) [] [] [] h j j.held (λ c e. no_keyword kernel h j.held j.last (kind_of j) c (from_of j) e none)
law_PatternParts {i} {j} (FurtherPatternPart {d = c} {k} {n} {s} {ds} e f d) kernel p qs =
    let q : List Declaration = record { name = n; from = from_of (next i) } ∷ [] in
    let g = first_of_pattern d in
    takes_one (part.Head (head.KeywordArgument kernel)) [] [] (head_of (p ++ k) qs) (next i) (Name c n) f tt refl ∙
    takes_one (part.Head (head.BehindArgument kernel)) [] [] (head_of (p ++ k) (qs ++ q)) (next (next i)) (Keyword g.0 g.1) g.2 tt refl ∙
    law_PatternParts d kernel (p ++ k) (qs ++ q) ∙
    (let a = append_assoc p k s in
    let b = append_assoc qs q (declarations ds) in
    λ y. go (part.Head (head.MethodTemporaries kernel) ∷ []) [] (head_of (a y) (b y)) j)

-- a method's pattern
law_Pattern : {i j : Input} {s : Text} {ds : List Declared} → Pattern Longest i s ds j → (kernel : Bool) → go (part.Head (head.Pattern kernel) ∷ []) [] (head_of [] []) i ≡ go (part.Head (head.MethodTemporaries kernel) ∷ []) [] (head_of s (declarations ds)) j
law_Pattern {i} (UnaryPattern {c} {n} e) kernel = takes_one (part.Head (head.Pattern kernel)) [] [] (head_of [] []) i (Name c n) e tt refl
law_Pattern {i} (BinaryPattern {c} {d} {s} {n} e f) kernel =
    takes_one (part.Head (head.Pattern kernel)) [] [] (head_of [] []) i (Binary c s) e tt refl ∙ takes_one (part.Head (head.Argument kernel)) [] [] (head_of s []) (next i) (Name d n) f tt refl
law_Pattern {i} (KeywordPattern d) kernel =
    let k = first_of_pattern d in
    takes_one (part.Head (head.Pattern kernel)) [] [] (head_of [] []) i (Keyword k.0 k.1) k.2 tt refl ∙ law_PatternParts d kernel [] []

-- statements that end a text do not begin with the bracket of a primitive
no_bracket : {i j : Input} {s : Text} {t : Notes} {steps : SpannedStatements} → Statements Longest i steps j → IsOver j t → kind_of i ≡ Binary Less s → ⊥
no_bracket (BlankPeriod e b) o less = let k = sym e ∙ less in cc
no_bracket (NoMore n) o less = let k = sym (ap first_kind o.over) ∙ less in cc
no_bracket (Returned e d f) o less = let k = sym e ∙ less in cc
no_bracket (AnyStatement e a) o less = let k = sym e ∙ less in cc
no_bracket (OneStatement d a) o less = subst IsOperandStart less (starts_Expression d)

-- a method without a primitive and temporaries
no_opening : (kernel : Bool) (h : Head) (d : Notes) (l : ℕ) (k : Terminal) (c : Notes) (f e : ℕ) → NoBar k → ((s : Text) → k ≡ Binary Less s → ⊥) →
    step (part.Head (head.MethodTemporaries kernel) ∷ []) (reader (part.Head (head.MethodTemporaries kernel) ∷ []) [] h d l) (lex c f e k) ≡ step (body 0 rest.Any) (reader (body 0 rest.Any) [] h d l) (lex c f e k)
no_opening kernel h d l (Binary Bar s) c f e g less = absurd g
no_opening kernel h d l (Binary Less s) c f e g less = absurd (less s refl)
no_opening kernel h d l k c f e g less = refl

-- what a method has where its pattern is over
abbrev opened : Text → List Declaration → Notes → Option ℕ → List Declaration → Notes → Head
opened s qs c p ds t = record { selector = s; arguments = qs; opening = c; primitive = p; temporaries = ds; tail = t }

-- a reader at the end of a text
abbrev ended : List Event → ℕ → Head → Reader
ended es e h = record { stack = []; events = es; held = []; last = e; head = h }

-- a method without a primitive
law_Plainly : {i j : Input} {c t : Notes} {ds : List Declared} {steps : SpannedStatements} → MethodBody Longest i c ds steps j → (o : IsOver j t) (kernel : Bool) (s : Text) (qs : List Declaration) →
    go (part.Head (head.MethodTemporaries kernel) ∷ []) [] (head_of s qs) i ≡ ended (statements_events steps) o.to (opened s qs c None (declarations ds) t)
law_Plainly {i} (WithBars {m} {s = a} {t = b} {ds} e d f steps) o kernel s qs =
    let h = opened s qs (next i).held None [] [] in
    takes_one (part.Head (head.MethodTemporaries kernel)) [] [] (head_of s qs) i (Binary Bar a) e tt refl ∙ law_Names d [] h ∙
    takes_one (part.Head head.Names) [] [] (record h { temporaries = declarations ds }) m (Binary Bar b) f tt refl ∙
    law_statements steps o (record h { temporaries = declarations ds })
law_Plainly {i} (WithoutBars g steps) o kernel s qs =
    leaves_one (part.Head (head.MethodTemporaries kernel)) (part.Sequence (sequence.Statements enclosure.Text 0 rest.Any)) [] [] [] (head_of s qs) i i.held
    (λ c e. no_opening kernel (head_of s qs) i.held i.last (kind_of i) c (from_of i) e g (λ t less. no_bracket steps o less)) ∙
    law_statements steps o (head_of s qs)

-- what stands behind a pattern
law_Behind : {kernel : Bool} {i j : Input} {c t : Notes} {p : Option ℕ} {ds : List Declared} {steps : SpannedStatements} → Behind Longest kernel i c p ds steps j → (o : IsOver j t) (s : Text) (qs : List Declaration) →
    go (part.Head (head.MethodTemporaries kernel) ∷ []) [] (head_of s qs) i ≡ ended (statements_events steps) o.to (opened s qs c p (declarations ds) t)
law_Behind {kernel} (Plainly b) o s qs = law_Plainly b o kernel s qs
law_Behind {i} (Primitively (OnePrimitive {s = a} {k} {t} {u} e f g z)) o s qs =
    takes_one (part.Head (head.MethodTemporaries true)) [] [] (head_of s qs) i (Binary Less a) e tt refl ∙
    takes_one (part.Head head.Primitive) [] [] (head_of s qs) (next i) (Keyword PrimitiveKeyword k) f tt refl ∙
    takes_one (part.Head head.PrimitiveNumber) [] [] (head_of s qs) (next (next i)) (Numeral SmallDigits t) g tt refl ∙
    takes_one (part.Head head.PrimitiveEnd) [] [] (opened s qs [] (Some (digits_value 10 t)) [] []) (next (next (next i))) (Binary Greater u) z tt refl ∙
    law_end o 0 rest.Nothing [] (opened s qs [] (Some (digits_value 10 t)) [] [])

-- the reader finds the events of a method
pub law_Method : (kernel : Bool) (ts : List Lexeme) (m : SpannedMethod) → IsMethod Longest kernel ts m → method_of (run (method_start kernel) ts) ≡ method_events m
law_Method kernel ts m d =
    ap method_of (law_Pattern d.pattern kernel ∙ law_Behind d.behind d.over m.selector (declarations m.arguments))
