-- A text has one tree.
use Rattle.std.proofs.Common.{◌≡◌, ℕ, List, [], ◌∷◌, ◌++◌, Bool, Option, Some, refl, ap, sym, subst, ◌∙◌, arith}
use Rattle.std.specs.Str.Parse.{digits_value}
use Rattle.tree_model.specs.Tree.{Notes}
use Rattle.grammar_model.specs.Terminal.{Text, NameKind, Less, SmallDigits, TextEnd, Terminal, Name, Keyword, Binary, Numeral, Closes}
use Rattle.grammar_model.specs.Input.{Lexeme, lex, Input, first_kind, kind_of, from_of, next, clear}
use Rattle.grammar_model.specs.Spanned.{Declared, SpannedStatements, SpannedSequence, SpannedMethod}
use Rattle.grammar_model.specs.Ahead.{Longest, NoKeyword, NoBar, IsOperandStart}
use Rattle.grammar_model.specs.Grammar.{Statements, BlankPeriod, NoMore, Returned, OneStatement, AnyStatement}
use Rattle.grammar_model.specs.Whole.{IsOver, IsDoIt, PatternParts, LastPatternPart, FurtherPatternPart, Pattern, UnaryPattern, BinaryPattern, KeywordPattern, MethodBody, WithBars, WithoutBars, Primitive, OnePrimitive, Behind, Plainly, Primitively, IsMethod}
use Rattle.grammar_model.proofs.OneLiteral.{kind_at, same_kind, same_rule}
use Rattle.grammar_model.proofs.OneTree.{one_Names, one_Sequence, one_Statements, starts_Expression}

-- the comments at the end are one list
one_IsOver : {i i' : Input} {c c' : Notes} → i ≡ i' → IsOver i c → IsOver i' c' → c ≡ c'
one_IsOver s a b =
    let last : lex a.notes a.from a.to (Closes TextEnd) ∷ [] ≡ lex b.notes b.from b.to (Closes TextEnd) ∷ [] = sym a.over ∙ ap (λ (i : Input). i.rest) s ∙ b.over in
    let notes : a.notes ≡ b.notes = cc in
    a.tail_is ∙ (λ v. (s v).held ++ notes v) ∙ sym b.tail_is

-- the tokens of a do-it have one tree
pub one_IsDoIt : {ts : List Lexeme} (v w : SpannedSequence) → IsDoIt Longest ts v → IsDoIt Longest ts w → v ≡ w
one_IsDoIt v w a b =
    let p = one_Sequence a.sequence b.sequence refl in
    let tails : v.tail ≡ w.tail = one_IsOver p.2 a.over b.over in
    λ k. record { temporaries = p.0 k; statements = p.1 k; tail = tails k }

-- the keywords of a pattern begin with a keyword
starts_PatternParts : {i j : Input} {s : Text} {ds : List Declared} → PatternParts Longest i s ds j → NoKeyword (kind_of i) → ⊥
starts_PatternParts (LastPatternPart e f n) h = subst NoKeyword e h
starts_PatternParts (FurtherPatternPart e f d) h = subst NoKeyword e h

-- an argument of a pattern
same_declared : {i i' : Input} {c c' : NameKind} {n n' : Text} → i ≡ i' → kind_of i ≡ Name c n → kind_of i' ≡ Name c' n' → let d : Declared = record { name = n; from = from_of i } in let d' : Declared = record { name = n'; from = from_of i' } in d ≡ d'
same_declared {c} {c'} {n} {n'} s e e' =
    let k : Name c n ≡ Name c' n' = same_kind s e e' in
    let same : n ≡ n' = cc in
    λ v. record { name = same v; from = from_of (s v) }

-- the keywords of a pattern: the tokens determine it
one_PatternParts : {i j : Input} {k : Text} {ds : List Declared} → PatternParts Longest i k ds j → {i' j' : Input} {k' : Text} {ds' : List Declared} → PatternParts Longest i' k' ds' j' → i ≡ i' → (k ≡ k') × (ds ≡ ds') × (j ≡ j')
one_PatternParts (LastPatternPart {c} {k} e f h) (LastPatternPart {c = c'} {k = k'} e' f' h') s =
    let names : Keyword c k ≡ Keyword c' k' = same_kind s e e' in
    let d = same_declared (ap next s) f f' in
    (cc, (λ v. d v ∷ []), ap (λ i. next (next i)) s)
one_PatternParts (FurtherPatternPart {c} {k} e f r) (FurtherPatternPart {c = c'} {k = k'} e' f' r') s =
    let names : Keyword c k ≡ Keyword c' k' = same_kind s e e' in
    let same : k ≡ k' = cc in
    let d = same_declared (ap next s) f f' in
    let p = one_PatternParts r r' (ap (λ i. next (next i)) s) in
    ((λ v. same v ++ p.0 v), (λ v. d v ∷ p.1 v), p.2)
one_PatternParts (LastPatternPart e f h) (FurtherPatternPart e' f' r) s = absurd (starts_PatternParts r (subst (λ i. NoKeyword (kind_of (next (next i)))) s h))
one_PatternParts (FurtherPatternPart e f r) (LastPatternPart e' f' h) s = absurd (starts_PatternParts r (subst (λ i. NoKeyword (kind_of (next (next i)))) (sym s) h))

-- the rule of patterns that fits a token
abbrev pattern_rule : Terminal → ℕ
pattern_rule (Name c n) = 0
pattern_rule (Binary c s) = 1
pattern_rule k = 2

-- the rule that spells a pattern
abbrev rule_of_Pattern : {i j : Input} {s : Text} {ds : List Declared} → Pattern Longest i s ds j → ℕ
rule_of_Pattern (UnaryPattern e) = 0
rule_of_Pattern (BinaryPattern e f) = 1
rule_of_Pattern (KeywordPattern d) = 2

-- it is the rule of the first token
pattern_rule-Pattern : {i j : Input} {s : Text} {ds : List Declared} (d : Pattern Longest i s ds j) → pattern_rule (kind_of i) ≡ rule_of_Pattern d
pattern_rule-Pattern (UnaryPattern e) = ap pattern_rule e
pattern_rule-Pattern (BinaryPattern e f) = ap pattern_rule e
pattern_rule-Pattern (KeywordPattern (LastPatternPart e f h)) = ap pattern_rule e
pattern_rule-Pattern (KeywordPattern (FurtherPatternPart e f r)) = ap pattern_rule e

-- a pattern: the tokens determine it
one_Pattern : {i j : Input} {k : Text} {ds : List Declared} → Pattern Longest i k ds j → {i' j' : Input} {k' : Text} {ds' : List Declared} → Pattern Longest i' k' ds' j' → i ≡ i' → (k ≡ k') × (ds ≡ ds') × (j ≡ j')
one_Pattern (UnaryPattern {c} {n} e) (UnaryPattern {c = c'} {n = n'} e') s =
    let k : Name c n ≡ Name c' n' = same_kind s e e' in
    (cc, refl, ap next s)
one_Pattern (BinaryPattern {c} {s = b} e f) (BinaryPattern {c = c'} {s = b'} e' f') s =
    let k : Binary c b ≡ Binary c' b' = same_kind s e e' in
    let d = same_declared (ap next s) f f' in
    (cc, (λ v. d v ∷ []), ap (λ i. next (next i)) s)
one_Pattern (KeywordPattern d) (KeywordPattern d') s = one_PatternParts d d' s
one_Pattern d d' s = let e = same_rule pattern_rule s (pattern_rule-Pattern d) (pattern_rule-Pattern d') in absurd (omega arith)

-- the body of a method: the tokens determine it
one_MethodBody : {i j : Input} {c : Notes} {ds : List Declared} {ss : SpannedStatements} → MethodBody Longest i c ds ss j → {i' j' : Input} {c' : Notes} {ds' : List Declared} {ss' : SpannedStatements} → MethodBody Longest i' c' ds' ss' j' → i ≡ i' → (c ≡ c') × (ds ≡ ds') × (ss ≡ ss') × (j ≡ j')
one_MethodBody (WithBars e d f b) (WithBars e' d' f' b') s =
    let p = one_Names d d' (ap (λ i. clear (next i)) s) in
    let q = one_Statements b b' (ap next p.1) in
    (ap (λ i. (next i).held) s, p.0, q.0, q.1)
one_MethodBody (WithoutBars h b) (WithoutBars h' b') s = let q = one_Statements b b' s in (refl, refl, q.0, q.1)
one_MethodBody (WithBars e d f b) (WithoutBars h b') s = absurd (kind_at NoBar s e h)
one_MethodBody (WithoutBars h b') (WithBars e d f b) s = absurd (kind_at NoBar (sym s) e h)

-- a primitive: the tokens determine it
one_Primitive : {i j : Input} {n : ℕ} → Primitive i n j → {i' j' : Input} {n' : ℕ} → Primitive i' n' j' → i ≡ i' → (n ≡ n') × (j ≡ j')
one_Primitive (OnePrimitive {t} a b c d) (OnePrimitive {t = t'} a' b' c' d') s =
    let k : Numeral SmallDigits t ≡ Numeral SmallDigits t' = same_kind (ap (λ i. next (next i)) s) c c' in
    let same : t ≡ t' = cc in
    (ap (digits_value 10) same, ap (λ i. next (next (next (next i)))) s)

-- the closing token of a text stands where its method's body ends
pub closing_bracket : {i : Input} {ss : SpannedStatements} {j : Input} {c : Notes} {s : Text} → kind_of i ≡ Binary Less s → Statements Longest i ss j → IsOver j c → ⊥
closing_bracket e (BlankPeriod f b) o = let k = sym e ∙ f in cc
closing_bracket e (NoMore h) o = let k = sym e ∙ ap first_kind o.over in cc
closing_bracket e (Returned f d b) o = let k = sym e ∙ f in cc
closing_bracket e (AnyStatement f a) o = let k = sym e ∙ f in cc
closing_bracket e (OneStatement d a) o = subst IsOperandStart e (starts_Expression d)

-- a body is no primitive
no_primitive : {i j k : Input} {c t : Notes} {n : ℕ} {ds : List Declared} {ss : SpannedStatements} → MethodBody Longest i c ds ss j → IsOver j t → {i' : Input} → i ≡ i' → Primitive i' n k → ⊥
no_primitive (WithBars e d f b) o s (OnePrimitive a r x y) = let k = same_kind s e a in cc
no_primitive (WithoutBars h b) o s (OnePrimitive a r x y) = closing_bracket (ap kind_of s ∙ a) b o

-- what stands behind the pattern is determined, where the text is over behind it
one_Behind : {kernel : Bool} {i j : Input} {c t : Notes} {n : Option ℕ} {ds : List Declared} {ss : SpannedStatements} → Behind Longest kernel i c n ds ss j → IsOver j t →
    {i' j' : Input} {c' t' : Notes} {n' : Option ℕ} {ds' : List Declared} {ss' : SpannedStatements} → Behind Longest kernel i' c' n' ds' ss' j' → IsOver j' t' → i ≡ i' → (c ≡ c') × (n ≡ n') × (ds ≡ ds') × (ss ≡ ss') × (j ≡ j')
one_Behind (Plainly b) o (Plainly b') o' s = let p = one_MethodBody b b' s in (p.0, refl, p.1, p.2, p.3)
one_Behind (Primitively p) o (Primitively p') o' s = let q = one_Primitive p p' s in (refl, ap Some q.0, refl, refl, q.1)
one_Behind (Plainly b) o (Primitively p) o' s = absurd (no_primitive b o s p)
one_Behind (Primitively p) o (Plainly b) o' s = absurd (no_primitive b o' (sym s) p)

-- the tokens of a method have one tree
pub one_IsMethod : {kernel : Bool} {ts : List Lexeme} (v w : SpannedMethod) → IsMethod Longest kernel ts v → IsMethod Longest kernel ts w → v ≡ w
one_IsMethod v w a b =
    let p = one_Pattern a.pattern b.pattern refl in
    let q = one_Behind a.behind a.over b.behind b.over p.2 in
    let tails : v.body.tail ≡ w.body.tail = one_IsOver q.4 a.over b.over in
    λ k. record { selector = p.0 k; arguments = p.1 k; opening = q.0 k; primitive = q.1 k; body = record { temporaries = q.2 k; statements = q.3 k; tail = tails k } }
