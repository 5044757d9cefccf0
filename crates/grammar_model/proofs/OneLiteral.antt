-- The tokens determine a literal, and the place behind it.
use Rattle.std.proofs.Common.{◌≡◌, ℕ, ◌++◌, refl, ap, sym, subst, ◌∙◌, arith}
use Rattle.tree_model.specs.Tree.{LiteralOf, number, symbol, array, bytes, LiteralsOf, more_literals}
use Rattle.grammar_model.specs.Terminal.{Text, BinaryKind, SmallDigits, LargeDigits, OtherNumeral, Sign, Group, BlockStart, ArrayStart, Terminal, Name, Keyword, Binary, Numeral, Constant, Opens, AnyKey, KeywordKind}
use Rattle.grammar_model.specs.Input.{Input, kind_of, next}
use Rattle.grammar_model.specs.Ahead.{Longest, IsDigits, NoDigits, NoElement}
use Rattle.grammar_model.specs.Literals.{word_or_symbol, NoSign, IsJoined, KeywordRow, LastKeyword, JoinedKeyword, ByteElements, OneByte, NoBytes, LiteralAt, Unsigned, Negative, Fixed, Array, ByteArray, Element, LiteralElement, InnerArray, InnerBytes, NameElement, KeywordElement, BinaryElement, Elements, OneElement, NoElements, NoAnyKey}

-- a fact of a kind, at the other of two equal places
pub kind_at : {i i' : Input} {k : Terminal} (P : Terminal → Type 0) → i ≡ i' → kind_of i ≡ k → P (kind_of i') → P k
kind_at {i} {i'} P s e h = subst P (ap kind_of (sym s) ∙ e) h

-- the kinds at two equal places are equal
pub same_kind : {i i' : Input} {k k' : Terminal} → i ≡ i' → kind_of i ≡ k → kind_of i' ≡ k' → k ≡ k'
same_kind s e e' = sym e ∙ ap kind_of s ∙ e'

-- a row of keywords has one text
pub one_KeywordRow : {i j : Input} {k : Text} → KeywordRow i k j → {i' j' : Input} {k' : Text} → KeywordRow i' k' j' → i ≡ i' → (k ≡ k') × (j ≡ j')
one_KeywordRow (LastKeyword {c} {k} e pe n) (LastKeyword {c = c'} {k = k'} e' pe' n') s =
    let same : Keyword c k ≡ Keyword c' k' = same_kind s e e' in
    (cc, ap next s)
one_KeywordRow (LastKeyword e pe n) (JoinedKeyword e' pe' g d) s = absurd (n (subst IsJoined (sym s) g))
one_KeywordRow (JoinedKeyword e pe g d) (LastKeyword e' pe' n) s = absurd (n (subst IsJoined s g))
one_KeywordRow (JoinedKeyword {c} {k} e pe g d) (JoinedKeyword {c = c'} {k = k'} e' pe' g' d') s =
    let same : Keyword c k ≡ Keyword c' k' = same_kind s e e' in
    let keys : k ≡ k' = cc in
    let p = one_KeywordRow d d' (ap next s) in
    ((λ v. keys v ++ p.0 v), p.1)

-- no token is digits alone and is not
both_digits : (k : Terminal) → IsDigits k → NoDigits k → ⊥
both_digits (Numeral SmallDigits t) d n = n
both_digits (Numeral LargeDigits t) d n = n
both_digits (Numeral OtherNumeral t) d n = d
both_digits k d n = d

-- a row of digits has one list
pub one_ByteElements : {i j : Input} {xs : LiteralsOf Text} → ByteElements Longest i xs j → {i' j' : Input} {xs' : LiteralsOf Text} → ByteElements Longest i' xs' j' → i ≡ i' → (xs ≡ xs') × (j ≡ j')
one_ByteElements (OneByte {c} {t} e h d) (OneByte {c = c'} {t = t'} e' h' d') s =
    let same : Numeral c t ≡ Numeral c' t' = same_kind s e e' in
    let texts : t ≡ t' = cc in
    let p = one_ByteElements d d' (ap next s) in
    ((λ v. more_literals (number (texts v)) (p.0 v)), p.1)
one_ByteElements {i} (OneByte e h d) (NoBytes n) s = absurd (both_digits _ h (subst (λ i. NoDigits (kind_of i)) (sym s) n))
one_ByteElements (NoBytes n) (OneByte e h d) s = absurd (both_digits _ h (subst (λ i. NoDigits (kind_of i)) s n))
one_ByteElements (NoBytes n) (NoBytes n') s = (refl, s)

-- the rules at two equal places are the same where the kind decides the rule
pub same_rule : {i i' : Input} {m n : ℕ} (rule : Terminal → ℕ) → i ≡ i' → rule (kind_of i) ≡ m → rule (kind_of i') ≡ n → m ≡ n
same_rule rule s a b = sym a ∙ ap (λ i. rule (kind_of i)) s ∙ b

-- the rule of literals that fits a token
abbrev literal_rule : Terminal → ℕ
literal_rule (Numeral c t) = 0
literal_rule (Binary c s) = 1
literal_rule (Constant l) = 2
literal_rule (Opens ArrayStart) = 3
literal_rule k = 4

-- the rule that spells a literal
abbrev rule_of_LiteralAt : {i j : Input} {l : LiteralOf Text} → LiteralAt Longest i l j → ℕ
rule_of_LiteralAt (Unsigned e) = 0
rule_of_LiteralAt (Negative e f) = 1
rule_of_LiteralAt (Fixed e) = 2
rule_of_LiteralAt (Array e a c) = 3
rule_of_LiteralAt (ByteArray e a c) = 4

-- it is the rule of the first token
literal_rule-LiteralAt : {i j : Input} {l : LiteralOf Text} (d : LiteralAt Longest i l j) → literal_rule (kind_of i) ≡ rule_of_LiteralAt d
literal_rule-LiteralAt (Unsigned e) = ap literal_rule e
literal_rule-LiteralAt (Negative e f) = ap literal_rule e
literal_rule-LiteralAt (Fixed e) = ap literal_rule e
literal_rule-LiteralAt (Array e a c) = ap literal_rule e
literal_rule-LiteralAt (ByteArray e a c) = ap literal_rule e

-- the rule of elements that fits a token
abbrev element_rule : Terminal → ℕ
element_rule (Opens Group) = 1
element_rule (Opens BlockStart) = 2
element_rule (Name c n) = 3
element_rule (Keyword c k) = 4
element_rule (Binary Sign s) = 0
element_rule (Binary c s) = 5
element_rule k = 0

-- the rule that spells an element
abbrev rule_of_Element : {i j : Input} {l : LiteralOf Text} → Element Longest i l j → ℕ
rule_of_Element (LiteralElement d) = 0
rule_of_Element (InnerArray e a c) = 1
rule_of_Element (InnerBytes e a c) = 2
rule_of_Element (NameElement e) = 3
rule_of_Element (KeywordElement d) = 4
rule_of_Element (BinaryElement e h) = 5

-- a literal begins as literals do
element_rule-LiteralAt : {i j : Input} {l : LiteralOf Text} → LiteralAt Longest i l j → element_rule (kind_of i) ≡ 0
element_rule-LiteralAt (Unsigned e) = ap element_rule e
element_rule-LiteralAt (Negative e f) = ap element_rule e
element_rule-LiteralAt (Fixed e) = ap element_rule e
element_rule-LiteralAt (Array e a c) = ap element_rule e
element_rule-LiteralAt (ByteArray e a c) = ap element_rule e

-- a row of keywords begins with a keyword
element_rule-KeywordRow : {i j : Input} {k : Text} → KeywordRow i k j → element_rule (kind_of i) ≡ 4
element_rule-KeywordRow (LastKeyword e pe n) = ap element_rule e
element_rule-KeywordRow (JoinedKeyword e pe g d) = ap element_rule e

-- a binary selector that is no sign
element_rule-binary : (c : BinaryKind) (s : Text) → NoSign c → element_rule (Binary c s) ≡ 5
element_rule-binary Sign s h = absurd h
element_rule-binary c s h = refl

-- the rule of an element is that of its first token
element_rule-Element : {i j : Input} {l : LiteralOf Text} (d : Element Longest i l j) → element_rule (kind_of i) ≡ rule_of_Element d
element_rule-Element (LiteralElement d) = element_rule-LiteralAt d
element_rule-Element (InnerArray e a c) = ap element_rule e
element_rule-Element (InnerBytes e a c) = ap element_rule e
element_rule-Element (NameElement e) = ap element_rule e
element_rule-Element (KeywordElement d) = element_rule-KeywordRow d
element_rule-Element (BinaryElement {c} {s} e h) = ap element_rule e ∙ element_rule-binary c s h

-- an element begins where elements do not end
abbrev IsElementStart : Terminal → Type 0
IsElementStart k = NoElement k → ⊥

-- a keyword begins an element
starts_key : (c : KeywordKind) (k : Text) → NoAnyKey c → IsElementStart (Keyword c k)
starts_key AnyKey k p = absurd p
starts_key c k p = λ h. h

-- a literal begins as elements do
starts_LiteralAt : {i j : Input} {l : LiteralOf Text} → LiteralAt Longest i l j → IsElementStart (kind_of i)
starts_LiteralAt (Unsigned e) = subst IsElementStart (sym e) (λ h. h)
starts_LiteralAt (Negative e f) = subst IsElementStart (sym e) (λ h. h)
starts_LiteralAt (Fixed e) = subst IsElementStart (sym e) (λ h. h)
starts_LiteralAt (Array e a c) = subst IsElementStart (sym e) (λ h. h)
starts_LiteralAt (ByteArray e a c) = subst IsElementStart (sym e) (λ h. h)

-- an element begins as elements do
starts_Element : {i j : Input} {l : LiteralOf Text} → Element Longest i l j → IsElementStart (kind_of i)
starts_Element (LiteralElement d) = starts_LiteralAt d
starts_Element (InnerArray e a c) = subst IsElementStart (sym e) (λ h. h)
starts_Element (InnerBytes e a c) = subst IsElementStart (sym e) (λ h. h)
starts_Element (NameElement e) = subst IsElementStart (sym e) (λ h. h)
starts_Element (KeywordElement (LastKeyword {c} {k} e pe n)) = subst IsElementStart (sym e) (starts_key c k pe)
starts_Element (KeywordElement (JoinedKeyword {c} {k} e pe g d)) = subst IsElementStart (sym e) (starts_key c k pe)
starts_Element (BinaryElement e h) = subst IsElementStart (sym e) (λ h. h)

mutual
  -- the tokens determine a literal, and the place behind it
  pub one_LiteralAt : {i j : Input} {l : LiteralOf Text} → LiteralAt Longest i l j → {i' j' : Input} {l' : LiteralOf Text} → LiteralAt Longest i' l' j' → i ≡ i' → (l ≡ l') × (j ≡ j')
  one_LiteralAt (Unsigned {c} {t} e) (Unsigned {c = c'} {t = t'} e') s =
      let same : Numeral c t ≡ Numeral c' t' = same_kind s e e' in
      (cc, ap next s)
  one_LiteralAt (Negative {c} {s = a} {t} e f) (Negative {c = c'} {s = a'} {t = t'} e' f') s =
      let signs : Binary Sign a ≡ Binary Sign a' = same_kind s e e' in
      let numerals : Numeral c t ≡ Numeral c' t' = same_kind (ap next s) f f' in
      let one : a ≡ a' = cc in
      let two : t ≡ t' = cc in
      ((λ v. number (one v ++ two v)), ap (λ i. next (next i)) s)
  one_LiteralAt (Fixed {l} e) (Fixed {l = l'} e') s =
      let same : Constant l ≡ Constant l' = same_kind s e e' in
      (cc, ap next s)
  one_LiteralAt (Array e a c) (Array e' a' c') s = let p = one_Elements a a' (ap next s) in (ap array p.0, ap next p.1)
  one_LiteralAt (ByteArray e a c) (ByteArray e' a' c') s = let p = one_ByteElements a a' (ap next s) in (ap bytes p.0, ap next p.1)
  one_LiteralAt d d' s = let e = same_rule literal_rule s (literal_rule-LiteralAt d) (literal_rule-LiteralAt d') in absurd (omega arith)

  -- the tokens determine an element, and the place behind it
  pub one_Element : {i j : Input} {l : LiteralOf Text} → Element Longest i l j → {i' j' : Input} {l' : LiteralOf Text} → Element Longest i' l' j' → i ≡ i' → (l ≡ l') × (j ≡ j')
  one_Element (LiteralElement d) (LiteralElement d') s = one_LiteralAt d d' s
  one_Element (InnerArray e a c) (InnerArray e' a' c') s = let p = one_Elements a a' (ap next s) in (ap array p.0, ap next p.1)
  one_Element (InnerBytes e a c) (InnerBytes e' a' c') s = let p = one_ByteElements a a' (ap next s) in (ap bytes p.0, ap next p.1)
  one_Element (NameElement {c} {n} e) (NameElement {c = c'} {n = n'} e') s =
      let names : Name c n ≡ Name c' n' = same_kind s e e' in
      let same : n ≡ n' = cc in
      (ap word_or_symbol same, ap next s)
  one_Element (KeywordElement d) (KeywordElement d') s = let p = one_KeywordRow d d' s in (ap symbol p.0, p.1)
  one_Element (BinaryElement {c} {s = b} e h) (BinaryElement {c = c'} {s = b'} e' h') s =
      let selectors : Binary c b ≡ Binary c' b' = same_kind s e e' in
      (cc, ap next s)
  one_Element d d' s = let e = same_rule element_rule s (element_rule-Element d) (element_rule-Element d') in absurd (omega arith)

  -- the tokens determine a row of elements, and the place behind it
  pub one_Elements : {i j : Input} {xs : LiteralsOf Text} → Elements Longest i xs j → {i' j' : Input} {xs' : LiteralsOf Text} → Elements Longest i' xs' j' → i ≡ i' → (xs ≡ xs') × (j ≡ j')
  one_Elements (OneElement d r) (OneElement d' r') s =
      let p = one_Element d d' s in
      let q = one_Elements r r' p.1 in
      ((λ v. more_literals (p.0 v) (q.0 v)), q.1)
  one_Elements (OneElement d r) (NoElements n) s = absurd (starts_Element d (subst (λ i. NoElement (kind_of i)) (sym s) n))
  one_Elements (NoElements n) (OneElement d r) s = absurd (starts_Element d (subst (λ i. NoElement (kind_of i)) s n))
  one_Elements (NoElements n) (NoElements n') s = (refl, s)
