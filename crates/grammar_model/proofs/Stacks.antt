-- Which stacks a text leads to, and how each of them can be read to the end of a text.
use Rattle.std.proofs.Common.{◌≡◌, Bool, true, false, List, [], ◌∷◌, Some, None, refl, ◌∙◌}
use Rattle.std.specs.Prelude.{Option}
use Rattle.std.specs.Option.{option_map_or}
use Rattle.grammar_model.specs.Terminal.{Ordinary, PrimitiveKeyword, Common, Greater, Bar, SmallDigits, Closing, GroupEnd, BlockEnd, BraceEnd, TextEnd, Terminal, Name, Keyword, Binary, Numeral, Closes, OperandMeta, AnyExpression}
use Rattle.grammar_model.specs.Ahead.{NoUnary}
use Rattle.grammar_model.specs.Machine.{Part, Stack, TheExpression, TheArgument, TheKeywordArgument, BehindFirstSuper, BehindSuper, BehindSuperOfKeyword, BehindSuperOfBinary, UnaryOfBinary, UnaryOfKeyword, BinaryOfKeyword, UnaryMessages, BinaryMessages, KeywordMessages, TheMessage, TheCascade, TheNumeral, TheElements, FurtherItem, TheParameter, TheParameters, TheSequence, TheNames, TheStatements, BehindStatement, BehindReturn, ThePattern, BinaryName, KeywordName, PatternRest, KernelBody, ThePrimitive, PrimitiveNumber, PrimitiveEnd, Awaits, body_part, step, feeds, AnyArgument, BehindAnyMessage}

-- the parts that stand below the top, and the end at the bottom
abbrev pub AllLow : Stack → Type 0
AllLow (UnaryOfBinary ∷ ss) = AllLow ss
AllLow (UnaryOfKeyword ∷ ss) = AllLow ss
AllLow (BinaryOfKeyword ∷ ss) = AllLow ss
AllLow (UnaryMessages told ∷ ss) = AllLow ss
AllLow (BinaryMessages told ∷ ss) = AllLow ss
AllLow (KeywordMessages told ∷ ss) = AllLow ss
AllLow (BehindAnyMessage told ∷ ss) = AllLow ss
AllLow (TheCascade ∷ ss) = AllLow ss
AllLow (TheElements ∷ ss) = AllLow ss
AllLow (FurtherItem ∷ ss) = AllLow ss
AllLow (BehindStatement ∷ ss) = AllLow ss
AllLow (BehindReturn ∷ ss) = AllLow ss
AllLow (Awaits GroupEnd ∷ ss) = AllLow ss
AllLow (Awaits BlockEnd ∷ ss) = AllLow ss
AllLow (Awaits BraceEnd ∷ ss) = AllLow ss
AllLow (Awaits TextEnd ∷ []) = Unit {0}
AllLow ss = ⊥

-- nothing is left
abbrev pub IsNil : Stack → Type 0
IsNil [] = Unit {0}
IsNil (p ∷ ss) = ⊥

-- the stacks that a text leads to
abbrev pub IsGood : Stack → Type 0
IsGood [] = Unit {0}
IsGood (Awaits TextEnd ∷ ss) = IsNil ss
IsGood (p ∷ ss) = AllLow ss

-- low stacks are good
pub low_good : (ss : Stack) → AllLow ss → IsGood ss
low_good [] h = absurd h
low_good (UnaryOfBinary ∷ ss) h = h
low_good (UnaryOfKeyword ∷ ss) h = h
low_good (BinaryOfKeyword ∷ ss) h = h
low_good (UnaryMessages told ∷ ss) h = h
low_good (BinaryMessages told ∷ ss) h = h
low_good (KeywordMessages told ∷ ss) h = h
low_good (BehindAnyMessage told ∷ ss) h = h
low_good (TheCascade ∷ ss) h = h
low_good (TheElements ∷ ss) h = h
low_good (FurtherItem ∷ ss) h = h
low_good (BehindStatement ∷ ss) h = h
low_good (BehindReturn ∷ ss) h = h
low_good (Awaits GroupEnd ∷ ss) h = h
low_good (Awaits BlockEnd ∷ ss) h = h
low_good (Awaits BraceEnd ∷ ss) h = h
low_good (Awaits TextEnd ∷ []) h = tt
low_good (Awaits TextEnd ∷ p ∷ ss) h = absurd h
low_good (p ∷ ss) h = absurd h

-- the marks that close what is open
abbrev pub closing : Stack → List Terminal
closing [] = []
closing (Awaits c ∷ ss) = Closes c ∷ closing ss
closing (p ∷ ss) = closing ss

-- a closing mark stands first
abbrev pub BeginsClosing : List Terminal → Type 0
BeginsClosing (Closes c ∷ ts) = Unit {0}
BeginsClosing ts = ⊥

-- a low stack awaits a closing mark
pub closing_begins : (ss : Stack) → AllLow ss → BeginsClosing (closing ss)
closing_begins [] h = absurd h
closing_begins (UnaryOfBinary ∷ ss) h = closing_begins ss h
closing_begins (UnaryOfKeyword ∷ ss) h = closing_begins ss h
closing_begins (BinaryOfKeyword ∷ ss) h = closing_begins ss h
closing_begins (UnaryMessages told ∷ ss) h = closing_begins ss h
closing_begins (BinaryMessages told ∷ ss) h = closing_begins ss h
closing_begins (KeywordMessages told ∷ ss) h = closing_begins ss h
closing_begins (BehindAnyMessage told ∷ ss) h = closing_begins ss h
closing_begins (TheCascade ∷ ss) h = closing_begins ss h
closing_begins (TheElements ∷ ss) h = closing_begins ss h
closing_begins (FurtherItem ∷ ss) h = closing_begins ss h
closing_begins (BehindStatement ∷ ss) h = closing_begins ss h
closing_begins (BehindReturn ∷ ss) h = closing_begins ss h
closing_begins (Awaits c ∷ ss) h = tt
closing_begins (p ∷ ss) h = absurd h

-- parts that let a closing mark pass
abbrev pub IsPassing : Part → Type 0
IsPassing TheExpression = ⊥
IsPassing TheArgument = ⊥
IsPassing TheKeywordArgument = ⊥
IsPassing BehindFirstSuper = ⊥
IsPassing BehindSuper = ⊥
IsPassing BehindSuperOfKeyword = ⊥
IsPassing BehindSuperOfBinary = ⊥
IsPassing TheMessage = ⊥
IsPassing AnyArgument = ⊥
IsPassing TheNumeral = ⊥
IsPassing TheParameter = ⊥
IsPassing TheNames = ⊥
IsPassing (ThePattern kernel) = ⊥
IsPassing (BinaryName kernel) = ⊥
IsPassing (KeywordName kernel) = ⊥
IsPassing ThePrimitive = ⊥
IsPassing PrimitiveNumber = ⊥
IsPassing PrimitiveEnd = ⊥
IsPassing (Awaits c) = ⊥
IsPassing p = Unit {0}

-- a closing mark passes
pub step-passing : (p : Part) (c : Closing) (ss : Stack) → IsPassing p → step (p ∷ ss) (Closes c) ≡ step ss (Closes c)
step-passing TheExpression c ss h = absurd h
step-passing TheArgument c ss h = absurd h
step-passing TheKeywordArgument c ss h = absurd h
step-passing BehindFirstSuper c ss h = absurd h
step-passing BehindSuper c ss h = absurd h
step-passing BehindSuperOfKeyword c ss h = absurd h
step-passing BehindSuperOfBinary c ss h = absurd h
step-passing TheMessage c ss h = absurd h
step-passing AnyArgument c ss h = absurd h
step-passing TheNumeral c ss h = absurd h
step-passing TheParameter c ss h = absurd h
step-passing TheNames c ss h = absurd h
step-passing (ThePattern kernel) c ss h = absurd h
step-passing (BinaryName kernel) c ss h = absurd h
step-passing (KeywordName kernel) c ss h = absurd h
step-passing ThePrimitive c ss h = absurd h
step-passing PrimitiveNumber c ss h = absurd h
step-passing PrimitiveEnd c ss h = absurd h
step-passing (Awaits d) c ss h = absurd h
step-passing (PatternRest false) c ss h = refl
step-passing (PatternRest true) c ss h = refl
step-passing p c ss h = refl

-- tokens that begin with a closing mark pass
passes : (ks : List Terminal) (p : Part) (ss : Stack) → IsPassing p → BeginsClosing ks → feeds (p ∷ ss) ks ≡ feeds ss ks
passes (Closes c ∷ ks) p ss h b = let f : Option Stack → Option Stack = λ o. option_map_or (λ s. feeds s ks) o None in λ v. f (step-passing p c ss h v)
passes ks p ss h b = absurd b

-- the marks that close a low stack are read
pub low_closes : (ss : Stack) → AllLow ss → feeds ss (closing ss) ≡ Some []
low_closes [] h = absurd h
low_closes (UnaryOfBinary ∷ ss) h = passes (closing ss) UnaryOfBinary ss tt (closing_begins ss h) ∙ low_closes ss h
low_closes (UnaryOfKeyword ∷ ss) h = passes (closing ss) UnaryOfKeyword ss tt (closing_begins ss h) ∙ low_closes ss h
low_closes (BinaryOfKeyword ∷ ss) h = passes (closing ss) BinaryOfKeyword ss tt (closing_begins ss h) ∙ low_closes ss h
low_closes (UnaryMessages told ∷ ss) h = passes (closing ss) (UnaryMessages told) ss tt (closing_begins ss h) ∙ low_closes ss h
low_closes (BinaryMessages told ∷ ss) h = passes (closing ss) (BinaryMessages told) ss tt (closing_begins ss h) ∙ low_closes ss h
low_closes (KeywordMessages told ∷ ss) h = passes (closing ss) (KeywordMessages told) ss tt (closing_begins ss h) ∙ low_closes ss h
low_closes (BehindAnyMessage told ∷ ss) h = passes (closing ss) (BehindAnyMessage told) ss tt (closing_begins ss h) ∙ low_closes ss h
low_closes (TheCascade ∷ ss) h = passes (closing ss) TheCascade ss tt (closing_begins ss h) ∙ low_closes ss h
low_closes (TheElements ∷ ss) h = passes (closing ss) TheElements ss tt (closing_begins ss h) ∙ low_closes ss h
low_closes (FurtherItem ∷ ss) h = passes (closing ss) FurtherItem ss tt (closing_begins ss h) ∙ low_closes ss h
low_closes (BehindStatement ∷ ss) h = passes (closing ss) BehindStatement ss tt (closing_begins ss h) ∙ low_closes ss h
low_closes (BehindReturn ∷ ss) h = passes (closing ss) BehindReturn ss tt (closing_begins ss h) ∙ low_closes ss h
low_closes (Awaits GroupEnd ∷ ss) h = low_closes ss h
low_closes (Awaits BlockEnd ∷ ss) h = low_closes ss h
low_closes (Awaits BraceEnd ∷ ss) h = low_closes ss h
low_closes (Awaits TextEnd ∷ []) h = refl
low_closes (Awaits TextEnd ∷ p ∷ ss) h = absurd h
low_closes (p ∷ ss) h = absurd h

-- they are read through a part that lets them pass
passing_closes : (p : Part) (ss : Stack) → IsPassing p → AllLow ss → feeds (p ∷ ss) (closing ss) ≡ Some []
passing_closes p ss h l = passes (closing ss) p ss h (closing_begins ss l) ∙ low_closes ss l

-- they are read through a method's body
body_closes : (kernel : Bool) (ss : Stack) → AllLow ss → feeds (body_part kernel ∷ ss) (closing ss) ≡ Some []
body_closes false ss h = passing_closes TheSequence ss tt h
body_closes true ss h = passing_closes KernelBody ss tt h

-- only an identifier can stand next
abbrev pub IsNaming : Stack → Type 0
IsNaming (BehindSuperOfBinary ∷ ss) = Unit {0}
IsNaming (TheParameter ∷ ss) = Unit {0}
IsNaming (BinaryName kernel ∷ ss) = Unit {0}
IsNaming (KeywordName kernel ∷ ss) = Unit {0}
IsNaming ss = ⊥

-- the first token is no identifier
abbrev pub BeginsOther : List Terminal → Type 0
BeginsOther [] = ⊥
BeginsOther (k ∷ ks) = NoUnary k

-- a closing mark is no identifier
closing_other : (ks : List Terminal) → BeginsClosing ks → BeginsOther ks
closing_other [] h = absurd h
closing_other (Closes c ∷ ks) h = tt
closing_other (k ∷ ks) h = absurd h

-- tokens that a good stack reads to the end
pub record Completes (ss : Stack) : Type 0 where
  pub tokens : List Terminal
  pub read : feeds ss tokens ≡ Some []

-- tokens that a good stack reads to the end, the first of them no identifier
pub record CompletesOther (ss : Stack) : Type 0 where
  pub first : Terminal
  pub no_name : NoUnary first
  pub others : List Terminal
  pub read : feeds ss (first ∷ others) ≡ Some []

-- a part that lets closing marks pass has such an end
passing_completes : (p : Part) (ss : Stack) → IsPassing p → AllLow ss → CompletesOther (p ∷ ss)
passing_completes p ss h l = other (closing ss) (closing_other (closing ss) (closing_begins ss l)) (passing_closes p ss h l)
  where
    other : (ks : List Terminal) → BeginsOther ks → feeds (p ∷ ss) ks ≡ Some [] → CompletesOther (p ∷ ss)
    other [] b r = absurd b
    other (k ∷ ks) b r = record { first = k; no_name = b; others = ks; read = r }

-- a numeral of digits alone
abbrev pub digit : Terminal
digit = Numeral SmallDigits []

-- a binary selector
abbrev pub selector : Terminal
selector = Binary Common []

-- where another token than an identifier can stand, a good stack has an end that begins so
pub completes_other : (ss : Stack) → IsGood ss → ¬ IsNaming ss → ¬ IsNil ss → CompletesOther ss
completes_other [] h n e = absurd (e tt)
completes_other (TheExpression ∷ ss) h n e = record { first = digit; no_name = tt; others = closing ss; read = passing_closes (UnaryMessages false) ss tt h }
completes_other (TheArgument ∷ ss) h n e = record { first = digit; no_name = tt; others = closing ss; read = passing_closes UnaryOfBinary ss tt h }
completes_other (TheKeywordArgument ∷ ss) h n e = record { first = digit; no_name = tt; others = closing ss; read = passing_closes UnaryOfKeyword ss tt h }
completes_other (BehindFirstSuper ∷ ss) h n e = record { first = selector; no_name = tt; others = digit ∷ closing ss; read = passing_closes UnaryOfBinary (BinaryMessages false ∷ ss) tt h }
completes_other (BehindSuper ∷ ss) h n e = record { first = selector; no_name = tt; others = digit ∷ closing ss; read = passing_closes UnaryOfBinary (BinaryMessages false ∷ ss) tt h }
completes_other (BehindSuperOfKeyword ∷ ss) h n e = record { first = selector; no_name = tt; others = digit ∷ closing ss; read = passing_closes UnaryOfBinary (BinaryOfKeyword ∷ ss) tt h }
completes_other (BehindSuperOfBinary ∷ ss) h n e = absurd (n tt)
completes_other (TheMessage ∷ ss) h n e = record { first = selector; no_name = tt; others = digit ∷ closing ss; read = passing_closes UnaryOfBinary (TheCascade ∷ ss) tt h }
completes_other (AnyArgument ∷ ss) h n e = record { first = OperandMeta AnyExpression []; no_name = tt; others = closing ss; read = low_closes ss h }
completes_other (TheNumeral ∷ ss) h n e = record { first = digit; no_name = tt; others = closing ss; read = low_closes ss h }
completes_other (TheParameter ∷ ss) h n e = absurd (n tt)
completes_other (TheNames ∷ ss) h n e = record { first = Binary Bar []; no_name = tt; others = closing ss; read = passing_closes TheStatements ss tt h }
completes_other (ThePattern kernel ∷ ss) h n e = record { first = selector; no_name = tt; others = Name Ordinary [] ∷ closing ss; read = body_closes kernel ss h }
completes_other (BinaryName kernel ∷ ss) h n e = absurd (n tt)
completes_other (KeywordName kernel ∷ ss) h n e = absurd (n tt)
completes_other (ThePrimitive ∷ ss) h n e = record { first = Keyword PrimitiveKeyword []; no_name = tt; others = digit ∷ Binary Greater [] ∷ closing ss; read = low_closes ss h }
completes_other (PrimitiveNumber ∷ ss) h n e = record { first = digit; no_name = tt; others = Binary Greater [] ∷ closing ss; read = low_closes ss h }
completes_other (PrimitiveEnd ∷ ss) h n e = record { first = Binary Greater []; no_name = tt; others = closing ss; read = low_closes ss h }
completes_other (Awaits GroupEnd ∷ ss) h n e = record { first = Closes GroupEnd; no_name = tt; others = closing ss; read = low_closes ss h }
completes_other (Awaits BlockEnd ∷ ss) h n e = record { first = Closes BlockEnd; no_name = tt; others = closing ss; read = low_closes ss h }
completes_other (Awaits BraceEnd ∷ ss) h n e = record { first = Closes BraceEnd; no_name = tt; others = closing ss; read = low_closes ss h }
completes_other (Awaits TextEnd ∷ []) h n e = record { first = Closes TextEnd; no_name = tt; others = []; read = refl }
completes_other (Awaits TextEnd ∷ p ∷ ss) h n e = absurd h
completes_other (p ∷ ss) h n e = passing_completes p ss tt h

-- such an end is an end
other_completes : (ss : Stack) → CompletesOther ss → Completes ss
other_completes ss c = record { tokens = c.first ∷ c.others; read = c.read }

-- each good stack has an end
pub completes : (ss : Stack) → IsGood ss → Completes ss
completes [] h = record { tokens = []; read = refl }
completes (BehindSuperOfBinary ∷ ss) h = record { tokens = Name Ordinary [] ∷ closing ss; read = passing_closes UnaryOfBinary ss tt h }
completes (TheParameter ∷ ss) h = record { tokens = Name Ordinary [] ∷ closing ss; read = passing_closes TheParameters ss tt h }
completes (BinaryName kernel ∷ ss) h = record { tokens = Name Ordinary [] ∷ closing ss; read = body_closes kernel ss h }
completes (KeywordName false ∷ ss) h = record { tokens = Name Ordinary [] ∷ closing ss; read = passing_closes (PatternRest false) ss tt h }
completes (KeywordName true ∷ ss) h = record { tokens = Name Ordinary [] ∷ closing ss; read = passing_closes (PatternRest true) ss tt h }
completes (p ∷ ss) h = other_completes (p ∷ ss) (completes_other (p ∷ ss) h (λ n. n) (λ n. n))

-- what a step leads to is good
abbrev pub GoodIfSome : Option Stack → Type 0
GoodIfSome None = Unit {0}
GoodIfSome (Some ss) = IsGood ss
