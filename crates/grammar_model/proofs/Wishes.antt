-- What the machine says could stand behind some tokens is what the grammar says.
use Rattle.std.proofs.Common.{◌≡◌, Bool, true, false, List, [], ◌∷◌, Some, None, refl, ap, sym, subst, ◌∙◌, ◌⊎◌, inl, inr}
use Rattle.std.specs.Prelude.{Option}
use Rattle.std.specs.Option.{option_map_or}
use Rattle.grammar_model.specs.declared.wanted.Wanted.TheVariants as wanted
use Rattle.grammar_model.specs.Terminal.{Ordinary, GroupEnd, BlockEnd, BraceEnd, TextEnd, Terminal, Name, OperandMeta, AnyName, AnyExpression}
use Rattle.grammar_model.specs.Ahead.{NoUnary}
use Rattle.grammar_model.specs.Whole.{Form}
use Rattle.grammar_model.specs.Stop.{MayOperand, OnlyName, IsWanted}
use Rattle.grammar_model.specs.Machine.{Part, Stack, TheExpression, TheArgument, TheKeywordArgument, BehindName, BehindFirstSuper, BehindSuper, BehindSuperOfKeyword, BehindSuperOfBinary, UnaryOfBinary, UnaryOfKeyword, BinaryOfKeyword, UnaryMessages, BinaryMessages, KeywordMessages, TheMessage, TheCascade, TheNumeral, TheElements, TheBytes, TheItems, FurtherItem, TheBlock, TheParameter, TheParameters, TheSequence, TheNames, TheStatements, BehindStatement, BehindReturn, ThePattern, BinaryName, KeywordName, PatternRest, KernelBody, ThePrimitive, PrimitiveNumber, PrimitiveEnd, Awaits, body_part, step, feeds, wish, AnyArgument, BehindAnyMessage}
use Rattle.grammar_model.proofs.Stacks.{AllLow, IsGood, low_good, IsNaming, CompletesOther, completes_other, digit, GoodIfSome}
use Rattle.grammar_model.proofs.Steps.{good_step}
use Rattle.grammar_model.proofs.Continuing.{IsBehind, goes_further, stops_further, goes_first, feeds_one}

-- any expression's metavariable
abbrev operand : Terminal
operand = OperandMeta AnyExpression []

-- no operand can begin
abbrev NoOperandHere : Stack → Type 0
NoOperandHere ss = feeds ss (operand ∷ []) ≡ None

-- two numerals can be read, or not even one
record ReadsTwo (ss : Stack) : Type 0 where
  one : Stack
  two : Stack
  first : step ss digit ≡ Some one
  second : step one digit ≡ Some two
  good : IsGood two

-- what low stacks can read
record LowFacts (ss : Stack) : Type 0 where
  no_operand : NoOperandHere ss
  numbers : ((wish ss ≡ wanted.Element) × ReadsTwo ss) ⊎ ((wish ss ≡ wanted.End) × (step ss digit ≡ None))

-- a part that lets what begins operands pass has the facts of what stands below
passing_facts : (p : Part) (ss : Stack) → step (p ∷ ss) operand ≡ step ss operand → step (p ∷ ss) digit ≡ step ss digit → wish (p ∷ ss) ≡ wish ss → LowFacts ss → LowFacts (p ∷ ss)
passing_facts p ss block number same f = record {
  no_operand = ap (λ o. option_map_or (λ s. feeds s []) o None) block ∙ f.no_operand;
  numbers = elim f.numbers [
    | inl e ↦ inl (same ∙ e.0, record { one = e.1.one; two = e.1.two; first = number ∙ e.1.first; second = e.1.second; good = e.1.good })
    | inr n ↦ inr (same ∙ n.0, number ∙ n.1)
  ];
}

-- low stacks have the facts
low_facts : (ss : Stack) → AllLow ss → LowFacts ss
low_facts [] h = absurd h
low_facts (UnaryOfBinary ∷ ss) h = passing_facts UnaryOfBinary ss refl refl refl (low_facts ss h)
low_facts (UnaryOfKeyword ∷ ss) h = passing_facts UnaryOfKeyword ss refl refl refl (low_facts ss h)
low_facts (BinaryOfKeyword ∷ ss) h = passing_facts BinaryOfKeyword ss refl refl refl (low_facts ss h)
low_facts (UnaryMessages told ∷ ss) h = passing_facts (UnaryMessages told) ss refl refl refl (low_facts ss h)
low_facts (BinaryMessages told ∷ ss) h = passing_facts (BinaryMessages told) ss refl refl refl (low_facts ss h)
low_facts (KeywordMessages told ∷ ss) h = passing_facts (KeywordMessages told) ss refl refl refl (low_facts ss h)
low_facts (BehindAnyMessage told ∷ ss) h = passing_facts (BehindAnyMessage told) ss refl refl refl (low_facts ss h)
low_facts (TheCascade ∷ ss) h = passing_facts TheCascade ss refl refl refl (low_facts ss h)
low_facts (FurtherItem ∷ ss) h = passing_facts FurtherItem ss refl refl refl (low_facts ss h)
low_facts (BehindStatement ∷ ss) h = passing_facts BehindStatement ss refl refl refl (low_facts ss h)
low_facts (BehindReturn ∷ ss) h = passing_facts BehindReturn ss refl refl refl (low_facts ss h)
low_facts (TheElements ∷ ss) h = record { no_operand = (low_facts ss h).no_operand; numbers = inl (refl, record { one = TheElements ∷ ss; two = TheElements ∷ ss; first = refl; second = refl; good = h }) }
low_facts (Awaits GroupEnd ∷ ss) h = record { no_operand = refl; numbers = inr (refl, refl) }
low_facts (Awaits BlockEnd ∷ ss) h = record { no_operand = refl; numbers = inr (refl, refl) }
low_facts (Awaits BraceEnd ∷ ss) h = record { no_operand = refl; numbers = inr (refl, refl) }
low_facts (Awaits TextEnd ∷ []) h = record { no_operand = refl; numbers = inr (refl, refl) }
low_facts (Awaits TextEnd ∷ p ∷ ss) h = absurd h
low_facts (p ∷ ss) h = absurd h

-- no operand can begin
no_operand : (form : Form) (p : List Terminal) (ss : Stack) → IsBehind form p ss → NoOperandHere ss → ¬ MayOperand form p
no_operand form p ss b n = stops_further form p (operand ∷ []) ss b n

-- another token than an identifier can stand
not_only_name : (form : Form) (p : List Terminal) (ss : Stack) → IsBehind form p ss → CompletesOther ss → ¬ OnlyName form p
not_only_name form p ss b z only = only.1 z.first z.no_name (goes_first form p ss z.first z.others b z.read)

-- two numerals
feeds_two : (ss one : Stack) (o : Option Stack) → step ss digit ≡ Some one → step one digit ≡ o → feeds ss (digit ∷ digit ∷ []) ≡ o
feeds_two ss one o e f = ap (λ x. option_map_or (λ s. feeds s (digit ∷ [])) x None) e ∙ feeds_one one digit o f

-- not even one numeral
feeds_none : (ss : Stack) → step ss digit ≡ None → feeds ss (digit ∷ digit ∷ []) ≡ None
feeds_none ss e = ap (λ x. option_map_or (λ s. feeds s (digit ∷ [])) x None) e

-- nothing but an end is wanted
wants_end : (form : Form) (p : List Terminal) (ss : Stack) → IsBehind form p ss → CompletesOther ss → NoOperandHere ss → feeds ss (digit ∷ digit ∷ []) ≡ None → IsWanted form p wanted.End
wants_end form p ss b z block numbers = (no_operand form p ss b block, not_only_name form p ss b z, stops_further form p (digit ∷ digit ∷ []) ss b numbers)

-- an element is wanted
wants_element : (form : Form) (p : List Terminal) (ss : Stack) → IsBehind form p ss → CompletesOther ss → NoOperandHere ss → ReadsTwo ss → IsWanted form p wanted.Element
wants_element form p ss b z block r = (no_operand form p ss b block, not_only_name form p ss b z, goes_further form p (digit ∷ digit ∷ []) ss r.two b (feeds_two ss r.one (Some r.two) r.first r.second) r.good)

-- what low facts say is wanted
wants_low : (form : Form) (p : List Terminal) (ss : Stack) → IsBehind form p ss → CompletesOther ss → LowFacts ss → IsWanted form p (wish ss)
wants_low form p ss b z f = elim f.numbers [
  | inl e ↦ subst (IsWanted form p) (sym e.0) (wants_element form p ss b z f.no_operand e.1)
  | inr n ↦ subst (IsWanted form p) (sym n.0) (wants_end form p ss b z f.no_operand (feeds_none ss n.1))
]

-- behind a sign stands one numeral; another could follow only in an array
sign_facts : (ss : Stack) → AllLow ss → LowFacts ss → ((wish ss ≡ wanted.Element) × ReadsTwo (TheNumeral ∷ ss)) ⊎ ((wish ss ≡ wanted.End) × (feeds (TheNumeral ∷ ss) (digit ∷ digit ∷ []) ≡ None))
sign_facts ss h f = elim f.numbers [
  | inl e ↦ inl (e.0, two e.1)
  | inr n ↦ inr (n.0, feeds_two (TheNumeral ∷ ss) ss None refl n.1)
]
  where
    two : ReadsTwo ss → ReadsTwo (TheNumeral ∷ ss)
    two r = record { one = ss; two = r.one; first = refl; second = r.first; good = after r.one r.first }
      where
        after : (o : Stack) → step ss digit ≡ Some o → IsGood o
        after o e = subst GoodIfSome e (good_step ss digit (low_good ss h))

-- what is wanted behind a sign
wants_behind_sign : (form : Form) (p : List Terminal) (ss : Stack) → AllLow ss → IsBehind form p (TheNumeral ∷ ss) → CompletesOther (TheNumeral ∷ ss) → IsWanted form p (wish ss)
wants_behind_sign form p ss h b z = elim (sign_facts ss h (low_facts ss h)) [
  | inl e ↦ subst (IsWanted form p) (sym e.0) (wants_element form p (TheNumeral ∷ ss) b z refl e.1)
  | inr n ↦ subst (IsWanted form p) (sym n.0) (wants_end form p (TheNumeral ∷ ss) b z refl n.1)
]

-- what reads only an identifier
only_names : (ss : Stack) (k : Terminal) → IsNaming ss → NoUnary k → step ss k ≡ None
only_names [] k h n = absurd h
only_names (BehindSuperOfBinary ∷ ss) (Name c m) h n = absurd n
only_names (BehindSuperOfBinary ∷ ss) (OperandMeta AnyName m) h n = absurd n
only_names (BehindSuperOfBinary ∷ ss) k h n = refl
only_names (TheParameter ∷ ss) (Name c m) h n = absurd n
only_names (TheParameter ∷ ss) k h n = refl
only_names (BinaryName kernel ∷ ss) (Name c m) h n = absurd n
only_names (BinaryName kernel ∷ ss) k h n = refl
only_names (KeywordName kernel ∷ ss) (Name c m) h n = absurd n
only_names (KeywordName kernel ∷ ss) k h n = refl
only_names (p ∷ ss) k h n = absurd h

-- an identifier is wanted
wants_name : (form : Form) (p : List Terminal) (ss to : Stack) → IsNaming ss → IsBehind form p ss → NoOperandHere ss → step ss (Name Ordinary []) ≡ Some to → IsGood to → IsWanted form p wanted.Identifier
wants_name form p ss to h b block e good = (
  no_operand form p ss b block,
  (
    goes_further form p (Name Ordinary [] ∷ []) ss to b (feeds_one ss (Name Ordinary []) (Some to) e) good,
    λ k n. stops_further form p (k ∷ []) ss b (feeds_one ss k None (only_names ss k h n)),
  ),
)

-- an operand is wanted
wants_operand : (form : Form) (p : List Terminal) (ss to : Stack) → IsBehind form p ss → feeds ss (operand ∷ []) ≡ Some to → IsGood to → IsWanted form p wanted.Operand
wants_operand form p ss to b e good = goes_further form p (operand ∷ []) ss to b e good

-- before a method's body
good_body_part : (kernel : Bool) (ss : Stack) → AllLow ss → IsGood (body_part kernel ∷ ss)
good_body_part false ss h = h
good_body_part true ss h = h

-- what the machine says could stand is what the grammar says
pub wishes : (form : Form) (p : List Terminal) (ss : Stack) → IsGood ss → IsBehind form p ss → IsWanted form p (wish ss)
wishes form p [] h b = (no_operand form p [] b refl, (λ only. stops_further form p (Name Ordinary [] ∷ []) [] b refl only.0), stops_further form p (digit ∷ digit ∷ []) [] b refl)
wishes form p (TheExpression ∷ ss) h b = wants_operand form p (TheExpression ∷ ss) _ b refl h
wishes form p (TheArgument ∷ ss) h b = wants_operand form p (TheArgument ∷ ss) _ b refl h
wishes form p (TheKeywordArgument ∷ ss) h b = wants_operand form p (TheKeywordArgument ∷ ss) _ b refl h
wishes form p (AnyArgument ∷ ss) h b = wants_operand form p (AnyArgument ∷ ss) _ b refl (low_good ss h)
wishes form p (TheItems ∷ ss) h b = wants_operand form p (TheItems ∷ ss) _ b refl h
wishes form p (TheBlock ∷ ss) h b = wants_operand form p (TheBlock ∷ ss) _ b refl h
wishes form p (TheSequence ∷ ss) h b = wants_operand form p (TheSequence ∷ ss) _ b refl h
wishes form p (TheStatements ∷ ss) h b = wants_operand form p (TheStatements ∷ ss) _ b refl h
wishes form p (PatternRest false ∷ ss) h b = wants_operand form p (PatternRest false ∷ ss) _ b refl h
wishes form p (PatternRest true ∷ ss) h b = wants_operand form p (PatternRest true ∷ ss) _ b refl h
wishes form p (KernelBody ∷ ss) h b = wants_operand form p (KernelBody ∷ ss) _ b refl h
wishes form p (BehindSuperOfBinary ∷ ss) h b = wants_name form p (BehindSuperOfBinary ∷ ss) _ tt b refl refl h
wishes form p (TheParameter ∷ ss) h b = wants_name form p (TheParameter ∷ ss) _ tt b refl refl h
wishes form p (BinaryName kernel ∷ ss) h b = wants_name form p (BinaryName kernel ∷ ss) (body_part kernel ∷ ss) tt b refl refl (good_body_part kernel ss h)
wishes form p (KeywordName kernel ∷ ss) h b = wants_name form p (KeywordName kernel ∷ ss) (PatternRest kernel ∷ ss) tt b refl refl h
wishes form p (TheBytes ∷ ss) h b = wants_element form p (TheBytes ∷ ss) b (completes_other (TheBytes ∷ ss) h (λ n. n) (λ n. n)) (low_facts ss h).no_operand (record { one = TheBytes ∷ ss; two = TheBytes ∷ ss; first = refl; second = refl; good = h })
wishes form p (TheNumeral ∷ ss) h b = wants_behind_sign form p ss h b (completes_other (TheNumeral ∷ ss) h (λ n. n) (λ n. n))
wishes form p (BehindName ∷ ss) h b = wants_low form p (BehindName ∷ ss) b (completes_other (BehindName ∷ ss) h (λ n. n) (λ n. n)) (passing_facts BehindName ss refl refl refl (low_facts ss h))
wishes form p (TheParameters ∷ ss) h b = wants_low form p (TheParameters ∷ ss) b (completes_other (TheParameters ∷ ss) h (λ n. n) (λ n. n)) (passing_facts TheParameters ss refl refl refl (low_facts ss h))
wishes form p (UnaryOfBinary ∷ ss) h b = wants_low form p (UnaryOfBinary ∷ ss) b (completes_other (UnaryOfBinary ∷ ss) h (λ n. n) (λ n. n)) (low_facts (UnaryOfBinary ∷ ss) h)
wishes form p (UnaryOfKeyword ∷ ss) h b = wants_low form p (UnaryOfKeyword ∷ ss) b (completes_other (UnaryOfKeyword ∷ ss) h (λ n. n) (λ n. n)) (low_facts (UnaryOfKeyword ∷ ss) h)
wishes form p (BinaryOfKeyword ∷ ss) h b = wants_low form p (BinaryOfKeyword ∷ ss) b (completes_other (BinaryOfKeyword ∷ ss) h (λ n. n) (λ n. n)) (low_facts (BinaryOfKeyword ∷ ss) h)
wishes form p (UnaryMessages told ∷ ss) h b = wants_low form p (UnaryMessages told ∷ ss) b (completes_other (UnaryMessages told ∷ ss) h (λ n. n) (λ n. n)) (low_facts (UnaryMessages told ∷ ss) h)
wishes form p (BinaryMessages told ∷ ss) h b = wants_low form p (BinaryMessages told ∷ ss) b (completes_other (BinaryMessages told ∷ ss) h (λ n. n) (λ n. n)) (low_facts (BinaryMessages told ∷ ss) h)
wishes form p (KeywordMessages told ∷ ss) h b = wants_low form p (KeywordMessages told ∷ ss) b (completes_other (KeywordMessages told ∷ ss) h (λ n. n) (λ n. n)) (low_facts (KeywordMessages told ∷ ss) h)
wishes form p (BehindAnyMessage told ∷ ss) h b = wants_low form p (BehindAnyMessage told ∷ ss) b (completes_other (BehindAnyMessage told ∷ ss) h (λ n. n) (λ n. n)) (low_facts (BehindAnyMessage told ∷ ss) h)
wishes form p (TheCascade ∷ ss) h b = wants_low form p (TheCascade ∷ ss) b (completes_other (TheCascade ∷ ss) h (λ n. n) (λ n. n)) (low_facts (TheCascade ∷ ss) h)
wishes form p (FurtherItem ∷ ss) h b = wants_low form p (FurtherItem ∷ ss) b (completes_other (FurtherItem ∷ ss) h (λ n. n) (λ n. n)) (low_facts (FurtherItem ∷ ss) h)
wishes form p (BehindStatement ∷ ss) h b = wants_low form p (BehindStatement ∷ ss) b (completes_other (BehindStatement ∷ ss) h (λ n. n) (λ n. n)) (low_facts (BehindStatement ∷ ss) h)
wishes form p (BehindReturn ∷ ss) h b = wants_low form p (BehindReturn ∷ ss) b (completes_other (BehindReturn ∷ ss) h (λ n. n) (λ n. n)) (low_facts (BehindReturn ∷ ss) h)
wishes form p (TheElements ∷ ss) h b = wants_low form p (TheElements ∷ ss) b (completes_other (TheElements ∷ ss) h (λ n. n) (λ n. n)) (low_facts (TheElements ∷ ss) h)
wishes form p (BehindFirstSuper ∷ ss) h b = wants_end form p (BehindFirstSuper ∷ ss) b (completes_other (BehindFirstSuper ∷ ss) h (λ n. n) (λ n. n)) refl refl
wishes form p (BehindSuper ∷ ss) h b = wants_end form p (BehindSuper ∷ ss) b (completes_other (BehindSuper ∷ ss) h (λ n. n) (λ n. n)) refl refl
wishes form p (BehindSuperOfKeyword ∷ ss) h b = wants_end form p (BehindSuperOfKeyword ∷ ss) b (completes_other (BehindSuperOfKeyword ∷ ss) h (λ n. n) (λ n. n)) refl refl
wishes form p (TheMessage ∷ ss) h b = wants_end form p (TheMessage ∷ ss) b (completes_other (TheMessage ∷ ss) h (λ n. n) (λ n. n)) refl refl
wishes form p (TheNames ∷ ss) h b = wants_end form p (TheNames ∷ ss) b (completes_other (TheNames ∷ ss) h (λ n. n) (λ n. n)) refl refl
wishes form p (ThePattern kernel ∷ ss) h b = wants_end form p (ThePattern kernel ∷ ss) b (completes_other (ThePattern kernel ∷ ss) h (λ n. n) (λ n. n)) refl refl
wishes form p (ThePrimitive ∷ ss) h b = wants_end form p (ThePrimitive ∷ ss) b (completes_other (ThePrimitive ∷ ss) h (λ n. n) (λ n. n)) refl refl
wishes form p (PrimitiveNumber ∷ ss) h b = wants_end form p (PrimitiveNumber ∷ ss) b (completes_other (PrimitiveNumber ∷ ss) h (λ n. n) (λ n. n)) refl refl
wishes form p (PrimitiveEnd ∷ ss) h b = wants_end form p (PrimitiveEnd ∷ ss) b (completes_other (PrimitiveEnd ∷ ss) h (λ n. n) (λ n. n)) refl refl
wishes form p (Awaits GroupEnd ∷ ss) h b = wants_end form p (Awaits GroupEnd ∷ ss) b (completes_other (Awaits GroupEnd ∷ ss) h (λ n. n) (λ n. n)) refl refl
wishes form p (Awaits BlockEnd ∷ ss) h b = wants_end form p (Awaits BlockEnd ∷ ss) b (completes_other (Awaits BlockEnd ∷ ss) h (λ n. n) (λ n. n)) refl refl
wishes form p (Awaits BraceEnd ∷ ss) h b = wants_end form p (Awaits BraceEnd ∷ ss) b (completes_other (Awaits BraceEnd ∷ ss) h (λ n. n) (λ n. n)) refl refl
wishes form p (Awaits TextEnd ∷ []) h b = wants_end form p (Awaits TextEnd ∷ []) b (completes_other (Awaits TextEnd ∷ []) h (λ n. n) (λ n. n)) refl refl
wishes form p (Awaits TextEnd ∷ q ∷ ss) h b = absurd h
