-- The first token that can continue no text, by the grammar alone, and what could stand there.
use Rattle.std.specs.Prelude.{◌≡◌, ℕ, List, [], ◌∷◌, ◌++◌, true, false}
use Rattle.tree_model.specs.Tree.{Notes}
use Rattle.grammar_model.specs.declared.wanted.Wanted.{Wanted}
use Rattle.grammar_model.specs.declared.wanted.Wanted.TheVariants.{Operand, Identifier, Element, End}
use Rattle.grammar_model.specs.Terminal.{Terminal, Name, Keyword, Binary, Numeral, Caret, Ordinary, PrimitiveKeyword, Less, SmallDigits, OperandMeta, AnyExpression}
use Rattle.grammar_model.specs.Input.{Lexeme, lex, kinds, first_kind}
use Rattle.grammar_model.specs.Ahead.{NoUnary}
use Rattle.grammar_model.specs.Whole.{Form, DoIt, Method, IsText, PatternText}

-- some text begins with these tokens
pub record Continues (form : Form) (p : List Terminal) : Type 0 where
  pub tokens : List Lexeme
  pub behind : List Terminal
  pub same : kinds tokens ≡ p ++ behind
  pub text : IsText form tokens

-- An operand could stand: any expression's metavariable could, which is no element of an array.
abbrev pub MayOperand : Form → List Terminal → Type 0
MayOperand form p = Continues form (p ++ OperandMeta AnyExpression [] ∷ [])

-- an identifier could stand, and no other token
abbrev pub OnlyName : Form → List Terminal → Type 0
OnlyName form p = Continues form (p ++ Name Ordinary [] ∷ []) × ((k : Terminal) → NoUnary k → ¬ Continues form (p ++ k ∷ []))

-- Two numerals could stand side by side. Where no operand can begin, they are elements of an array.
abbrev pub MayElement : Form → List Terminal → Type 0
MayElement form p = Continues form (p ++ Numeral SmallDigits [] ∷ Numeral SmallDigits [] ∷ [])

-- what could stand behind these tokens, the first that fits
abbrev pub IsWanted : Form → List Terminal → Wanted → Type 0
IsWanted form p Operand = MayOperand form p
IsWanted form p Identifier = (¬ MayOperand form p) × OnlyName form p
IsWanted form p Element = (¬ MayOperand form p) × (¬ OnlyName form p) × MayElement form p
IsWanted form p End = (¬ MayOperand form p) × (¬ OnlyName form p) × (¬ MayElement form p)

-- the tokens before fit a text, and with the next one no text begins so; the end is a token too
pub record IsStop (form : Form) (ts : List Lexeme) (before : List Terminal) (at : ℕ) (wrong : Terminal) (rest : List Lexeme) : Type 0 where
  pub front : List Lexeme
  pub notes : Notes
  pub to : ℕ
  pub split : ts ≡ front ++ lex notes at to wrong ∷ rest
  pub before_is : kinds front ≡ before
  pub fits : Continues form before
  pub stops : ¬ Continues form (before ++ wrong ∷ [])

-- texts of users
abbrev pub IsUser : Form → Type 0
IsUser DoIt = Unit {0}
IsUser PatternText = Unit {0}
IsUser (Method true) = ⊥
IsUser (Method false) = Unit {0}

-- the bracket that opens a primitive
abbrev pub IsLess : Terminal → Type 0
IsLess (Binary Less s) = Unit {0}
IsLess k = ⊥

-- the keyword of primitives
abbrev pub IsPrimitiveKeyword : Terminal → Type 0
IsPrimitiveKeyword (Keyword PrimitiveKeyword k) = Unit {0}
IsPrimitiveKeyword k = ⊥

-- where a user's statement could begin, as a return could, a primitive begins
pub record IsUserPrimitive (form : Form) (before : List Terminal) (wrong : Terminal) (rest : List Lexeme) : Type 0 where
  pub user : IsUser form
  pub bracket : IsLess wrong
  pub keyword : IsPrimitiveKeyword (first_kind rest)
  pub statement : Continues form (before ++ Caret ∷ [])
