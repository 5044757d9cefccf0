-- Which tokens go on with a row.
use Rattle.grammar_model.specs.Terminal.{Terminal, Name, Keyword, Binary, Numeral, Constant, Opens, Assignment, Colon, Semicolon, Period, Caret, Sign, Bar, SmallDigits, LargeDigits, BraceStart, OperandMeta, AnyName, StatementMeta, MessageMeta, AnyKey}

-- Whether rows are as long as they can be, or may end anywhere: the second is the grammar as it is written down.
pub data Rows : Type 0 where
  Longest : Rows
  Any : Rows

-- a premise on the token behind a row
abbrev pub Ends : Rows → Type 0 → Type 0
Ends Longest P = P
Ends Any P = Unit {0}

-- no identifier
abbrev pub NoName : Terminal → Type 0
NoName (Name c n) = ⊥
NoName k = Unit {0}

-- nothing that is a unary selector
abbrev pub NoUnary : Terminal → Type 0
NoUnary (Name c n) = ⊥
NoUnary (OperandMeta AnyName n) = ⊥
NoUnary k = Unit {0}

-- no keyword
abbrev pub NoKeyword : Terminal → Type 0
NoKeyword (Keyword c n) = ⊥
NoKeyword k = Unit {0}

-- nothing that begins a keyword message
abbrev pub NoKey : Terminal → Type 0
NoKey (Keyword c n) = ⊥
NoKey (MessageMeta n) = ⊥
NoKey k = Unit {0}

-- no binary selector
abbrev pub NoBinary : Terminal → Type 0
NoBinary (Binary c s) = ⊥
NoBinary k = Unit {0}

-- no bar
abbrev pub NoBar : Terminal → Type 0
NoBar (Binary Bar s) = ⊥
NoBar k = Unit {0}

-- no semicolon
abbrev pub NoSemicolon : Terminal → Type 0
NoSemicolon Semicolon = ⊥
NoSemicolon k = Unit {0}

-- no colon
abbrev pub NoColon : Terminal → Type 0
NoColon Colon = ⊥
NoColon k = Unit {0}

-- no period
abbrev pub NoPeriod : Terminal → Type 0
NoPeriod Period = ⊥
NoPeriod k = Unit {0}

-- digits alone
abbrev pub IsDigits : Terminal → Type 0
IsDigits (Numeral SmallDigits t) = Unit {0}
IsDigits (Numeral LargeDigits t) = Unit {0}
IsDigits k = ⊥

-- no digits alone
abbrev pub NoDigits : Terminal → Type 0
NoDigits (Numeral SmallDigits t) = ⊥
NoDigits (Numeral LargeDigits t) = ⊥
NoDigits k = Unit {0}

-- an element of an array begins with none of these
abbrev pub NoElement : Terminal → Type 0
NoElement (Opens BraceStart) = Unit {0}
NoElement (Keyword AnyKey n) = Unit {0}
NoElement (Name c n) = ⊥
NoElement (Keyword c n) = ⊥
NoElement (Binary c s) = ⊥
NoElement (Numeral c t) = ⊥
NoElement (Constant l) = ⊥
NoElement (Opens o) = ⊥
NoElement k = Unit {0}

-- an operand begins with one of these
abbrev pub IsOperandStart : Terminal → Type 0
IsOperandStart (Name c n) = Unit {0}
IsOperandStart (Binary Sign s) = Unit {0}
IsOperandStart (Numeral c t) = Unit {0}
IsOperandStart (Constant l) = Unit {0}
IsOperandStart (Opens o) = Unit {0}
IsOperandStart (OperandMeta m n) = Unit {0}
IsOperandStart k = ⊥

-- an operand begins with none of these
abbrev pub NoOperand : Terminal → Type 0
NoOperand (Name c n) = ⊥
NoOperand (Binary Sign s) = ⊥
NoOperand (Numeral c t) = ⊥
NoOperand (Constant l) = ⊥
NoOperand (Opens o) = ⊥
NoOperand (OperandMeta m n) = ⊥
NoOperand k = Unit {0}

-- a statement begins with none of these, and none of these is a period
abbrev pub NoStatement : Terminal → Type 0
NoStatement (Name c n) = ⊥
NoStatement (Binary Sign s) = ⊥
NoStatement (Numeral c t) = ⊥
NoStatement (Constant l) = ⊥
NoStatement (Opens o) = ⊥
NoStatement (StatementMeta n) = ⊥
NoStatement (OperandMeta m n) = ⊥
NoStatement Caret = ⊥
NoStatement Period = ⊥
NoStatement k = Unit {0}

-- two tokens that begin no assignment
abbrev pub NoAssignment : Terminal → Terminal → Type 0
NoAssignment (Name c n) Assignment = ⊥
NoAssignment k l = Unit {0}
