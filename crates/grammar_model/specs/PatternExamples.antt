-- Some token lists of patterns, each with its fault or none, and the tokens of a pattern as the grammar sees them.
use Rattle.std.specs.Prelude.{List, [], ◌∷◌, Some, None, codes}
use Rattle.token_model.specs.TokenLists.{Piece}
use Rattle.token_model.specs.declared.kind.TokenKind.TheVariants as token
use Rattle.grammar_model.specs.declared.wanted.Wanted.TheVariants as wanted
use Rattle.grammar_model.specs.Terminal.{Text, Ordinary, AnyKeyword, PrimitiveKeyword, AnyKey, Less, Greater, Group, BlockStart, BraceStart, ArrayStart, BytesStart, GroupEnd, BlockEnd, BraceEnd, TextEnd, AnyName, AnyLiteral, AnyExpression, Terminal, Name, Keyword, Binary, Opens, Closes, Assignment, Colon, Semicolon, Period, Caret, OperandMeta, StatementMeta, MessageMeta}
use Rattle.grammar_model.specs.Input.{Lexeme, lex}
use Rattle.grammar_model.specs.Whole.{PatternText}
use Rattle.grammar_model.specs.Checks.{Expected, PrimitiveInUser}
use Rattle.grammar_model.specs.Examples.{name, super, digits, keyword, plus, bar, Row, row}

-- the keyword and the brackets of primitives
abbrev pub primitive : Terminal
primitive = Keyword PrimitiveKeyword []

-- the bracket that opens a primitive
abbrev pub less : Terminal
less = Binary Less []

-- the bracket that closes a primitive
abbrev pub greater : Terminal
greater = Binary Greater []

-- `x
abbrev pub any_name : Terminal
any_name = OperandMeta AnyName []

-- `#x
abbrev pub any_literal : Terminal
any_literal = OperandMeta AnyLiteral []

-- `@x
abbrev pub any_expression : Terminal
any_expression = OperandMeta AnyExpression []

-- `.x and `.@x
abbrev pub any_statement : Terminal
any_statement = StatementMeta []

-- `k:
abbrev pub any_key : Terminal
any_key = Keyword AnyKey []

-- `@k:
abbrev pub any_message : Terminal
any_message = MessageMeta []

-- patterns, each with its text above it
abbrev pub patterns : List Row
patterns =
    -- <primitive: 1>
    row PatternText (less ∷ primitive ∷ digits ∷ greater ∷ []) (Some (Expected wanted.Operand 0)) ∷
    -- [<primitive: 1>]
    row PatternText (Opens BlockStart ∷ less ∷ primitive ∷ digits ∷ greater ∷ Closes BlockEnd ∷ []) (Some (PrimitiveInUser 1)) ∷
    -- ^a
    row PatternText (Caret ∷ name ∷ []) (Some (Expected wanted.Operand 0)) ∷
    -- ^`.s
    row PatternText (Caret ∷ any_statement ∷ []) (Some (Expected wanted.Operand 0)) ∷
    -- `.s
    row PatternText (any_statement ∷ []) (Some (Expected wanted.Operand 0)) ∷
    -- [`.s foo]
    row PatternText (Opens BlockStart ∷ any_statement ∷ name ∷ Closes BlockEnd ∷ []) (Some (Expected wanted.End 2)) ∷
    -- [`.s. `.@t]
    row PatternText (Opens BlockStart ∷ any_statement ∷ Period ∷ any_statement ∷ Closes BlockEnd ∷ []) None ∷
    -- [^`.s]
    row PatternText (Opens BlockStart ∷ Caret ∷ any_statement ∷ Closes BlockEnd ∷ []) (Some (Expected wanted.Operand 2)) ∷
    -- #(`@x)
    row PatternText (Opens ArrayStart ∷ any_expression ∷ Closes GroupEnd ∷ []) (Some (Expected wanted.Element 1)) ∷
    -- #(1 `k: 2)
    row PatternText (Opens ArrayStart ∷ digits ∷ any_key ∷ digits ∷ Closes GroupEnd ∷ []) (Some (Expected wanted.Element 2)) ∷
    -- `x := 1
    row PatternText (any_name ∷ Assignment ∷ digits ∷ []) (Some (Expected wanted.End 1)) ∷
    -- `@x := 1
    row PatternText (any_expression ∷ Assignment ∷ digits ∷ []) (Some (Expected wanted.End 1)) ∷
    -- [:`x | ]
    row PatternText (Opens BlockStart ∷ Colon ∷ any_name ∷ bar ∷ Closes BlockEnd ∷ []) (Some (Expected wanted.Identifier 2)) ∷
    -- [ | `x | ]
    row PatternText (Opens BlockStart ∷ bar ∷ any_name ∷ bar ∷ Closes BlockEnd ∷ []) (Some (Expected wanted.End 2)) ∷
    -- [ | a `x | ]
    row PatternText (Opens BlockStart ∷ bar ∷ name ∷ any_name ∷ bar ∷ Closes BlockEnd ∷ []) (Some (Expected wanted.End 3)) ∷
    -- `@k: `@x
    row PatternText (any_message ∷ any_expression ∷ []) (Some (Expected wanted.Operand 0)) ∷
    -- a `@k: `@x
    row PatternText (name ∷ any_message ∷ any_expression ∷ []) None ∷
    -- a `@k: `@x foo
    row PatternText (name ∷ any_message ∷ any_expression ∷ name ∷ []) (Some (Expected wanted.End 3)) ∷
    -- a `@k: `@x; bar
    row PatternText (name ∷ any_message ∷ any_expression ∷ Semicolon ∷ name ∷ []) None ∷
    -- a `@k: 3
    row PatternText (name ∷ any_message ∷ digits ∷ []) (Some (Expected wanted.Operand 2)) ∷
    -- a `@k: `x
    row PatternText (name ∷ any_message ∷ any_name ∷ []) (Some (Expected wanted.Operand 2)) ∷
    -- a foo: b `@k: `@x
    row PatternText (name ∷ keyword ∷ name ∷ any_message ∷ any_expression ∷ []) (Some (Expected wanted.End 3)) ∷
    -- a `@k: `@x k: 3
    row PatternText (name ∷ any_message ∷ any_expression ∷ keyword ∷ digits ∷ []) (Some (Expected wanted.End 3)) ∷
    -- super `@k: `@x
    row PatternText (super ∷ any_message ∷ any_expression ∷ []) None ∷
    -- super `@k: `@x; foo
    row PatternText (super ∷ any_message ∷ any_expression ∷ Semicolon ∷ name ∷ []) (Some (Expected wanted.End 3)) ∷
    -- super foo `@k: `@x; foo
    row PatternText (super ∷ name ∷ any_message ∷ any_expression ∷ Semicolon ∷ name ∷ []) None ∷
    -- a foo: super `k: 3
    row PatternText (name ∷ keyword ∷ super ∷ any_key ∷ digits ∷ []) (Some (Expected wanted.End 3)) ∷
    -- a `@x
    row PatternText (name ∷ any_expression ∷ []) (Some (Expected wanted.End 1)) ∷
    -- a `#x
    row PatternText (name ∷ any_literal ∷ []) (Some (Expected wanted.End 1)) ∷
    -- a + `x
    row PatternText (name ∷ plus ∷ any_name ∷ []) None ∷
    -- a + b `x
    row PatternText (name ∷ plus ∷ name ∷ any_name ∷ []) None ∷
    -- a; `x
    row PatternText (name ∷ Semicolon ∷ any_name ∷ []) (Some (Expected wanted.End 1)) ∷
    -- a foo; `x; `k: 2; `@k: `@y
    row PatternText (name ∷ name ∷ Semicolon ∷ any_name ∷ Semicolon ∷ any_key ∷ digits ∷ Semicolon ∷ any_message ∷ any_expression ∷ []) None ∷
    -- `x `x `x
    row PatternText (any_name ∷ any_name ∷ any_name ∷ []) None ∷
    -- `@x.
    row PatternText (any_expression ∷ Period ∷ []) (Some (Expected wanted.End 1)) ∷
    -- | a | a
    row PatternText (bar ∷ name ∷ bar ∷ name ∷ []) (Some (Expected wanted.Operand 0)) ∷
    -- nothing
    row PatternText [] (Some (Expected wanted.Operand 0)) ∷
    -- a `.x
    row PatternText (name ∷ any_statement ∷ []) (Some (Expected wanted.End 1)) ∷
    -- `@x: 3
    row PatternText (any_message ∷ digits ∷ []) (Some (Expected wanted.Operand 0)) ∷
    -- `x`y
    row PatternText (any_name ∷ any_name ∷ []) None ∷
    -- a `x:=1
    row PatternText (name ∷ any_name ∷ Assignment ∷ digits ∷ []) (Some (Expected wanted.End 2)) ∷
    -- `k: 1
    row PatternText (any_key ∷ digits ∷ []) (Some (Expected wanted.Operand 0)) ∷
    -- (`.s)
    row PatternText (Opens Group ∷ any_statement ∷ Closes GroupEnd ∷ []) (Some (Expected wanted.Operand 1)) ∷
    -- {`.s}
    row PatternText (Opens BraceStart ∷ any_statement ∷ Closes BraceEnd ∷ []) (Some (Expected wanted.Operand 1)) ∷
    -- {`@x. `@y}
    row PatternText (Opens BraceStart ∷ any_expression ∷ Period ∷ any_expression ∷ Closes BraceEnd ∷ []) None ∷
    -- a + b `@k: `@x
    row PatternText (name ∷ plus ∷ name ∷ any_message ∷ any_expression ∷ []) None ∷
    -- a foo: b + c `@k: `@x
    row PatternText (name ∷ keyword ∷ name ∷ plus ∷ name ∷ any_message ∷ any_expression ∷ []) (Some (Expected wanted.End 5)) ∷
    -- a foo; + b `@k: `@x
    row PatternText (name ∷ name ∷ Semicolon ∷ plus ∷ name ∷ any_message ∷ any_expression ∷ []) (Some (Expected wanted.End 5)) ∷
    -- #[`#x]
    row PatternText (Opens BytesStart ∷ any_literal ∷ Closes BlockEnd ∷ []) (Some (Expected wanted.Element 1)) ∷
    -- [:a | | b | `.@x. a ``y]
    row PatternText (Opens BlockStart ∷ Colon ∷ name ∷ bar ∷ bar ∷ name ∷ bar ∷ any_statement ∷ Period ∷ name ∷ any_name ∷ Closes BlockEnd ∷ []) None ∷
    -- `@x `k: `@y bar: `#z; `u
    row PatternText (any_expression ∷ any_key ∷ any_expression ∷ keyword ∷ any_literal ∷ Semicolon ∷ any_name ∷ []) None ∷
    -- [`.@a. `.@b. :]
    row PatternText (Opens BlockStart ∷ any_statement ∷ Period ∷ any_statement ∷ Period ∷ Colon ∷ Closes BlockEnd ∷ []) (Some (Expected wanted.Operand 5)) ∷
    []

-- a pattern with metavariables of each kind
abbrev pub a_pattern : Text
a_pattern = codes "`x k: ``#y `l: [``.s. `.@t. a `@m: `@z]"

-- its tokens
abbrev pub its_pieces : List Piece
its_pieces =
    record { kind = token.Identifier; from = 0; to = 2 } ∷
    record { kind = token.Keyword; from = 3; to = 5 } ∷
    record { kind = token.Identifier; from = 6; to = 10 } ∷
    record { kind = token.Keyword; from = 11; to = 14 } ∷
    record { kind = token.BlockOpen; from = 15; to = 16 } ∷
    record { kind = token.Identifier; from = 16; to = 20 } ∷
    record { kind = token.Period; from = 20; to = 21 } ∷
    record { kind = token.Identifier; from = 22; to = 26 } ∷
    record { kind = token.Period; from = 26; to = 27 } ∷
    record { kind = token.Identifier; from = 28; to = 29 } ∷
    record { kind = token.Keyword; from = 30; to = 34 } ∷
    record { kind = token.Identifier; from = 35; to = 38 } ∷
    record { kind = token.BlockClose; from = 38; to = 39 } ∷
    record { kind = token.End; from = 39; to = 39 } ∷
    []

-- its tokens as the grammar sees them
abbrev pub its_metas : List Lexeme
its_metas =
    lex [] 0 2 (OperandMeta AnyName (codes "`x")) ∷
    lex [] 3 5 (Keyword AnyKeyword (codes "k:")) ∷
    lex [] 6 10 (OperandMeta AnyLiteral (codes "``#y")) ∷
    lex [] 11 14 (Keyword AnyKey (codes "`l:")) ∷
    lex [] 15 16 (Opens BlockStart) ∷
    lex [] 16 20 (StatementMeta (codes "``.s")) ∷
    lex [] 20 21 Period ∷
    lex [] 22 26 (StatementMeta (codes "`.@t")) ∷
    lex [] 26 27 Period ∷
    lex [] 28 29 (Name Ordinary (codes "a")) ∷
    lex [] 30 34 (MessageMeta (codes "`@m:")) ∷
    lex [] 35 38 (OperandMeta AnyExpression (codes "`@z")) ∷
    lex [] 38 39 (Closes BlockEnd) ∷
    lex [] 39 39 (Closes TextEnd) ∷
    []
