-- Some token lists, each with its fault or none, as the language has them.
use Rattle.std.specs.Prelude.{ℕ, ◌+◌, List, [], ◌∷◌, Option, Some, None, codes}
use Rattle.token_model.specs.TokenLists.{Piece}
use Rattle.token_model.specs.declared.kind.TokenKind.{TokenKind}
use Rattle.token_model.specs.declared.kind.TokenKind.TheVariants as token
use Rattle.tree_model.specs.Tree.{number, str, symbol, char}
use Rattle.grammar_model.specs.declared.wanted.Wanted.TheVariants as wanted
use Rattle.grammar_model.specs.Terminal.{Text, Ordinary, Super, PrimitiveKeyword, AnyKeyword, Common, Sign, Less, Greater, Bar, SmallDigits, LargeDigits, OtherNumeral, Group, BlockStart, BraceStart, ArrayStart, BytesStart, GroupEnd, BlockEnd, BraceEnd, TextEnd, Terminal, Name, Keyword, Binary, Numeral, Constant, Opens, Closes, Assignment, Colon, Semicolon, Period, Caret}
use Rattle.grammar_model.specs.Input.{Lexeme, lex}
use Rattle.grammar_model.specs.Spanned.{Var, Literal, Cascade, Assign, Block, Return, NoTrees, one_tree, NoMessages, MoreMessages, NoStatements, MoreStatements, SpannedSequence, SpannedMethod}
use Rattle.grammar_model.specs.Whole.{Form, DoIt, IsText}
use Rattle.grammar_model.specs.Checks.{Fault, Expected, PrimitiveInUser}
use Rattle.grammar_model.specs.Spelling.{HasStop}

-- the tokens from a place on, each one byte long, and the end
abbrev pub lexemes : ℕ → List Terminal → List Lexeme
lexemes n [] = lex [] n n (Closes TextEnd) ∷ []
lexemes n (k ∷ ks) = lex [] n (n + 1) k ∷ lexemes (n + 1) ks

-- an identifier, super, a numeral of digits, one with a point, a keyword, a binary selector, a sign, and a bar
abbrev pub name : Terminal
name = Name Ordinary []

-- super
abbrev pub super : Terminal
super = Name Super []

-- a numeral of digits
abbrev pub digits : Terminal
digits = Numeral SmallDigits []

-- a numeral with a point
abbrev pub fraction : Terminal
fraction = Numeral OtherNumeral []

-- a keyword
abbrev pub keyword : Terminal
keyword = Keyword AnyKeyword []

-- a binary selector
abbrev pub plus : Terminal
plus = Binary Common []

-- a sign
abbrev pub minus : Terminal
minus = Binary Sign []

-- a bar
abbrev pub bar : Terminal
bar = Binary Bar []

-- a form, tokens without the end, and the fault that they have or none
pub record Row : Type 0 where
  pub form : Form
  pub tokens : List Terminal
  pub fault : Option Fault

-- a row of a table
abbrev pub row : Form → List Terminal → Option Fault → Row
row form ks o = record { form = form; tokens = ks; fault = o }

-- the tokens are a text, or have this fault
abbrev pub Judges : Form → List Lexeme → Option Fault → Type 0
Judges form ts None = IsText form ts
Judges form ts (Some fault) = HasStop form ts fault

-- each row is judged rightly
abbrev pub AllJudged : List Row → Type 0
AllJudged [] = Unit {0}
AllJudged (r ∷ rs) = Judges r.form (lexemes 0 r.tokens) r.fault × AllJudged rs

-- do-its, each with its text above it
abbrev pub doits : List Row
doits =
    -- nothing
    row DoIt [] None ∷
    -- | x 3 |
    row DoIt (bar ∷ name ∷ digits ∷ bar ∷ []) (Some (Expected wanted.End 2)) ∷
    -- x x ; 3
    row DoIt (name ∷ name ∷ Semicolon ∷ digits ∷ []) (Some (Expected wanted.End 3)) ∷
    -- [ : x 3 ]
    row DoIt (Opens BlockStart ∷ Colon ∷ name ∷ digits ∷ Closes BlockEnd ∷ []) (Some (Expected wanted.End 3)) ∷
    -- [ : 3 ]
    row DoIt (Opens BlockStart ∷ Colon ∷ digits ∷ Closes BlockEnd ∷ []) (Some (Expected wanted.Identifier 2)) ∷
    -- ( s ) x
    row DoIt (Opens Group ∷ super ∷ Closes GroupEnd ∷ name ∷ []) (Some (Expected wanted.End 2)) ∷
    -- x k: s + 3
    row DoIt (name ∷ keyword ∷ super ∷ plus ∷ digits ∷ []) None ∷
    -- x k: s
    row DoIt (name ∷ keyword ∷ super ∷ []) (Some (Expected wanted.End 3)) ∷
    -- x + s
    row DoIt (name ∷ plus ∷ super ∷ []) (Some (Expected wanted.Identifier 3)) ∷
    -- x + s x
    row DoIt (name ∷ plus ∷ super ∷ name ∷ []) None ∷
    -- ( x x ) ; x
    row DoIt (Opens Group ∷ name ∷ name ∷ Closes GroupEnd ∷ Semicolon ∷ name ∷ []) (Some (Expected wanted.End 4)) ∷
    -- s x ; x
    row DoIt (super ∷ name ∷ Semicolon ∷ name ∷ []) (Some (Expected wanted.End 2)) ∷
    -- s x x ; x
    row DoIt (super ∷ name ∷ name ∷ Semicolon ∷ name ∷ []) None ∷
    -- s k: x ; x
    row DoIt (super ∷ keyword ∷ name ∷ Semicolon ∷ name ∷ []) (Some (Expected wanted.End 3)) ∷
    -- s + x ; x
    row DoIt (super ∷ plus ∷ name ∷ Semicolon ∷ name ∷ []) (Some (Expected wanted.End 3)) ∷
    -- s + x + x ; x
    row DoIt (super ∷ plus ∷ name ∷ plus ∷ name ∷ Semicolon ∷ name ∷ []) None ∷
    -- s + x x ; x
    row DoIt (super ∷ plus ∷ name ∷ name ∷ Semicolon ∷ name ∷ []) (Some (Expected wanted.End 4)) ∷
    -- s x + x ; x
    row DoIt (super ∷ name ∷ plus ∷ name ∷ Semicolon ∷ name ∷ []) None ∷
    -- s := 3
    row DoIt (super ∷ Assignment ∷ digits ∷ []) None ∷
    -- s
    row DoIt (super ∷ []) (Some (Expected wanted.End 1)) ∷
    -- x x := 3
    row DoIt (name ∷ name ∷ Assignment ∷ digits ∷ []) (Some (Expected wanted.End 2)) ∷
    -- ( x ) := 3
    row DoIt (Opens Group ∷ name ∷ Closes GroupEnd ∷ Assignment ∷ digits ∷ []) (Some (Expected wanted.End 3)) ∷
    -- x := x := 3
    row DoIt (name ∷ Assignment ∷ name ∷ Assignment ∷ digits ∷ []) None ∷
    -- x ; x
    row DoIt (name ∷ Semicolon ∷ name ∷ []) (Some (Expected wanted.End 1)) ∷
    -- x + x ; x ; + 3 x ; k: x k: x ; x
    row DoIt (name ∷ plus ∷ name ∷ Semicolon ∷ name ∷ Semicolon ∷ plus ∷ digits ∷ name ∷ Semicolon ∷ keyword ∷ name ∷ keyword ∷ name ∷ Semicolon ∷ name ∷ []) None ∷
    -- x + x ; + x + x
    row DoIt (name ∷ plus ∷ name ∷ Semicolon ∷ plus ∷ name ∷ plus ∷ name ∷ []) (Some (Expected wanted.End 6)) ∷
    -- #[ - 3 ]
    row DoIt (Opens BytesStart ∷ minus ∷ digits ∷ Closes BlockEnd ∷ []) (Some (Expected wanted.Element 1)) ∷
    -- #[ 1.5 ]
    row DoIt (Opens BytesStart ∷ fraction ∷ Closes BlockEnd ∷ []) (Some (Expected wanted.Element 1)) ∷
    -- #[ x ]
    row DoIt (Opens BytesStart ∷ name ∷ Closes BlockEnd ∷ []) (Some (Expected wanted.Element 1)) ∷
    -- #[ 3 70000 ]
    row DoIt (Opens BytesStart ∷ digits ∷ Numeral LargeDigits [] ∷ Closes BlockEnd ∷ []) None ∷
    -- #( 3 - 3 x k: + | ( x ) [ 3 ] #[ 3 ] #( ) )
    row DoIt (Opens ArrayStart ∷ digits ∷ minus ∷ digits ∷ name ∷ keyword ∷ plus ∷ bar ∷ Opens Group ∷ name ∷ Closes GroupEnd ∷ Opens BlockStart ∷ digits ∷ Closes BlockEnd ∷ Opens BytesStart ∷ digits ∷ Closes BlockEnd ∷ Opens ArrayStart ∷ Closes GroupEnd ∷ Closes GroupEnd ∷ []) None ∷
    -- #( { 3 } )
    row DoIt (Opens ArrayStart ∷ Opens BraceStart ∷ digits ∷ Closes BraceEnd ∷ Closes GroupEnd ∷ []) (Some (Expected wanted.Element 1)) ∷
    -- #( ^ )
    row DoIt (Opens ArrayStart ∷ Caret ∷ Closes GroupEnd ∷ []) (Some (Expected wanted.Element 1)) ∷
    -- #( ( [ 3 x
    row DoIt (Opens ArrayStart ∷ Opens Group ∷ Opens BlockStart ∷ digits ∷ name ∷ []) (Some (Expected wanted.Element 4)) ∷
    -- ^ x . x
    row DoIt (Caret ∷ name ∷ Period ∷ name ∷ []) (Some (Expected wanted.End 3)) ∷
    -- ^ x . . .
    row DoIt (Caret ∷ name ∷ Period ∷ Period ∷ Period ∷ []) None ∷
    -- ^ x x
    row DoIt (Caret ∷ name ∷ name ∷ []) None ∷
    -- . . x . . x . .
    row DoIt (Period ∷ Period ∷ name ∷ Period ∷ Period ∷ name ∷ Period ∷ Period ∷ []) None ∷
    -- | |
    row DoIt (bar ∷ bar ∷ []) None ∷
    -- | | .
    row DoIt (bar ∷ bar ∷ Period ∷ []) None ∷
    -- | x x | x | x
    row DoIt (bar ∷ name ∷ name ∷ bar ∷ name ∷ bar ∷ name ∷ []) None ∷
    -- < primitive: 3 >
    row DoIt (Binary Less [] ∷ Keyword PrimitiveKeyword [] ∷ digits ∷ Binary Greater [] ∷ []) (Some (PrimitiveInUser 0)) ∷
    -- x . < primitive: 3 >
    row DoIt (name ∷ Period ∷ Binary Less [] ∷ Keyword PrimitiveKeyword [] ∷ digits ∷ Binary Greater [] ∷ []) (Some (PrimitiveInUser 2)) ∷
    -- [ < primitive: 3 > ]
    row DoIt (Opens BlockStart ∷ Binary Less [] ∷ Keyword PrimitiveKeyword [] ∷ digits ∷ Binary Greater [] ∷ Closes BlockEnd ∷ []) (Some (PrimitiveInUser 1)) ∷
    -- [ : x | < primitive: 3 > ]
    row DoIt (Opens BlockStart ∷ Colon ∷ name ∷ bar ∷ Binary Less [] ∷ Keyword PrimitiveKeyword [] ∷ digits ∷ Binary Greater [] ∷ Closes BlockEnd ∷ []) (Some (PrimitiveInUser 4)) ∷
    -- ^ < primitive: 3 >
    row DoIt (Caret ∷ Binary Less [] ∷ Keyword PrimitiveKeyword [] ∷ digits ∷ Binary Greater [] ∷ []) (Some (Expected wanted.Operand 1)) ∷
    -- ( < primitive: 3 >
    row DoIt (Opens Group ∷ Binary Less [] ∷ Keyword PrimitiveKeyword [] ∷ digits ∷ Binary Greater [] ∷ []) (Some (Expected wanted.Operand 1)) ∷
    -- { < primitive: 3 >
    row DoIt (Opens BraceStart ∷ Binary Less [] ∷ Keyword PrimitiveKeyword [] ∷ digits ∷ Binary Greater [] ∷ []) (Some (Expected wanted.Operand 1)) ∷
    -- ^ x . < primitive: 3 >
    row DoIt (Caret ∷ name ∷ Period ∷ Binary Less [] ∷ Keyword PrimitiveKeyword [] ∷ digits ∷ Binary Greater [] ∷ []) (Some (Expected wanted.End 3)) ∷
    -- x < primitive: 3 >
    row DoIt (name ∷ Binary Less [] ∷ Keyword PrimitiveKeyword [] ∷ digits ∷ Binary Greater [] ∷ []) (Some (Expected wanted.Operand 2)) ∷
    -- | x | < primitive: 3 >
    row DoIt (bar ∷ name ∷ bar ∷ Binary Less [] ∷ Keyword PrimitiveKeyword [] ∷ digits ∷ Binary Greater [] ∷ []) (Some (PrimitiveInUser 3)) ∷
    -- x - 3
    row DoIt (name ∷ minus ∷ digits ∷ []) None ∷
    -- x + 3 - 3
    row DoIt (name ∷ plus ∷ digits ∷ minus ∷ digits ∷ []) None ∷
    -- 3 - - 3
    row DoIt (digits ∷ minus ∷ minus ∷ digits ∷ []) None ∷
    -- + 3
    row DoIt (plus ∷ digits ∷ []) (Some (Expected wanted.Operand 0)) ∷
    -- x k: + 3
    row DoIt (name ∷ keyword ∷ plus ∷ digits ∷ []) (Some (Expected wanted.Operand 2)) ∷
    -- x + k: x
    row DoIt (name ∷ plus ∷ keyword ∷ name ∷ []) (Some (Expected wanted.Operand 2)) ∷
    -- { 3 . { 3 } . }
    row DoIt (Opens BraceStart ∷ digits ∷ Period ∷ Opens BraceStart ∷ digits ∷ Closes BraceEnd ∷ Period ∷ Closes BraceEnd ∷ []) None ∷
    -- { 3 . . }
    row DoIt (Opens BraceStart ∷ digits ∷ Period ∷ Period ∷ Closes BraceEnd ∷ []) (Some (Expected wanted.Operand 3)) ∷
    -- { . }
    row DoIt (Opens BraceStart ∷ Period ∷ Closes BraceEnd ∷ []) (Some (Expected wanted.Operand 1)) ∷
    -- { }
    row DoIt (Opens BraceStart ∷ Closes BraceEnd ∷ []) None ∷
    -- { x x ; x . 3
    row DoIt (Opens BraceStart ∷ name ∷ name ∷ Semicolon ∷ name ∷ Period ∷ digits ∷ []) (Some (Expected wanted.End 7)) ∷
    -- [ ]
    row DoIt (Opens BlockStart ∷ Closes BlockEnd ∷ []) None ∷
    -- [ : x ]
    row DoIt (Opens BlockStart ∷ Colon ∷ name ∷ Closes BlockEnd ∷ []) None ∷
    -- [ : x : x | ]
    row DoIt (Opens BlockStart ∷ Colon ∷ name ∷ Colon ∷ name ∷ bar ∷ Closes BlockEnd ∷ []) None ∷
    -- [ : x | | x | x ]
    row DoIt (Opens BlockStart ∷ Colon ∷ name ∷ bar ∷ bar ∷ name ∷ bar ∷ name ∷ Closes BlockEnd ∷ []) None ∷
    -- [ : x : x . ]
    row DoIt (Opens BlockStart ∷ Colon ∷ name ∷ Colon ∷ name ∷ Period ∷ Closes BlockEnd ∷ []) (Some (Expected wanted.End 5)) ∷
    -- [ x . x
    row DoIt (Opens BlockStart ∷ name ∷ Period ∷ name ∷ []) (Some (Expected wanted.End 4)) ∷
    -- x )
    row DoIt (name ∷ Closes GroupEnd ∷ []) (Some (Expected wanted.End 1)) ∷
    -- )
    row DoIt (Closes GroupEnd ∷ []) (Some (Expected wanted.Operand 0)) ∷
    -- #( k: k: x )
    row DoIt (Opens ArrayStart ∷ keyword ∷ keyword ∷ name ∷ Closes GroupEnd ∷ []) None ∷
    -- x k: x k:
    row DoIt (name ∷ keyword ∷ name ∷ keyword ∷ []) (Some (Expected wanted.Operand 4)) ∷
    -- | x
    row DoIt (bar ∷ name ∷ []) (Some (Expected wanted.End 2)) ∷
    -- x :=
    row DoIt (name ∷ Assignment ∷ []) (Some (Expected wanted.Operand 2)) ∷
    -- x ^ x
    row DoIt (name ∷ Caret ∷ name ∷ []) (Some (Expected wanted.End 1)) ∷
    -- x . ^ x
    row DoIt (name ∷ Period ∷ Caret ∷ name ∷ []) None ∷
    -- ( ^ x )
    row DoIt (Opens Group ∷ Caret ∷ name ∷ Closes GroupEnd ∷ []) (Some (Expected wanted.Operand 1)) ∷
    -- ( | x | x )
    row DoIt (Opens Group ∷ bar ∷ name ∷ bar ∷ name ∷ Closes GroupEnd ∷ []) (Some (Expected wanted.Operand 1)) ∷
    -- ( x . x )
    row DoIt (Opens Group ∷ name ∷ Period ∷ name ∷ Closes GroupEnd ∷ []) (Some (Expected wanted.End 2)) ∷
    -- ( x x ; x ) x ; x
    row DoIt (Opens Group ∷ name ∷ name ∷ Semicolon ∷ name ∷ Closes GroupEnd ∷ name ∷ Semicolon ∷ name ∷ []) None ∷
    -- - 3 x
    row DoIt (minus ∷ digits ∷ name ∷ []) None ∷
    -- - 3 x . - 3
    row DoIt (minus ∷ digits ∷ name ∷ Period ∷ minus ∷ digits ∷ []) None ∷
    []

-- methods of users, each with its text above it
abbrev pub methods : List Row
methods =
    []

-- methods of the kernel, each with its text above it
abbrev pub kernel_methods : List Row
kernel_methods =
    []

-- a text, its tokens with their places, and what the grammar sees of them
abbrev pub a_text : Text
a_text = codes "\"a\" x\"b\" -3 - 3 #(foo:bar: baz) 'it''s' #at:put: #'a b' #+ $' super primitive: 65535 65536 1.5 <> < > | := #[1] \"c\""

-- a token of a kind between two places
abbrev pub piece : TokenKind → ℕ → ℕ → Piece
piece k f e = record { kind = k; from = f; to = e }

-- its tokens
abbrev pub its_tokens : List Piece
its_tokens =
    piece token.Comment 0 3 ∷
    piece token.Identifier 4 5 ∷
    piece token.Comment 5 8 ∷
    piece token.Binary 9 10 ∷
    piece token.Numeral 10 11 ∷
    piece token.Binary 12 13 ∷
    piece token.Numeral 14 15 ∷
    piece token.ArrayOpen 16 18 ∷
    piece token.Keyword 18 22 ∷
    piece token.Keyword 22 26 ∷
    piece token.Identifier 27 30 ∷
    piece token.Close 30 31 ∷
    piece token.String 32 39 ∷
    piece token.Symbol 40 48 ∷
    piece token.Symbol 49 55 ∷
    piece token.Symbol 56 58 ∷
    piece token.Character 59 61 ∷
    piece token.Identifier 62 67 ∷
    piece token.Keyword 68 78 ∷
    piece token.Numeral 79 84 ∷
    piece token.Numeral 85 90 ∷
    piece token.Numeral 91 94 ∷
    piece token.Binary 95 97 ∷
    piece token.Binary 98 99 ∷
    piece token.Binary 100 101 ∷
    piece token.Bar 102 103 ∷
    piece token.Assign 104 106 ∷
    piece token.BytesOpen 107 109 ∷
    piece token.Numeral 109 110 ∷
    piece token.BlockClose 110 111 ∷
    piece token.Comment 112 115 ∷
    piece token.End 115 115 ∷
    []

-- what the grammar sees of them
abbrev pub its_lexemes : List Lexeme
its_lexemes =
    lex (codes "\"a\"" ∷ []) 4 5 (Name Ordinary (codes "x")) ∷
    lex (codes "\"b\"" ∷ []) 9 10 (Binary Sign (codes "-")) ∷
    lex [] 10 11 (Numeral SmallDigits (codes "3")) ∷
    lex [] 12 13 (Binary Common (codes "-")) ∷
    lex [] 14 15 (Numeral SmallDigits (codes "3")) ∷
    lex [] 16 18 (Opens ArrayStart) ∷
    lex [] 18 22 (Keyword AnyKeyword (codes "foo:")) ∷
    lex [] 22 26 (Keyword AnyKeyword (codes "bar:")) ∷
    lex [] 27 30 (Name Ordinary (codes "baz")) ∷
    lex [] 30 31 (Closes GroupEnd) ∷
    lex [] 32 39 (Constant (str (codes "it's"))) ∷
    lex [] 40 48 (Constant (symbol (codes "at:put:"))) ∷
    lex [] 49 55 (Constant (symbol (codes "a b"))) ∷
    lex [] 56 58 (Constant (symbol (codes "+"))) ∷
    lex [] 59 61 (Constant (char 39)) ∷
    lex [] 62 67 (Name Super (codes "super")) ∷
    lex [] 68 78 (Keyword PrimitiveKeyword (codes "primitive:")) ∷
    lex [] 79 84 (Numeral SmallDigits (codes "65535")) ∷
    lex [] 85 90 (Numeral LargeDigits (codes "65536")) ∷
    lex [] 91 94 (Numeral OtherNumeral (codes "1.5")) ∷
    lex [] 95 97 (Binary Common (codes "<>")) ∷
    lex [] 98 99 (Binary Less (codes "<")) ∷
    lex [] 100 101 (Binary Greater (codes ">")) ∷
    lex [] 102 103 (Binary Bar (codes "|")) ∷
    lex [] 104 106 Assignment ∷
    lex [] 107 109 (Opens BytesStart) ∷
    lex [] 109 110 (Numeral SmallDigits (codes "1")) ∷
    lex [] 110 111 (Closes BlockEnd) ∷
    lex (codes "\"c\"" ∷ []) 115 115 (Closes TextEnd) ∷
    []

-- foo "a" | x | "b" x := 3 "c" . "d" ^x "e"
abbrev pub a_method : List Lexeme
a_method =
    lex [] 0 3 (Name Ordinary (codes "foo")) ∷
    lex (codes "\"a\"" ∷ []) 8 9 (Binary Bar (codes "|")) ∷
    lex [] 10 11 (Name Ordinary (codes "x")) ∷
    lex [] 12 13 (Binary Bar (codes "|")) ∷
    lex (codes "\"b\"" ∷ []) 18 19 (Name Ordinary (codes "x")) ∷
    lex [] 20 22 Assignment ∷
    lex [] 23 24 (Numeral SmallDigits (codes "3")) ∷
    lex (codes "\"c\"" ∷ []) 29 30 Period ∷
    lex (codes "\"d\"" ∷ []) 35 36 Caret ∷
    lex [] 36 37 (Name Ordinary (codes "x")) ∷
    lex (codes "\"e\"" ∷ []) 41 41 (Closes TextEnd) ∷
    []

-- a is in its head, b and c are of the assignment, d is of the return, and e is in the tail
abbrev pub its_tree : SpannedMethod
its_tree = record {
  selector = codes "foo";
  arguments = [];
  opening = codes "\"a\"" ∷ [];
  primitive = None;
  body = record {
    temporaries = record { name = codes "x"; from = 10 } ∷ [];
    statements =
        MoreStatements (codes "\"b\"" ∷ codes "\"c\"" ∷ []) 18 (Assign 18 24 (codes "x") (Literal 23 24 (number (codes "3"))))
        (MoreStatements (codes "\"d\"" ∷ []) 35 (Return 35 37 (Var 36 37 (codes "x"))) NoStatements);
    tail = codes "\"e\"" ∷ [];
  };
}

-- (a) foo: ["p" :x | "q" x "r"]; bar "z"
abbrev pub a_doit : List Lexeme
a_doit =
    lex [] 0 1 (Opens Group) ∷
    lex [] 1 2 (Name Ordinary (codes "a")) ∷
    lex [] 2 3 (Closes GroupEnd) ∷
    lex [] 4 8 (Keyword AnyKeyword (codes "foo:")) ∷
    lex [] 9 10 (Opens BlockStart) ∷
    lex (codes "\"p\"" ∷ []) 14 15 Colon ∷
    lex [] 15 16 (Name Ordinary (codes "x")) ∷
    lex [] 17 18 (Binary Bar (codes "|")) ∷
    lex (codes "\"q\"" ∷ []) 23 24 (Name Ordinary (codes "x")) ∷
    lex (codes "\"r\"" ∷ []) 28 29 (Closes BlockEnd) ∷
    lex [] 29 30 Semicolon ∷
    lex [] 31 34 (Name Ordinary (codes "bar")) ∷
    lex (codes "\"z\"" ∷ []) 38 38 (Closes TextEnd) ∷
    []

-- p and q are of the statement of the block, r is in the tail of the block, and z is in the tail of the do-it
abbrev pub its_sequence : SpannedSequence
its_sequence = record {
  temporaries = [];
  statements =
      MoreStatements [] 0
      (Cascade 0 34 (Var 1 2 (codes "a"))
      (MoreMessages (codes "foo:")
      (one_tree (Block 9 29 (record { name = codes "x"; from = 15 } ∷ []) [] (MoreStatements (codes "\"p\"" ∷ codes "\"q\"" ∷ []) 23 (Var 23 24 (codes "x")) NoStatements) (codes "\"r\"" ∷ [])))
      (MoreMessages (codes "bar") NoTrees NoMessages)))
      NoStatements;
  tail = codes "\"z\"" ∷ [];
}
