-- What the grammar sees of a token: its kind, told apart as far as the grammar tells tokens apart, and its bytes.
use Rattle.std.specs.Prelude.{ℕ, List}
use Rattle.tree_model.specs.Tree.{LiteralOf}

-- bytes of a text, in order
abbrev pub Text : Type 0
Text = List ℕ

-- an identifier: super, which is only a receiver, or any other
pub data NameKind : Type 0 where
  Ordinary : NameKind
  Super : NameKind

-- a keyword: the one of primitives, a metavariable, or any other
pub data KeywordKind : Type 0 where
  AnyKeyword : KeywordKind
  PrimitiveKeyword : KeywordKind
  AnyKey : KeywordKind

-- a binary selector: a minus that ends where a numeral begins, the two brackets of primitives, a bar, or any other
pub data BinaryKind : Type 0 where
  Common : BinaryKind
  Sign : BinaryKind
  Less : BinaryKind
  Greater : BinaryKind
  Bar : BinaryKind

-- a numeral: digits alone of a value up to 65,535, digits alone of a higher value, or with other bytes in it
pub data NumeralKind : Type 0 where
  SmallDigits : NumeralKind
  LargeDigits : NumeralKind
  OtherNumeral : NumeralKind

-- the marks that open something: ( [ { #( #[
pub data Opening : Type 0 where
  Group : Opening
  BlockStart : Opening
  BraceStart : Opening
  ArrayStart : Opening
  BytesStart : Opening

-- the marks that close something: ) ] } and the end of the text
pub data Closing : Type 0 where
  GroupEnd : Closing
  BlockEnd : Closing
  BraceEnd : Closing
  TextEnd : Closing

-- a metavariable that stands as an operand: `x, which may be a unary selector, too, `#x or `@x
pub data OperandMark : Type 0 where
  AnyName : OperandMark
  AnyLiteral : OperandMark
  AnyExpression : OperandMark

-- A token as the grammar sees it. A string, a character or a symbol stands as the literal that it spells.
pub data Terminal : Type 0 where
  Name : NameKind → Text → Terminal
  Keyword : KeywordKind → Text → Terminal
  Binary : BinaryKind → Text → Terminal
  Numeral : NumeralKind → Text → Terminal
  Constant : LiteralOf Text → Terminal
  Opens : Opening → Terminal
  Closes : Closing → Terminal
  Assignment : Terminal
  Colon : Terminal
  Semicolon : Terminal
  Period : Terminal
  Caret : Terminal
  OperandMeta : OperandMark → Text → Terminal
  StatementMeta : Text → Terminal
  MessageMeta : Text → Terminal
