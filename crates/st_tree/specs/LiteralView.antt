-- What a literal of the program stands for.
use Rattle.std.specs.Prelude.{ℕ}
use Rattle.tree_model.specs.Tree.{LiteralOf, number, str, symbol, char, array, bytes, word, literals_of}
use Rattle.st_tree.specs.declared.literal.LiteralKind.{LiteralKind}
use Rattle.st_tree.specs.declared.literal.LiteralKind.TheVariants.{Number, Str, Symbol, Char, Array, Bytes, Word}

-- the abstract literal
abbrev pub literal_of : LiteralKind → LiteralOf ℕ
literal_of (Number t) = number t
literal_of (Str t) = str t
literal_of (Symbol t) = symbol t
literal_of (Char b) = char b
literal_of (Array ls) = array (literals_of ls)
literal_of (Bytes ls) = bytes (literals_of ls)
literal_of (Word n) = word n
