-- Literals: from one place on a literal is spelled up to another place.
use Rattle.std.specs.Prelude.{◌≡◌, ◌++◌, if◌then◌else◌}
use Rattle.tree_model.specs.Tree.{LiteralOf, number, symbol, array, bytes, word, LiteralsOf, no_literals, more_literals}
use Rattle.grammar_model.specs.Terminal.{Text, NameKind, KeywordKind, BinaryKind, NumeralKind, Terminal, Name, Keyword, Binary, Numeral, Constant, Opens, Closes, Sign, Group, BlockStart, ArrayStart, BytesStart, GroupEnd, BlockEnd, AnyKey}
use Rattle.grammar_model.specs.Input.{Input, kind_of, from_of, next}
use Rattle.grammar_model.specs.Ahead.{Rows, Ends, IsDigits, NoDigits, NoElement}
use Rattle.grammar_model.specs.Words.{is_literal_word}

-- an identifier in an array: nil, true and false are these objects, and any other is a symbol
abbrev pub word_or_symbol : Text → LiteralOf Text
word_or_symbol n = if is_literal_word n then word n else symbol n

-- a keyword
abbrev pub IsKeyword : Terminal → Type 0
IsKeyword (Keyword AnyKey k) = ⊥
IsKeyword (Keyword c k) = Unit {0}
IsKeyword k = ⊥

-- no sign
abbrev pub NoSign : BinaryKind → Type 0
NoSign Sign = ⊥
NoSign c = Unit {0}

-- the token behind the next one is a keyword, and begins where the next one ends
pub record IsJoined (i : Input) : Type 0 where
  pub keyword : IsKeyword (kind_of (next i))
  pub at : from_of (next i) ≡ (next i).last

-- a keyword that is no metavariable
abbrev pub NoAnyKey : KeywordKind → Type 0
NoAnyKey AnyKey = ⊥
NoAnyKey c = Unit {0}

-- the longest row of keywords with no byte between them
pub data KeywordRow : Input → Text → Input → Type 0 where
  LastKeyword : {i : Input} {c : KeywordKind} {k : Text} → kind_of i ≡ Keyword c k → NoAnyKey c → ¬ IsJoined i → KeywordRow i k (next i)
  JoinedKeyword : {i j : Input} {c : KeywordKind} {k s : Text} → kind_of i ≡ Keyword c k → NoAnyKey c → IsJoined i → KeywordRow (next i) s j → KeywordRow i (k ++ s) j

-- what stands in a byte array: numerals of digits alone
pub data ByteElements (a : Rows) : Input → LiteralsOf Text → Input → Type 0 where
  OneByte : {i j : Input} {c : NumeralKind} {t : Text} {xs : LiteralsOf Text} → kind_of i ≡ Numeral c t → IsDigits (kind_of i) → ByteElements a (next i) xs j → ByteElements a i (more_literals (number t) xs) j
  NoBytes : {i : Input} → Ends a (NoDigits (kind_of i)) → ByteElements a i no_literals i

mutual
  -- a literal
  pub data LiteralAt (a : Rows) : Input → LiteralOf Text → Input → Type 0 where
    Unsigned : {i : Input} {c : NumeralKind} {t : Text} → kind_of i ≡ Numeral c t → LiteralAt a i (number t) (next i)
    Negative : {i : Input} {c : NumeralKind} {s t : Text} → kind_of i ≡ Binary Sign s → kind_of (next i) ≡ Numeral c t → LiteralAt a i (number (s ++ t)) (next (next i))
    Fixed : {i : Input} {l : LiteralOf Text} → kind_of i ≡ Constant l → LiteralAt a i l (next i)
    Array : {i m : Input} {xs : LiteralsOf Text} → kind_of i ≡ Opens ArrayStart → Elements a (next i) xs m → kind_of m ≡ Closes GroupEnd → LiteralAt a i (array xs) (next m)
    ByteArray : {i m : Input} {xs : LiteralsOf Text} → kind_of i ≡ Opens BytesStart → ByteElements a (next i) xs m → kind_of m ≡ Closes BlockEnd → LiteralAt a i (bytes xs) (next m)

  -- an element of an array
  pub data Element (a : Rows) : Input → LiteralOf Text → Input → Type 0 where
    LiteralElement : {i j : Input} {l : LiteralOf Text} → LiteralAt a i l j → Element a i l j
    InnerArray : {i m : Input} {xs : LiteralsOf Text} → kind_of i ≡ Opens Group → Elements a (next i) xs m → kind_of m ≡ Closes GroupEnd → Element a i (array xs) (next m)
    InnerBytes : {i m : Input} {xs : LiteralsOf Text} → kind_of i ≡ Opens BlockStart → ByteElements a (next i) xs m → kind_of m ≡ Closes BlockEnd → Element a i (bytes xs) (next m)
    NameElement : {i : Input} {c : NameKind} {n : Text} → kind_of i ≡ Name c n → Element a i (word_or_symbol n) (next i)
    KeywordElement : {i j : Input} {k : Text} → KeywordRow i k j → Element a i (symbol k) j
    BinaryElement : {i : Input} {c : BinaryKind} {s : Text} → kind_of i ≡ Binary c s → NoSign c → Element a i (symbol s) (next i)

  -- elements in order
  pub data Elements (a : Rows) : Input → LiteralsOf Text → Input → Type 0 where
    OneElement : {i m j : Input} {x : LiteralOf Text} {xs : LiteralsOf Text} → Element a i x m → Elements a m xs j → Elements a i (more_literals x xs) j
    NoElements : {i : Input} → Ends a (NoElement (kind_of i)) → Elements a i no_literals i
