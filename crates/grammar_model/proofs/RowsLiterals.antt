-- Rows of a literal that may end anywhere end where no more of their tokens stand.
use Rattle.std.proofs.Common.{◌≡◌, sym, subst}
use Rattle.tree_model.specs.Tree.{LiteralOf, LiteralsOf}
use Rattle.grammar_model.specs.Terminal.{Text, Closing, Terminal, Closes}
use Rattle.grammar_model.specs.Input.{Input, kind_of}
use Rattle.grammar_model.specs.Ahead.{Longest, Any, NoDigits, NoElement}
use Rattle.grammar_model.specs.Literals.{ByteElements, OneByte, NoBytes, LiteralAt, Unsigned, Negative, Fixed, Array, ByteArray, Element, LiteralElement, InnerArray, InnerBytes, NameElement, KeywordElement, BinaryElement, Elements, OneElement, NoElements}

-- a fact of closing marks, of a token that is one
pub at_closing : {k : Terminal} {c : Closing} (P : Terminal → Type 0) → k ≡ Closes c → P (Closes c) → P k
at_closing P e h = subst P (sym e) h

-- the numerals of a byte array, its rows as long as they can be
longest_ByteElements : {i j : Input} {xs : LiteralsOf Text} {c : Closing} → ByteElements Any i xs j → kind_of j ≡ Closes c → ByteElements Longest i xs j
longest_ByteElements (OneByte e h d) k = OneByte e h (longest_ByteElements d k)
longest_ByteElements (NoBytes n) k = NoBytes (at_closing NoDigits k tt)

mutual
  -- a literal, its rows as long as they can be
  pub longest_LiteralAt : {i j : Input} {l : LiteralOf Text} → LiteralAt Any i l j → LiteralAt Longest i l j
  longest_LiteralAt (Unsigned e) = Unsigned e
  longest_LiteralAt (Negative e f) = Negative e f
  longest_LiteralAt (Fixed e) = Fixed e
  longest_LiteralAt (Array e a c) = Array e (longest_Elements a c) c
  longest_LiteralAt (ByteArray e a c) = ByteArray e (longest_ByteElements a c) c

  -- an element of an array, its rows as long as they can be
  longest_Element : {i j : Input} {l : LiteralOf Text} → Element Any i l j → Element Longest i l j
  longest_Element (LiteralElement d) = LiteralElement (longest_LiteralAt d)
  longest_Element (InnerArray e a c) = InnerArray e (longest_Elements a c) c
  longest_Element (InnerBytes e a c) = InnerBytes e (longest_ByteElements a c) c
  longest_Element (NameElement e) = NameElement e
  longest_Element (KeywordElement d) = KeywordElement d
  longest_Element (BinaryElement e h) = BinaryElement e h

  -- the elements of an array, its rows as long as they can be
  longest_Elements : {i j : Input} {xs : LiteralsOf Text} {c : Closing} → Elements Any i xs j → kind_of j ≡ Closes c → Elements Longest i xs j
  longest_Elements (OneElement d r) k = OneElement (longest_Element d) (longest_Elements r k)
  longest_Elements (NoElements n) k = NoElements (at_closing NoElement k tt)
