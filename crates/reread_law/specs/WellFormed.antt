-- Trees that are well formed: what may stand as a name, a selector, a literal or a comment, and where super and a return may stand.
use Rattle.std.specs.Prelude.{◌≡◌, true, false, List, [], ◌∷◌, ◌++◌, length, codes}
use Rattle.std.specs.List.{list_all}
use Rattle.std.specs.Str.{bytes_eq}
use Rattle.token_model.specs.Bytes.{is_digit}
use Rattle.token_model.specs.Tokens.{IsComment, IsNumeral}
use Rattle.tree_model.specs.Tree.{Notes, LiteralOf, number, str, symbol, char, array, bytes, word, LiteralsOf, no_literals, more_literals, TreeOf, var, literal, send, cascade, assign, block, brace, return, TreesOf, no_trees, more_trees, MessagesOf, no_messages, more_messages, StatementsOf, no_statements, more_statements}
use Rattle.text_model.specs.Literals.{is_identifier, is_operator}
use Rattle.grammar_model.specs.Terminal.{Text}
use Rattle.grammar_model.specs.Words.{is_literal_word}

-- an identifier
abbrev pub IsWord : Text → Type 0
IsWord n = is_identifier n ≡ true

-- a keyword: an identifier and a colon
pub record IsKeywordText (k : Text) : Type 0 where
  pub name : Text
  pub is : k ≡ name ++ 58 ∷ []
  pub word : IsWord name

-- a comment, with its quotes
abbrev pub IsNote : Text → Type 0
IsNote c = IsComment c 0 (length c)

-- an unsigned numeral
abbrev pub IsUnsigned : Text → Type 0
IsUnsigned t = IsNumeral t 0 (length t)

-- a numeral, with a sign or none
pub data IsNumber : Text → Type 0 where
  Plain : {t : Text} → IsUnsigned t → IsNumber t
  Minus : {t : Text} → IsUnsigned t → IsNumber (45 ∷ t)

-- comments
abbrev pub AllNotes : Notes → Type 0
AllNotes [] = Unit {0}
AllNotes (c ∷ cs) = IsNote c × AllNotes cs

-- identifiers
abbrev pub AllWords : List Text → Type 0
AllWords [] = Unit {0}
AllWords (n ∷ ns) = IsWord n × AllWords ns

-- what stands in a byte array: numerals of digits alone
pub data AreBytes : LiteralsOf Text → Type 0 where
  NoneLeft : AreBytes no_literals
  OneMore : {t : Text} {ls : LiteralsOf Text} → IsUnsigned t → list_all is_digit t ≡ true → AreBytes ls → AreBytes (more_literals (number t) ls)

-- a literal, or nil, true or false in an array
abbrev mutual
  -- a literal
  pub WellFormedLiteral : LiteralOf Text → Type 0
  WellFormedLiteral (number t) = IsNumber t
  WellFormedLiteral (str t) = Unit {0}
  WellFormedLiteral (symbol t) = Unit {0}
  WellFormedLiteral (char b) = Unit {0}
  WellFormedLiteral (array ls) = WellFormedLiterals ls
  WellFormedLiteral (bytes ls) = AreBytes ls
  WellFormedLiteral (word n) = IsWord n × (is_literal_word n ≡ true)

  -- literals
  pub WellFormedLiterals : LiteralsOf Text → Type 0
  WellFormedLiterals no_literals = Unit {0}
  WellFormedLiterals (more_literals l ls) = WellFormedLiteral l × WellFormedLiterals ls

-- a literal outside arrays
abbrev pub NoWord : LiteralOf Text → Type 0
NoWord (word n) = ⊥
NoWord l = Unit {0}

-- keywords with their arguments
pub data AreParts : Text → TreesOf Text → Type 0 where
  LastOne : {k : Text} {x : TreeOf Text} → IsKeywordText k → AreParts k (more_trees x no_trees)
  OneBefore : {k s : Text} {x : TreeOf Text} {xs : TreesOf Text} → IsKeywordText k → AreParts s xs → AreParts (k ++ s) (more_trees x xs)

-- a selector that takes so many arguments
pub data FitsArguments : Text → TreesOf Text → Type 0 where
  FitsNone : {s : Text} → IsWord s → FitsArguments s no_trees
  FitsOne : {s : Text} {x : TreeOf Text} → is_operator s ≡ true → FitsArguments s (more_trees x no_trees)
  FitsParts : {s : Text} {xs : TreesOf Text} → AreParts s xs → FitsArguments s xs

-- an expression that has a value by itself: neither super nor a return
abbrev pub IsValue : TreeOf Text → Type 0
IsValue (var n) = bytes_eq n (codes "super") ≡ false
IsValue (return t) = ⊥
IsValue t = Unit {0}

-- no return
abbrev pub NoReturn : TreeOf Text → Type 0
NoReturn (return t) = ⊥
NoReturn t = Unit {0}

-- a statement before these: a return is the last one
abbrev pub IsStatement : TreeOf Text → StatementsOf Text → Type 0
IsStatement (return t) no_statements = Unit {0}
IsStatement (return t) (more_statements c u ss) = ⊥
IsStatement t ss = IsValue t

-- two messages or more
abbrev pub AreTwo : MessagesOf Text → Type 0
AreTwo no_messages = ⊥
AreTwo (more_messages s xs no_messages) = ⊥
AreTwo (more_messages s xs (more_messages t ys ms)) = Unit {0}

-- a tree that is well formed
abbrev mutual
  -- a tree
  pub WellFormed : TreeOf Text → Type 0
  WellFormed (var n) = IsWord n
  WellFormed (literal l) = WellFormedLiteral l × NoWord l
  WellFormed (send r s xs) = WellFormed r × NoReturn r × FitsArguments s xs × WellFormedTrees xs
  WellFormed (cascade r ms) = WellFormed r × IsValue r × AreTwo ms × WellFormedMessages ms
  WellFormed (assign n t) = IsWord n × WellFormed t × IsValue t
  WellFormed (block ps ds ss c) = AllWords ps × AllWords ds × WellFormedStatements ss × AllNotes c
  WellFormed (brace ts) = WellFormedTrees ts
  WellFormed (return t) = WellFormed t × IsValue t

  -- arguments, or the items of a brace array
  pub WellFormedTrees : TreesOf Text → Type 0
  WellFormedTrees no_trees = Unit {0}
  WellFormedTrees (more_trees t ts) = WellFormed t × IsValue t × WellFormedTrees ts

  -- messages of a cascade
  pub WellFormedMessages : MessagesOf Text → Type 0
  WellFormedMessages no_messages = Unit {0}
  WellFormedMessages (more_messages s xs ms) = FitsArguments s xs × WellFormedTrees xs × WellFormedMessages ms

  -- statements
  pub WellFormedStatements : StatementsOf Text → Type 0
  WellFormedStatements no_statements = Unit {0}
  WellFormedStatements (more_statements c t ss) = AllNotes c × WellFormed t × IsStatement t ss × WellFormedStatements ss
