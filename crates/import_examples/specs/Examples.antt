-- Chunks of other Smalltalks, by their trees, and what they become or why they are refused.
use Rattle.std.specs.Prelude.{◌≡◌, List, [], ◌∷◌, ◌++◌, codes, false, Result, Ok, Err}
use Rattle.tree_model.specs.Tree.{TreeOf, send, trees_of, SequenceOf}
use Rattle.chunk_format.specs.Chunks.{Piece}
use Rattle.file_model.specs.Causes.{Cause, PoolsNotEmpty, UnknownDefinition}
use Rattle.file_model.specs.Examples.{statement, string, name, class, side}
use Rattle.file_model.specs.Filing.{Text}
use Rattle.import_model.specs.Steps.{Next, Outside, InRun, AtComment, Made, spelled}

-- the seventh chunk of a text, which begins with a line feed
abbrev pub chunk : Piece
chunk = record { number = 7; at = 0; body = 10 ∷ codes "x"; doubled = false }

-- a tree, and what the chunk becomes that spells it
pub record Row : Type 0 where
  pub tree : SequenceOf Text
  pub result : Result Made Cause

-- a message and what it becomes
abbrev pub becomes : TreeOf Text → Text → List (TreeOf Text) → Text → Next → Row
becomes r s xs text next = record { tree = statement (send r s (trees_of xs)); result = Ok (record { text = 10 ∷ text; next = next }) }

-- a message that stays, as the source of the chunk
abbrev pub stays : TreeOf Text → Text → List (TreeOf Text) → Next → Row
stays r s xs next = becomes r s xs (codes "x!") next

-- a message that is refused
abbrev pub refused : TreeOf Text → Text → List (TreeOf Text) → Cause → Row
refused r s xs cause = record { tree = statement (send r s (trees_of xs)); result = Err cause }

-- the symbol and the first two strings of a definition, and those behind them
abbrev pub parts : List (TreeOf Text) → List (TreeOf Text)
parts xs = name (codes "A") ∷ string (codes "x y") ∷ string [] ∷ xs

-- the text of that definition in a category
abbrev pub definition : Text → Text
definition category = codes "Object subclass: #A\n\tinstanceVariableNames: 'x y'\n\tclassVariableNames: ''\n\tpoolDictionaries: ''\n\tcategory: '" ++ category ++ codes "'!"

-- the table
abbrev pub rows : List Row
rows =
    becomes (class (codes "A")) (codes "methodsFor:stamp:") (string (codes "p") ∷ string (codes "ab") ∷ []) (codes "A methodsFor: 'p'!") InRun
    ∷ becomes (side (codes "A")) (codes "methodsFor:stamp:prior:") (string (codes "it's!") ∷ string [] ∷ string [] ∷ []) (codes "A class methodsFor: 'it''s!!'!") InRun
    ∷ becomes (class (codes "A")) (codes "methodsFor:prior:") (string (codes "p") ∷ string [] ∷ []) (codes "A methodsFor: 'p'!") InRun
    ∷ refused (class (codes "A")) (codes "methodsFor:stamp:") (name (codes "p") ∷ string [] ∷ []) UnknownDefinition
    ∷ becomes (class (codes "A")) (codes "commentStamp:prior:") (string (codes "ab") ∷ string [] ∷ []) [] (AtComment (codes "A") 7)
    ∷ refused (side (codes "A")) (codes "commentStamp:prior:") (string (codes "ab") ∷ string [] ∷ []) UnknownDefinition
    ∷ becomes (class (codes "Object")) (codes "subclass:instanceVariableNames:classVariableNames:package:") (parts (string (codes "K") ∷ [])) (definition (codes "K")) Outside
    ∷ becomes (class (codes "Object")) (codes "subclass:instanceVariableNames:classVariableNames:category:") (parts (string (codes "K") ∷ [])) (definition (codes "K")) Outside
    ∷ becomes (class (codes "Object")) (codes "subclass:instanceVariableNames:classVariableNames:package:tag:") (parts (string (codes "K") ∷ string (codes "T") ∷ [])) (definition (codes "K-T")) Outside
    ∷ becomes (class (codes "Object")) (codes "subclass:instanceVariableNames:classVariableNames:package:tag:") (parts (string (codes "K") ∷ string [] ∷ [])) (definition (codes "K")) Outside
    ∷ becomes (class (codes "Object")) (codes "subclass:instanceVariableNames:classVariableNames:poolDictionaries:package:") (parts (string [] ∷ string (codes "K") ∷ [])) (definition (codes "K")) Outside
    ∷ refused (class (codes "Object")) (codes "subclass:instanceVariableNames:classVariableNames:poolDictionaries:package:") (parts (string (codes "P") ∷ string (codes "K") ∷ [])) PoolsNotEmpty
    ∷ refused (class (codes "Object")) (codes "subclass:instanceVariableNames:classVariableNames:poolDictionaries:category:") (parts (string (codes "P") ∷ string (codes "K") ∷ [])) PoolsNotEmpty
    ∷ refused (class (codes "Object")) (codes "subclass:uses:instanceVariableNames:classVariableNames:package:") (parts []) UnknownDefinition
    ∷ refused (class (codes "Object")) (codes "variableSubclass:instanceVariableNames:classVariableNames:package:") (parts (string [] ∷ [])) UnknownDefinition
    ∷ refused (side (codes "Object")) (codes "subclass:instanceVariableNames:classVariableNames:package:") (parts (string [] ∷ [])) UnknownDefinition
    ∷ stays (class (codes "A")) (codes "methodsFor:") (string (codes "p") ∷ []) InRun
    ∷ stays (class (codes "A")) (codes "comment:") (string (codes "t") ∷ []) Outside
    ∷ stays (class (codes "A")) (codes "foo:") (string (codes "t") ∷ []) Outside
    ∷ []

-- each row is as the definition has it
abbrev pub AllMade : List Row → Type 0
AllMade [] = Unit {0}
AllMade (r ∷ rs) = (spelled chunk r.tree ≡ r.result) × AllMade rs
