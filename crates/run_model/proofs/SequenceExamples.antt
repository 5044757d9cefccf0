-- Runs of messages to strings, symbols, characters and arrays, by computing them.
use Rattle.std.specs.Prelude.{◌≡◌, ℕ, List, [], ◌∷◌, map, true, Some, codes, refl}
use Rattle.std.specs.Fmt.{digits}
use Rattle.scope_model.specs.SpecialNames.{is_pseudo_variable}
use Rattle.tree_model.specs.Tree.{var, literal, array, char, symbol, number, literals_of}
use Rattle.image_model.specs.Image.{ClassOf, EntryOf}
use Rattle.run_model.specs.Values.{Name}
use Rattle.run_model.specs.Acts.{gives, fails, goes_home, and_then, with_memory, tells, pays, at_home}
use Rattle.run_model.specs.Primitives.{primitive}
use Rattle.run_model.specs.Shapes.{shape_of}
use Rattle.run_model.specs.Runs.{run, printed_run}
use Rattle.run_model.proofs.SmallImages.{Tree, class_with, plain_class, primitive_of, method_of, doit_of, int, string, unary, binary, ternary, image_with, block_of}

-- strings, symbols and characters
abbrev classes : List (ClassOf Name)
classes = plain_class (codes "Character") ∷ plain_class (codes "String") ∷ class_with (codes "Symbol") (Some (codes "String")) [] [] ∷ class_with (codes "Bag") (Some (codes "Array")) [] [] ∷ []

-- their methods, and those of arrays
abbrev methods : List (EntryOf Name)
methods =
    primitive_of (codes "Object") (codes "copy") [] 4
    ∷ primitive_of (codes "Object") (codes "class") [] 2
    ∷ primitive_of (codes "Integer") (codes "asCharacter") [] 22
    ∷ primitive_of (codes "String") (codes "size") [] 30
    ∷ primitive_of (codes "String") (codes "at:") (codes "i" ∷ []) 31
    ∷ primitive_of (codes "String") (codes ",") (codes "x" ∷ []) 33
    ∷ primitive_of (codes "String") (codes "copyFrom:to:") (codes "a" ∷ codes "b" ∷ []) 34
    ∷ primitive_of (codes "Array") (codes "copyFrom:to:") (codes "a" ∷ codes "b" ∷ []) 34
    ∷ primitive_of (codes "Array") (codes "size") [] 30
    ∷ primitive_of (codes "String") (codes "<") (codes "x" ∷ []) 35
    ∷ primitive_of (codes "String") (codes "asSymbol") [] 36
    ∷ primitive_of (codes "String") (codes "printString") [] 37
    ∷ primitive_of (codes "Symbol") (codes "asString") [] 38
    ∷ primitive_of (codes "Symbol") (codes "printString") [] 39
    ∷ method_of (codes "Array") true (codes "new:") (codes "n" ∷ []) (Some 40) [] []
    ∷ primitive_of (codes "Character") (codes "value") [] 41
    ∷ primitive_of (codes "Character") (codes "asString") [] 42
    ∷ primitive_of (codes "Character") (codes "printString") [] 43
    ∷ primitive_of (codes "Block") (codes "numArgs") [] 54 ∷ []

-- what is printed of the run of one expression with so many ticks
abbrev printed_with : ℕ → Tree → List ℕ
printed_with n t = printed_run (image_with classes methods (doit_of [] (t ∷ []) ∷ [])) n

-- a symbol
abbrev symbol_of : Name → Tree
symbol_of t = literal (symbol t)

-- `#(1 2 3)`
abbrev one_two_three : Tree
one_two_three = literal (array (literals_of (number (codes "1") ∷ number (codes "2") ∷ number (codes "3") ∷ [])))

-- length, element, joined, a part, an order, symbols and strings
texts : map (printed_with 100)
    (unary (string (codes "abc")) (codes "size") ∷ binary (symbol_of (codes "abc")) (codes "at:") (int (codes "2")) ∷ binary (string (codes "abc")) (codes "at:") (int (codes "4"))
    ∷ binary (string (codes "abc")) (codes "at:") (int (codes "0")) ∷ binary (string (codes "abc")) (codes "at:") (var (codes "nil"))
    ∷ binary (string (codes "ab")) (codes ",") (symbol_of (codes "c")) ∷ binary (string (codes "ab")) (codes ",") one_two_three
    ∷ ternary (symbol_of (codes "abcd")) (codes "copyFrom:to:") (int (codes "2")) (int (codes "3")) ∷ ternary (string (codes "abcd")) (codes "copyFrom:to:") (int (codes "9")) (int (codes "8"))
    ∷ ternary (string (codes "abcd")) (codes "copyFrom:to:") (int (codes "3")) (int (codes "5")) ∷ ternary one_two_three (codes "copyFrom:to:") (int (codes "2")) (int (codes "3"))
    ∷ binary (string (codes "ab")) (codes "<") (symbol_of (codes "abc")) ∷ binary (string (codes "ab")) (codes "<") (string (codes "ab")) ∷ binary (string (codes "b")) (codes "<") (string (codes "ab"))
    ∷ unary (string (codes "ab")) (codes "asSymbol") ∷ unary (symbol_of (codes "ab")) (codes "asString") ∷ unary (string (codes "it's")) (codes "printString") ∷ unary (symbol_of (codes "ab")) (codes "printString")
    ∷ unary (literal (char 97)) (codes "value") ∷ unary (literal (char 97)) (codes "asString") ∷ unary (literal (char 97)) (codes "printString")
    ∷ unary (int (codes "98")) (codes "asCharacter") ∷ unary (int (codes "256")) (codes "asCharacter")
    ∷ binary (string (codes "ab")) (codes "==") (string (codes "ab")) ∷ binary (string (codes "ab")) (codes "==") (symbol_of (codes "ab")) ∷ [])
    ≡
    codes "=> 3\n" ∷ codes "=> $b\n" ∷ codes "error BadIndex\n" ∷ codes "error BadIndex\n" ∷ codes "error BadArgument 31\n" ∷ codes "=> 'abc'\n" ∷ codes "error BadArgument 33\n"
    ∷ codes "=> 'bc'\n" ∷ codes "=> ''\n" ∷ codes "error BadIndex\n" ∷ codes "=> (2 3)\n" ∷ codes "=> true\n" ∷ codes "=> false\n" ∷ codes "=> false\n"
    ∷ codes "=> #ab\n" ∷ codes "=> 'ab'\n" ∷ codes "=> '''it''''s'''\n" ∷ codes "=> '#ab'\n" ∷ codes "=> 97\n" ∷ codes "=> 'a'\n" ∷ codes "=> '$a'\n" ∷ codes "=> $b\n" ∷ codes "error BadArgument 22\n"
    ∷ codes "=> true\n" ∷ codes "=> false\n" ∷ []
unfolding run primitive shape_of gives fails goes_home and_then with_memory tells pays at_home is_pseudo_variable digits
texts = refl

-- new arrays and objects, copies, classes, parameters
arrays : map (printed_with 100)
    (binary (var (codes "Array")) (codes "new:") (int (codes "2")) ∷ binary (var (codes "Array")) (codes "new:") (int (codes "-1")) ∷ binary (var (codes "Array")) (codes "new:") (int (codes "65536"))
    ∷ binary (var (codes "Bag")) (codes "new:") (int (codes "2")) ∷ unary (var (codes "Array")) (codes "new") ∷ unary (var (codes "String")) (codes "new") ∷ unary (var (codes "Bag")) (codes "new")
    ∷ unary (var (codes "Symbol")) (codes "new") ∷ unary (unary (var (codes "Bag")) (codes "new")) (codes "size")
    ∷ unary one_two_three (codes "copy") ∷ binary one_two_three (codes "==") one_two_three ∷ unary (int (codes "3")) (codes "copy") ∷ unary (unary (var (codes "Bag")) (codes "new")) (codes "class")
    ∷ unary (var (codes "Bag")) (codes "class") ∷ unary (block_of []) (codes "numArgs") ∷ [])
    ≡
    codes "=> (nil nil)\n" ∷ codes "error BadArgument 40\n" ∷ codes "error TooLong\n" ∷ codes "error BadArgument 40\n" ∷ codes "=> ()\n" ∷ codes "=> ''\n" ∷ codes "=> an instance of Bag\n"
    ∷ codes "error BadArgument 7\n" ∷ codes "error BadArgument 30\n" ∷ codes "=> (1 2 3)\n" ∷ codes "=> false\n" ∷ codes "=> 3\n" ∷ codes "=> Bag\n" ∷ codes "error Reflective\n" ∷ codes "=> 0\n" ∷ []
unfolding run primitive shape_of gives fails goes_home and_then with_memory tells pays at_home is_pseudo_variable digits
arrays = refl

-- the ticks of lengths: `'ab' , 'cd'` takes three for its nodes and four for its length, `Transcript print: #(1 2 3)` three and three
lengths : printed_with 7 (binary (string (codes "ab")) (codes ",") (string (codes "cd"))) ∷ printed_with 6 (binary (string (codes "ab")) (codes ",") (string (codes "cd")))
    ∷ printed_with 6 (binary (var (codes "Transcript")) (codes "print:") one_two_three) ∷ printed_with 5 (binary (var (codes "Transcript")) (codes "print:") one_two_three) ∷ []
    ≡ codes "=> 'abcd'\n" ∷ codes "spent 6\n" ∷ codes "(1 2 3)\n=> Transcript\n" ∷ codes "spent 5\n" ∷ []
unfolding run primitive shape_of gives fails goes_home and_then with_memory tells pays at_home is_pseudo_variable digits
lengths = refl
