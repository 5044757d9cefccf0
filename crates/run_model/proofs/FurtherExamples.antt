-- Runs of small programs on what is easily confused, by computing them.
use Rattle.std.specs.Prelude.{◌≡◌, ℕ, List, [], ◌∷◌, ◌++◌, map, true, false, Some, None, codes, refl}
use Rattle.std.specs.Fmt.{digits}
use Rattle.scope_model.specs.SpecialNames.{is_pseudo_variable}
use Rattle.tree_model.specs.Tree.{var, literal, cascade, assign, block, brace, return, no_trees, more_trees, no_messages, more_messages, symbol, trees_of}
use Rattle.image_model.specs.Image.{ClassOf, EntryOf, DoItOf}
use Rattle.run_model.specs.Values.{Name}
use Rattle.run_model.specs.Acts.{gives, fails, goes_home, and_then, with_memory, tells, pays, at_home}
use Rattle.run_model.specs.Primitives.{primitive}
use Rattle.run_model.specs.Shapes.{shape_of}
use Rattle.run_model.specs.Runs.{run, printed_run}
use Rattle.run_model.proofs.SmallImages.{Tree, plain_class, class_with, simple_method, primitive_of, method_of, doit_of, int, string, unary, binary, ternary, block_of, image_with}

-- what is printed of the run of an image whose one do-it has these statements, with some ticks
abbrev printed_within : ℕ → List (ClassOf Name) → List (EntryOf Name) → List Name → List Tree → List ℕ
printed_within n classes methods temporaries ts = printed_run (image_with classes methods (doit_of temporaries ts ∷ [])) n

-- with 200 ticks
abbrev printed_of : List (ClassOf Name) → List (EntryOf Name) → List Name → List Tree → List ℕ
printed_of classes methods temporaries ts = printed_within 200 classes methods temporaries ts

-- of one expression
abbrev printed_for : Tree → List ℕ
printed_for t = printed_of [] [] [] (t ∷ [])

-- `Transcript print: t`
abbrev prints : Tree → Tree
prints t = binary (var (codes "Transcript")) (codes "print:") t

-- a class with class variables
abbrev class_sharing : Name → Name → List Name → ClassOf Name
class_sharing n above names = record (class_with n (Some above) [] []) { shared = names }

-- A with the class variables X and Y, and B below it with an X of its own
abbrev sharing : List (ClassOf Name)
sharing = class_sharing (codes "A") (codes "Object") (codes "X" ∷ codes "Y" ∷ []) ∷ class_sharing (codes "B") (codes "A") (codes "X" ∷ []) ∷ []

-- `x: v X := v`, `y: v Y := v`, `x ^X` and `A class x ^X` of A, and `bx: v X := v`, `bx ^X` and `by ^Y` of B
abbrev sharing_methods : List (EntryOf Name)
sharing_methods =
    simple_method (codes "A") (codes "x:") (codes "v" ∷ []) (assign (codes "X") (var (codes "v")))
    ∷ simple_method (codes "A") (codes "y:") (codes "v" ∷ []) (assign (codes "Y") (var (codes "v")))
    ∷ simple_method (codes "A") (codes "x") [] (return (var (codes "X")))
    ∷ method_of (codes "A") true (codes "x") [] None [] (return (var (codes "X")) ∷ [])
    ∷ simple_method (codes "B") (codes "bx:") (codes "v" ∷ []) (assign (codes "X") (var (codes "v")))
    ∷ simple_method (codes "B") (codes "bx") [] (return (var (codes "X")))
    ∷ simple_method (codes "B") (codes "by") [] (return (var (codes "Y"))) ∷ []

-- a class variable is one for its class, both sides of it and the classes below; one of the same name below hides it there alone
class_variables : printed_of sharing sharing_methods (codes "b" ∷ [])
    (assign (codes "b") (unary (var (codes "B")) (codes "new")) ∷ binary (var (codes "b")) (codes "x:") (int (codes "1")) ∷ binary (var (codes "b")) (codes "bx:") (int (codes "2"))
    ∷ binary (var (codes "b")) (codes "y:") (int (codes "3")) ∷ prints (unary (var (codes "b")) (codes "x")) ∷ prints (unary (var (codes "b")) (codes "bx"))
    ∷ prints (unary (var (codes "b")) (codes "by")) ∷ prints (unary (var (codes "B")) (codes "x")) ∷ [])
    ≡ codes "1231\n=> Transcript\n"
unfolding run primitive shape_of gives fails goes_home and_then with_memory tells pays at_home is_pseudo_variable digits
class_variables = refl

-- `zork ^super zork` on both sides, where nothing is found; and `test ^super ifTrue: [1] ifFalse: [2]`, a control send whose tested value is an object
super_sends : map (λ t. printed_of (plain_class (codes "A") ∷ [])
    (simple_method (codes "A") (codes "zork") [] (return (unary (var (codes "super")) (codes "zork")))
    ∷ method_of (codes "A") true (codes "zork") [] None [] (return (unary (var (codes "super")) (codes "zork")) ∷ [])
    ∷ simple_method (codes "A") (codes "test") [] (return (ternary (var (codes "super")) (codes "ifTrue:ifFalse:") (block_of (int (codes "1") ∷ [])) (block_of (int (codes "2") ∷ [])))) ∷ [])
    [] (t ∷ []))
    (unary (unary (var (codes "A")) (codes "new")) (codes "zork") ∷ unary (var (codes "A")) (codes "zork") ∷ unary (unary (var (codes "A")) (codes "new")) (codes "test") ∷ [])
    ≡ codes "error DoesNotUnderstand A zork\n" ∷ codes "error DoesNotUnderstand A class zork\n" ∷ codes "error NonBoolean\n" ∷ []
unfolding run primitive shape_of gives fails goes_home and_then with_memory tells pays at_home is_pseudo_variable digits
super_sends = refl

-- a control selector in a cascade is a message; an error in a value comes before that of its name; an empty text of an error; what is shown of an integer and of a symbol
messages_and_values : map printed_for
    (cascade (var (codes "true")) (more_messages (codes "ifTrue:") (more_trees (block_of (int (codes "1") ∷ [])) no_trees) (more_messages (codes "yourself") no_trees no_messages))
    ∷ assign (codes "Smalltalk") (binary (int (codes "1")) (codes "//") (int (codes "0")))
    ∷ assign (codes "Object") (binary (int (codes "1")) (codes "//") (int (codes "0")))
    ∷ binary (var (codes "nil")) (codes "error:") (string [])
    ∷ binary (var (codes "Transcript")) (codes "show:") (int (codes "1"))
    ∷ binary (var (codes "Transcript")) (codes "show:") (literal (symbol (codes "ab"))) ∷ [])
    ≡ codes "error DoesNotUnderstand True ifTrue:\n" ∷ codes "error DivideByZero\n" ∷ codes "error DivideByZero\n" ∷ codes "error UserError \n"
    ∷ codes "error BadArgument 60\n" ∷ codes "ab\n=> Transcript\n" ∷ []
unfolding run primitive shape_of gives fails goes_home and_then with_memory tells pays at_home is_pseudo_variable digits
messages_and_values = refl

-- `i: nil ^nil`: an argument with the name of a pseudo-variable is never meant
declared_nil : printed_of (plain_class (codes "A") ∷ []) (simple_method (codes "A") (codes "i:") (codes "nil" ∷ []) (return (var (codes "nil"))) ∷ []) []
    (binary (unary (var (codes "A")) (codes "new")) (codes "i:") (int (codes "3")) ∷ [])
    ≡ codes "=> nil\n"
unfolding run primitive shape_of gives fails goes_home and_then with_memory tells pays at_home is_pseudo_variable digits
declared_nil = refl

-- `5 bitOr: -8`
bits : printed_of [] (primitive_of (codes "Integer") (codes "bitOr:") (codes "x" ∷ []) 19 ∷ []) [] (binary (int (codes "5")) (codes "bitOr:") (int (codes "-8")) ∷ [])
    ≡ codes "=> -3\n"
unfolding run primitive shape_of gives fails goes_home and_then with_memory tells pays at_home is_pseudo_variable digits
bits = refl

-- `a := A new v: 1; yourself. b := a shallowCopy. b v: 2`: what is stored in the copy is not in the other
copied : printed_of (class_with (codes "A") (Some (codes "Object")) (codes "v" ∷ []) [] ∷ [])
    (simple_method (codes "A") (codes "v:") (codes "x" ∷ []) (assign (codes "v") (var (codes "x"))) ∷ simple_method (codes "A") (codes "v") [] (return (var (codes "v")))
    ∷ primitive_of (codes "Object") (codes "shallowCopy") [] 4 ∷ [])
    (codes "a" ∷ codes "b" ∷ [])
    (assign (codes "a") (binary (unary (var (codes "A")) (codes "new")) (codes "v:") (int (codes "1"))) ∷ assign (codes "b") (unary (var (codes "a")) (codes "shallowCopy"))
    ∷ binary (var (codes "b")) (codes "v:") (int (codes "2"))
    ∷ brace (trees_of (unary (var (codes "a")) (codes "v") ∷ unary (var (codes "b")) (codes "v") ∷ binary (var (codes "a")) (codes "==") (var (codes "b")) ∷ [])) ∷ [])
    ≡ codes "=> (1 2 false)\n"
unfolding run primitive shape_of gives fails goes_home and_then with_memory tells pays at_home is_pseudo_variable digits
copied = refl

-- `a ^self b: [^1]`, `b: x K := [^5]. self c: x. ^2`, `c: x x value. ^3`, `k ^K value`: the return to `a` goes through `b:` and `c:`, and their homes have ended too
through_homes : printed_of (class_sharing (codes "A") (codes "Object") (codes "K" ∷ []) ∷ [])
    (simple_method (codes "A") (codes "a") [] (return (binary (var (codes "self")) (codes "b:") (block_of (return (int (codes "1")) ∷ []))))
    ∷ method_of (codes "A") false (codes "b:") (codes "x" ∷ []) None [] (assign (codes "K") (block_of (return (int (codes "5")) ∷ [])) ∷ binary (var (codes "self")) (codes "c:") (var (codes "x")) ∷ return (int (codes "2")) ∷ [])
    ∷ method_of (codes "A") false (codes "c:") (codes "x" ∷ []) None [] (unary (var (codes "x")) (codes "value") ∷ return (int (codes "3")) ∷ [])
    ∷ simple_method (codes "A") (codes "k") [] (return (unary (var (codes "K")) (codes "value"))) ∷ [])
    (codes "o" ∷ []) (assign (codes "o") (unary (var (codes "A")) (codes "new")) ∷ prints (unary (var (codes "o")) (codes "a")) ∷ unary (var (codes "o")) (codes "k") ∷ [])
    ≡ codes "1\nerror CannotReturn\n"
unfolding run primitive shape_of gives fails goes_home and_then with_memory tells pays at_home is_pseudo_variable digits
through_homes = refl

-- an array that would be too long is refused before its ticks are taken
too_long : printed_within 3 [] (primitive_of (codes "Class") (codes "new:") (codes "n" ∷ []) 40 ∷ []) [] (binary (var (codes "Array")) (codes "new:") (int (codes "65536")) ∷ [])
    ≡ codes "error TooLong\n"
unfolding run primitive shape_of gives fails goes_home and_then with_memory tells pays at_home is_pseudo_variable digits
too_long = refl

-- texts of both kinds in their order
texts_in_order : map (λ t. printed_of (plain_class (codes "String") ∷ plain_class (codes "Symbol") ∷ []) (primitive_of (codes "String") (codes "<") (codes "x" ∷ []) 35 ∷ primitive_of (codes "Symbol") (codes "<") (codes "x" ∷ []) 35 ∷ []) [] (t ∷ []))
    (binary (string []) (codes "<") (string (codes "a")) ∷ binary (string (codes "a")) (codes "<") (literal (symbol (codes "a")))
    ∷ binary (literal (symbol (codes "a"))) (codes "<") (string (codes "ab")) ∷ binary (string (codes "b")) (codes "<") (string (codes "ab")) ∷ [])
    ≡ codes "=> true\n" ∷ codes "=> false\n" ∷ codes "=> true\n" ∷ codes "=> false\n" ∷ []
unfolding run primitive shape_of gives fails goes_home and_then with_memory tells pays at_home is_pseudo_variable digits
texts_in_order = refl
