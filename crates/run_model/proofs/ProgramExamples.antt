-- Runs of small programs with classes and methods, by computing them.
use Rattle.std.specs.Prelude.{◌≡◌, ℕ, List, [], ◌∷◌, ◌++◌, map, false, Some, None, codes, refl}
use Rattle.std.specs.Fmt.{digits}
use Rattle.scope_model.specs.SpecialNames.{is_pseudo_variable}
use Rattle.tree_model.specs.Tree.{var, literal, cascade, assign, block, return, no_trees, no_messages, more_messages, number, array, literals_of}
use Rattle.image_model.specs.Image.{ClassOf, EntryOf, DoItOf}
use Rattle.run_model.specs.Values.{Name}
use Rattle.run_model.specs.Acts.{gives, fails, goes_home, and_then, with_memory, tells, pays, at_home}
use Rattle.run_model.specs.Primitives.{primitive}
use Rattle.run_model.specs.Shapes.{shape_of}
use Rattle.run_model.specs.Runs.{run, printed_run}
use Rattle.run_model.proofs.SmallImages.{Tree, plain_class, class_with, simple_method, class_method, method_of, doit_of, int, unary, binary, ternary, block_of, body_of, image_with}

-- what is printed of the run of an image with 200 ticks
abbrev printed_of : List (ClassOf Name) → List (EntryOf Name) → List (DoItOf Name) → List ℕ
printed_of classes methods doits = printed_run (image_with classes methods doits) 200

-- a do-it of statements
abbrev statements_of : List Tree → DoItOf Name
statements_of ts = doit_of [] ts

-- `Transcript print: t`
abbrev prints : Tree → Tree
prints t = binary (var (codes "Transcript")) (codes "print:") t

-- the class A
abbrev a_class : List (ClassOf Name)
a_class = plain_class (codes "A") ∷ []

-- `A new`
abbrev new_a : Tree
new_a = unary (var (codes "A")) (codes "new")

-- `mk ^[^1]`, and `A new mk value`: the home of the return has ended
home_ended : printed_of a_class (simple_method (codes "A") (codes "mk") [] (return (block_of (return (int (codes "1")) ∷ []))) ∷ []) (statements_of (unary (unary new_a (codes "mk")) (codes "value") ∷ []) ∷ [])
    ≡ codes "error CannotReturn\n"
unfolding run primitive shape_of gives fails goes_home and_then with_memory tells pays at_home is_pseudo_variable digits
home_ended = refl

-- `go: b ^b value. 5` and `find self go: [^7]. ^8`: the return leaves both methods; and a return from a do-it is its value, and leaves no other do-it
home_lives : printed_of a_class
    (method_of (codes "A") false (codes "go:") (codes "b" ∷ []) None [] (unary (var (codes "b")) (codes "value") ∷ int (codes "5") ∷ [])
    ∷ method_of (codes "A") false (codes "find") [] None [] (binary (var (codes "self")) (codes "go:") (block_of (return (int (codes "7")) ∷ [])) ∷ return (int (codes "8")) ∷ []) ∷ [])
    (statements_of (prints (unary new_a (codes "find")) ∷ return (int (codes "3")) ∷ []) ∷ statements_of (return (int (codes "4")) ∷ []) ∷ [])
    ≡ codes "7\n=> 4\n"
unfolding run primitive shape_of gives fails goes_home and_then with_memory tells pays at_home is_pseudo_variable digits
home_lives = refl

-- `i := 0. [i < 2] whileTrue: [| t | t := i. b == nil ifTrue: [b := [t := t + 10]]. i := i + 1]`, and twice `Transcript print: b value`: the closure keeps the cell of the first turn
keeps_cell : printed_of [] []
    (doit_of (codes "b" ∷ codes "i" ∷ [])
    (assign (codes "i") (int (codes "0"))
    ∷ binary (block_of (binary (var (codes "i")) (codes "<") (int (codes "2")) ∷ [])) (codes "whileTrue:")
    (block [] (codes "t" ∷ [])
    (body_of (assign (codes "t") (var (codes "i"))
    ∷ binary (binary (var (codes "b")) (codes "==") (var (codes "nil"))) (codes "ifTrue:")
    (block_of (assign (codes "b") (block_of (assign (codes "t") (binary (var (codes "t")) (codes "+") (int (codes "10"))) ∷ [])) ∷ []))
    ∷ assign (codes "i") (binary (var (codes "i")) (codes "+") (int (codes "1"))) ∷ [])) [])
    ∷ prints (unary (var (codes "b")) (codes "value")) ∷ prints (unary (var (codes "b")) (codes "value")) ∷ []) ∷ [])
    ≡ codes "1020\n=> Transcript\n"
unfolding run primitive shape_of gives fails goes_home and_then with_memory tells pays at_home is_pseudo_variable digits
keeps_cell = refl

-- the class B below A, with a class-instance variable of A
abbrev a_and_b : List (ClassOf Name)
a_and_b = class_with (codes "A") (Some (codes "Object")) (codes "x" ∷ []) (codes "n" ∷ []) ∷ class_with (codes "B") (Some (codes "A")) [] [] ∷ []

-- `A class make ^super new`, where the look-up goes on at `Class`, and `B class make ^super make`
super_send : printed_of a_and_b
    (class_method (codes "A") (codes "make") (return (unary (var (codes "super")) (codes "new"))) ∷ class_method (codes "B") (codes "make") (return (unary (var (codes "super")) (codes "make"))) ∷ [])
    (statements_of (unary (var (codes "B")) (codes "make") ∷ []) ∷ [])
    ≡ codes "=> an instance of B\n"
unfolding run primitive shape_of gives fails goes_home and_then with_memory tells pays at_home is_pseudo_variable digits
super_send = refl

-- `A class bump ^n := (n == nil ifTrue: [0] ifFalse: [n]) + 1`: each class has a value of its own
class_side_values : map (λ ts. printed_of a_and_b
    (class_method (codes "A") (codes "bump")
    (return (assign (codes "n") (binary (ternary (binary (var (codes "n")) (codes "==") (var (codes "nil"))) (codes "ifTrue:ifFalse:") (block_of (int (codes "0") ∷ [])) (block_of (var (codes "n") ∷ []))) (codes "+") (int (codes "1"))))) ∷ [])
    (statements_of ts ∷ []))
    ((cascade (var (codes "A")) (more_messages (codes "bump") no_trees (more_messages (codes "bump") no_trees no_messages)) ∷ unary (var (codes "B")) (codes "bump") ∷ [])
    ∷ (unary (var (codes "A")) (codes "bump") ∷ unary (var (codes "A")) (codes "bump") ∷ []) ∷ [])
    ≡ codes "=> 1\n" ∷ codes "=> 2\n" ∷ []
unfolding run primitive shape_of gives fails goes_home and_then with_memory tells pays at_home is_pseudo_variable digits
class_side_values = refl

-- `x` and `x: v x := v`: an instance variable begins as nil, and a method without `^` answers self; the arguments of a method are not its caller's names
instance_values : printed_of a_and_b
    (simple_method (codes "A") (codes "x") [] (return (var (codes "x"))) ∷ simple_method (codes "A") (codes "x:") (codes "v" ∷ []) (assign (codes "x") (var (codes "v"))) ∷ [])
    (doit_of (codes "b" ∷ []) (assign (codes "b") (unary (var (codes "B")) (codes "new")) ∷ prints (unary (var (codes "b")) (codes "x")) ∷ prints (unary (binary (var (codes "b")) (codes "x:") (int (codes "5"))) (codes "x")) ∷ var (codes "v") ∷ []) ∷ [])
    ≡ codes "nil5\nerror Undeclared v\n"
unfolding run primitive shape_of gives fails goes_home and_then with_memory tells pays at_home is_pseudo_variable digits
instance_values = refl

-- `isKindOf:` along a chain, of a class too, and a class that is none
kinds : map (λ t. printed_of a_and_b [] (statements_of (t ∷ []) ∷ []))
    (map (λ c. binary (unary (var (codes "B")) (codes "new")) (codes "isKindOf:") (var c)) (codes "B" ∷ codes "A" ∷ codes "Object" ∷ codes "Class" ∷ codes "Transcript" ∷ [])
    ++ map (λ c. binary (var (codes "B")) (codes "isKindOf:") (var c)) (codes "B" ∷ codes "Class" ∷ codes "Object" ∷ []))
    ≡ codes "=> true\n" ∷ codes "=> true\n" ∷ codes "=> true\n" ∷ codes "=> false\n" ∷ codes "error BadArgument 3\n"
    ∷ codes "=> false\n" ∷ codes "=> true\n" ∷ codes "=> true\n" ∷ []
unfolding run primitive shape_of gives fails goes_home and_then with_memory tells pays at_home is_pseudo_variable digits
kinds = refl

-- `A new foo: 3` and `A foo: 3`
not_understood : map (λ r. printed_of a_class [] (statements_of (binary r (codes "foo:") (int (codes "3")) ∷ []) ∷ [])) (new_a ∷ var (codes "A") ∷ [])
    ≡ codes "error DoesNotUnderstand A foo:\n" ∷ codes "error DoesNotUnderstand A class foo:\n" ∷ []
unfolding run primitive shape_of gives fails goes_home and_then with_memory tells pays at_home is_pseudo_variable digits
not_understood = refl

-- `list ^#(1 2)`, and `A new list at: 1 put: 9`: each evaluation of a literal array makes a new one; an index outside
literal_arrays : printed_of a_class (simple_method (codes "A") (codes "list") [] (return (literal (array (literals_of (number (codes "1") ∷ number (codes "2") ∷ []))))) ∷ [])
    (statements_of (prints (ternary (unary new_a (codes "list")) (codes "at:put:") (int (codes "1")) (int (codes "9")))
    ∷ prints (binary (unary new_a (codes "list")) (codes "at:") (int (codes "1")))
    ∷ prints (binary (unary new_a (codes "list")) (codes ",") (unary new_a (codes "list")))
    ∷ binary (unary new_a (codes "list")) (codes "at:") (int (codes "3")) ∷ []) ∷ [])
    ≡ codes "91(1 2 1 2)\nerror BadIndex\n"
unfolding run primitive shape_of gives fails goes_home and_then with_memory tells pays at_home is_pseudo_variable digits
literal_arrays = refl
