-- Runs of expressions over a small kernel, by computing them.
use Rattle.std.specs.Prelude.{◌≡◌, ℕ, List, [], ◌∷◌, ◌++◌, map, replicate, codes, refl}
use Rattle.std.specs.Fmt.{digits}
use Rattle.scope_model.specs.SpecialNames.{is_pseudo_variable}
use Rattle.tree_model.specs.Tree.{var, literal, cascade, assign, block, brace, more_trees, no_trees, no_messages, more_messages, trees_of, number, char, symbol, str, array, bytes, literals_of}
use Rattle.run_model.specs.Acts.{gives, fails, goes_home, and_then, with_memory, tells, pays, at_home}
use Rattle.run_model.specs.Primitives.{primitive}
use Rattle.run_model.specs.Shapes.{shape_of}
use Rattle.run_model.specs.Runs.{run, printed_run}
use Rattle.run_model.proofs.SmallImages.{Tree, int, string, unary, binary, ternary, block_of, body_of, image_for}

-- what is printed of the run of one expression with 100 ticks
abbrev printed_for : Tree → List ℕ
printed_for t = printed_run (image_for t) 100

-- sums and products from the left; a quotient and a remainder rounded down, exact quotients, bits and powers of two; and their errors
integers : map printed_for
    (binary (binary (int (codes "2")) (codes "+") (int (codes "3"))) (codes "*") (int (codes "4"))
    ∷ binary (int (codes "3")) (codes "-") (int (codes "4"))
    ∷ binary (int (codes "-7")) (codes "//") (int (codes "2"))
    ∷ binary (int (codes "7")) (codes "//") (int (codes "-2"))
    ∷ binary (int (codes "-7")) (codes "\\\\") (int (codes "2"))
    ∷ binary (int (codes "7")) (codes "\\\\") (int (codes "-2"))
    ∷ binary (int (codes "6")) (codes "/") (int (codes "-2"))
    ∷ binary (int (codes "7")) (codes "/") (int (codes "2"))
    ∷ binary (int (codes "7")) (codes "/") (int (codes "0"))
    ∷ binary (int (codes "-7")) (codes "bitAnd:") (int (codes "12"))
    ∷ binary (int (codes "-3")) (codes "bitShift:") (int (codes "-1"))
    ∷ binary (int (codes "1")) (codes "bitShift:") (int (codes "63"))
    ∷ binary (int (codes "9223372036854775807")) (codes "+") (int (codes "1"))
    ∷ binary (int (codes "-9223372036854775808")) (codes "//") (int (codes "-1"))
    ∷ binary (int (codes "-9223372036854775808")) (codes "\\\\") (int (codes "-1"))
    ∷ binary (int (codes "-16rFF")) (codes "+") (var (codes "nil"))
    ∷ unary (int (codes "-16rFF")) (codes "printString")
    ∷ int (codes "9223372036854775808") ∷ int (codes "1.5") ∷ int (codes "1e2") ∷ [])
    ≡
    codes "=> 20\n" ∷ codes "=> -1\n" ∷ codes "=> -4\n" ∷ codes "=> -4\n" ∷ codes "=> 1\n" ∷ codes "=> -1\n" ∷ codes "=> -3\n" ∷ codes "error Unsupported\n"
    ∷ codes "error DivideByZero\n" ∷ codes "=> 8\n" ∷ codes "=> -2\n" ∷ codes "error Overflow\n" ∷ codes "error Overflow\n" ∷ codes "error Overflow\n" ∷ codes "=> 0\n"
    ∷ codes "error BadArgument 10\n" ∷ codes "=> '-255'\n" ∷ codes "error Unsupported\n" ∷ codes "error Unsupported\n" ∷ codes "error Unsupported\n" ∷ []
unfolding run primitive shape_of gives fails goes_home and_then with_memory tells pays at_home is_pseudo_variable digits
integers = refl

-- a cascade; a brace; a printed array in an array; an opaque literal in an array; a name that stands for nothing; a class and `Transcript` assigned; `thisContext`
nodes : map printed_for
    (cascade (var (codes "Transcript")) (more_messages (codes "show:") (more_trees (string (codes "a")) no_trees) (more_messages (codes "show:") (more_trees (string (codes "b")) no_trees) (more_messages (codes "cr") no_trees no_messages)))
    ∷ brace (trees_of (binary (int (codes "1")) (codes "+") (int (codes "1")) ∷ string (codes "a") ∷ []))
    ∷ brace no_trees
    ∷ literal (array (literals_of (number (codes "1") ∷ array (literals_of (number (codes "2") ∷ number (codes "3") ∷ [])) ∷ char 97 ∷ symbol (codes "b") ∷ str (codes "it's") ∷ [])))
    ∷ binary (var (codes "Transcript")) (codes "print:") (brace (trees_of (var (codes "Integer") ∷ block_of [] ∷ unary (var (codes "Object")) (codes "new") ∷ var (codes "nil") ∷ var (codes "Transcript") ∷ [])))
    ∷ literal (array (literals_of (bytes (literals_of []) ∷ [])))
    ∷ var (codes "foo") ∷ assign (codes "foo") (int (codes "1")) ∷ assign (codes "Object") (int (codes "1")) ∷ assign (codes "Transcript") (int (codes "1"))
    ∷ var (codes "thisContext") ∷ var (codes "super") ∷ binary (var (codes "nil")) (codes "error:") (string (codes "no")) ∷ [])
    ≡
    codes "ab\n=> Transcript\n" ∷ codes "=> (2 'a')\n" ∷ codes "=> ()\n" ∷ codes "=> (1 an Array of 2 $a #b 'it''s')\n"
    ∷ codes "(Integer a block an instance of Object nil Transcript)\n=> Transcript\n" ∷ codes "error Unsupported\n" ∷ codes "error Undeclared foo\n"
    ∷ codes "error Undeclared foo\n" ∷ codes "error NotAssignable Object\n" ∷ codes "error NotAssignable Transcript\n" ∷ codes "error Reflective\n" ∷ codes "=> nil\n"
    ∷ codes "error UserError no\n" ∷ []
unfolding run primitive shape_of gives fails goes_home and_then with_memory tells pays at_home is_pseudo_variable digits
nodes = refl

-- the control sends with one block and a tested value, then those with two, then the loops
abbrev control_sends : Tree → List Tree
control_sends t =
    map (λ s. binary t s (block_of (int (codes "1") ∷ []))) (codes "ifTrue:" ∷ codes "ifFalse:" ∷ codes "and:" ∷ codes "or:" ∷ [])
    ++ map (λ s. ternary t s (block_of (int (codes "1") ∷ [])) (block_of (int (codes "2") ∷ []))) (codes "ifTrue:ifFalse:" ∷ codes "ifFalse:ifTrue:" ∷ [])

-- loops with this test
abbrev loop_sends : List Tree → List Tree
loop_sends ts = map (λ s. binary (block_of ts) s (block_of (int (codes "1") ∷ []))) (codes "whileTrue:" ∷ codes "whileFalse:" ∷ [])

-- a tested value that is no Boolean, also that of an empty test
no_boolean : map printed_for (control_sends (int (codes "3")) ++ loop_sends (int (codes "3") ∷ []) ++ loop_sends []) ≡ replicate 10 (codes "error NonBoolean\n")
unfolding run primitive shape_of gives fails goes_home and_then with_memory tells pays at_home is_pseudo_variable digits
no_boolean = refl

-- the branches for true and for false; and that an argument which is no literal block makes a message
branches : map printed_for (control_sends (var (codes "true")) ++ control_sends (var (codes "false")) ++ binary (var (codes "true")) (codes "ifTrue:") (int (codes "1")) ∷ binary (int (codes "3")) (codes "value:") (int (codes "1")) ∷ [])
    ≡ codes "=> 1\n" ∷ codes "=> nil\n" ∷ codes "=> 1\n" ∷ codes "=> true\n" ∷ codes "=> 1\n" ∷ codes "=> 2\n"
    ∷ codes "=> nil\n" ∷ codes "=> 1\n" ∷ codes "=> false\n" ∷ codes "=> 1\n" ∷ codes "=> 2\n" ∷ codes "=> 1\n"
    ∷ codes "error DoesNotUnderstand True ifTrue:\n" ∷ codes "error DoesNotUnderstand Integer value:\n" ∷ []
unfolding run primitive shape_of gives fails goes_home and_then with_memory tells pays at_home is_pseudo_variable digits
branches = refl

-- a closure with too many arguments, and one with as many as it has parameters
arities : map printed_for (binary (block_of []) (codes "value:") (int (codes "1")) ∷ binary (block (codes "a" ∷ []) [] (body_of (var (codes "a") ∷ [])) []) (codes "value:") (int (codes "7")) ∷ unary (block_of []) (codes "value") ∷ [])
    ≡ codes "error WrongArity 1\n" ∷ codes "=> 7\n" ∷ codes "=> nil\n" ∷ []
unfolding run primitive shape_of gives fails goes_home and_then with_memory tells pays at_home is_pseudo_variable digits
arities = refl

-- a loop without end is spent, with the events so far: the send takes a tick, and each turn five
spends : printed_run (image_for (binary (block_of (var (codes "true") ∷ [])) (codes "whileTrue:") (block_of (binary (var (codes "Transcript")) (codes "show:") (string (codes "a")) ∷ [])))) 1000 ≡ replicate 199 97 ++ codes "\nspent 1000\n"
unfolding run primitive shape_of gives fails goes_home and_then with_memory tells pays at_home is_pseudo_variable digits
spends = refl

-- a sum takes three ticks, and with two it is spent
ticks : printed_run (image_for (binary (int (codes "2")) (codes "+") (int (codes "3")))) 3 ∷ printed_run (image_for (binary (int (codes "2")) (codes "+") (int (codes "3")))) 2 ∷ [] ≡ codes "=> 5\n" ∷ codes "spent 2\n" ∷ []
unfolding run primitive shape_of gives fails goes_home and_then with_memory tells pays at_home is_pseudo_variable digits
ticks = refl
