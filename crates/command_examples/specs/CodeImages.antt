-- Small images: a class A, at times with a class B under it, methods of A in protocol `m`, and do-its.
use Rattle.std.specs.Prelude.{List, [], ◌∷◌, ◌++◌, Bool, true, false, if◌then◌else◌, Some, None, codes}
use Rattle.tree_model.specs.Tree.{Notes, TreeOf, send, assign, block, return, trees_of, StatementsOf, no_statements, more_statements, MethodOf}
use Rattle.image_model.specs.Image.{EntryOf, DoItOf, ImageOf}
use Rattle.command_examples.specs.ExampleImage.{Text, class_with, kernel_classes, unary, name, numeral}

-- a message with arguments
abbrev pub asked : TreeOf Text → Text → List (TreeOf Text) → TreeOf Text
asked r s args = send r s (trees_of args)

-- statements without comments
abbrev pub lines : List (TreeOf Text) → StatementsOf Text
lines [] = no_statements
lines (t ∷ ts) = more_statements [] t (lines ts)

-- a method
abbrev pub told : Text → List Text → Notes → List Text → StatementsOf Text → Notes → MethodOf Text
told s arguments head temporaries statements tail =
    record { selector = s; arguments = arguments; head = head; primitive = None; body = record { temporaries = temporaries; statements = statements; tail = tail } }

-- a method of the user, with its protocol and its source
abbrev pub written_in : Text → Text → Text → MethodOf Text → EntryOf Text
written_in c protocol source tree = record { class = Some c; meta = false; protocol = protocol; source = source; tree = tree; kernel = false }

-- the image: the instance variables of A, whether there is a class B, the methods and the do-its
abbrev pub image_with : List Text → Bool → List (EntryOf Text) → List (DoItOf Text) → ImageOf Text
image_with variables has_b methods doits = record {
  classes =
      kernel_classes ++ class_with false (codes "A") (Some (codes "Object")) variables [] []
      ∷ (if has_b then class_with false (codes "B") (Some (codes "A")) [] [] [] ∷ [] else []);
  methods = methods;
  doits = doits;
  heads = 0;
}

-- a message to a new object is passed
abbrev pub noted : ImageOf Text
noted =
    image_with [] false
    ((written_in (codes "A") (codes "m") (codes "note: x at: t ^x") (told (codes "note:at:") ((codes "x") ∷ (codes "t") ∷ []) [] [] (lines ((return (name (codes "x"))) ∷ [])) []))
    ∷ [])
    (record { source = codes "A new note: 1 at: A new"; body = record { temporaries = []; statements = (lines ((asked (unary (name (codes "A")) (codes "new")) (codes "note:at:") ((numeral (codes "1")) ∷ (unary (name (codes "A")) (codes "new")) ∷ [])) ∷ [])); tail = [] } }
    ∷ [])

-- a name is passed
abbrev pub noted_by_name : ImageOf Text
noted_by_name =
    image_with [] false
    ((written_in (codes "A") (codes "m") (codes "note: x at: t ^x") (told (codes "note:at:") ((codes "x") ∷ (codes "t") ∷ []) [] [] (lines ((return (name (codes "x"))) ∷ [])) []))
    ∷ [])
    (record { source = codes "| k | k := 2. A new note: 1 at: k"; body = record { temporaries = ((codes "k") ∷ []); statements = (lines ((assign (codes "k") (numeral (codes "2"))) ∷ (asked (unary (name (codes "A")) (codes "new")) (codes "note:at:") ((numeral (codes "1")) ∷ (name (codes "k")) ∷ [])) ∷ [])); tail = [] } }
    ∷ [])

-- the second argument is gone
abbrev pub noted_once : ImageOf Text
noted_once =
    image_with [] false
    ((written_in (codes "A") (codes "m") (codes "note: x\n\t^x") (told (codes "note:") ((codes "x") ∷ []) [] [] (lines ((return (name (codes "x"))) ∷ [])) []))
    ∷ [])
    (record { source = codes "| k |\nk := 2.\nA new note: 1"; body = record { temporaries = ((codes "k") ∷ []); statements = (lines ((assign (codes "k") (numeral (codes "2"))) ∷ (asked (unary (name (codes "A")) (codes "new")) (codes "note:") ((numeral (codes "1")) ∷ [])) ∷ [])); tail = [] } }
    ∷ [])

-- a temporary that a closure assigns
abbrev pub counting : ImageOf Text
counting =
    image_with [] false
    ((written_in (codes "A") (codes "m") (codes "go | x b | x := 1. b := [x := x + 1]. ^b value + x") (told (codes "go") [] [] ((codes "x") ∷ (codes "b") ∷ []) (lines ((assign (codes "x") (numeral (codes "1"))) ∷ (assign (codes "b") (block [] [] (lines ((assign (codes "x") (asked (name (codes "x")) (codes "+") ((numeral (codes "1")) ∷ []))) ∷ [])) [])) ∷ (return (asked (unary (name (codes "b")) (codes "value")) (codes "+") ((name (codes "x")) ∷ []))) ∷ [])) []))
    ∷ [])
    ([])

-- a product of an argument and a temporary
abbrev pub paying : ImageOf Text
paying =
    image_with [] false
    ((written_in (codes "A") (codes "m") (codes "pay: x | rate | rate := 2. ^x * rate + 1") (told (codes "pay:") ((codes "x") ∷ []) [] ((codes "rate") ∷ []) (lines ((assign (codes "rate") (numeral (codes "2"))) ∷ (return (asked (asked (name (codes "x")) (codes "*") ((name (codes "rate")) ∷ [])) (codes "+") ((numeral (codes "1")) ∷ []))) ∷ [])) []))
    ∷ [])
    ([])

-- the product is a method
abbrev pub paying_scaled : ImageOf Text
paying_scaled =
    image_with [] false
    ((written_in (codes "A") (codes "m") (codes "pay: x\n\t| rate |\n\trate := 2.\n\t^(self scaled: x by: rate) + 1") (told (codes "pay:") ((codes "x") ∷ []) [] ((codes "rate") ∷ []) (lines ((assign (codes "rate") (numeral (codes "2"))) ∷ (return (asked (asked (name (codes "self")) (codes "scaled:by:") ((name (codes "x")) ∷ (name (codes "rate")) ∷ [])) (codes "+") ((numeral (codes "1")) ∷ []))) ∷ [])) []))
    ∷ (written_in (codes "A") (codes "m") (codes "scaled: x by: rate\n\t^x * rate") (told (codes "scaled:by:") ((codes "x") ∷ (codes "rate") ∷ []) [] [] (lines ((return (asked (name (codes "x")) (codes "*") ((name (codes "rate")) ∷ []))) ∷ [])) []))
    ∷ [])
    ([])

-- two classes have a fee
abbrev pub due : ImageOf Text
due =
    image_with [] true
    ((written_in (codes "A") (codes "m") (codes "fee ^3") (told (codes "fee") [] [] [] (lines ((return (numeral (codes "3"))) ∷ [])) []))
    ∷ (written_in (codes "A") (codes "m") (codes "due ^self fee") (told (codes "due") [] [] [] (lines ((return (unary (name (codes "self")) (codes "fee"))) ∷ [])) []))
    ∷ (written_in (codes "B") (codes "m") (codes "fee ^4") (told (codes "fee") [] [] [] (lines ((return (numeral (codes "4"))) ∷ [])) []))
    ∷ [])
    ([])

-- one class has it
abbrev pub due_alone : ImageOf Text
due_alone =
    image_with [] false
    ((written_in (codes "A") (codes "m") (codes "fee ^3") (told (codes "fee") [] [] [] (lines ((return (numeral (codes "3"))) ∷ [])) []))
    ∷ (written_in (codes "A") (codes "m") (codes "due ^self fee") (told (codes "due") [] [] [] (lines ((return (unary (name (codes "self")) (codes "fee"))) ∷ [])) []))
    ∷ [])
    ([])

-- the fee is due at once
abbrev pub due_inlined : ImageOf Text
due_inlined =
    image_with [] false
    ((written_in (codes "A") (codes "m") (codes "fee ^3") (told (codes "fee") [] [] [] (lines ((return (numeral (codes "3"))) ∷ [])) []))
    ∷ (written_in (codes "A") (codes "m") (codes "due\n\t^3") (told (codes "due") [] [] [] (lines ((return (numeral (codes "3"))) ∷ [])) []))
    ∷ [])
    ([])

-- a method answers a block
abbrev pub going : ImageOf Text
going =
    image_with [] false
    ((written_in (codes "A") (codes "m") (codes "part ^[1]") (told (codes "part") [] [] [] (lines ((return (block [] [] (lines ((numeral (codes "1")) ∷ [])) [])) ∷ [])) []))
    ∷ (written_in (codes "A") (codes "m") (codes "go: flag ^flag ifTrue: self part") (told (codes "go:") ((codes "flag") ∷ []) [] [] (lines ((return (asked (name (codes "flag")) (codes "ifTrue:") ((unary (name (codes "self")) (codes "part")) ∷ []))) ∷ [])) []))
    ∷ [])
    ([])

-- an instance variable
abbrev pub up : ImageOf Text
up =
    image_with ((codes "count") ∷ []) false
    ((written_in (codes "A") (codes "m") (codes "up ^count := count + 1") (told (codes "up") [] [] [] (lines ((return (assign (codes "count") (asked (name (codes "count")) (codes "+") ((numeral (codes "1")) ∷ [])))) ∷ [])) []))
    ∷ (written_in (codes "A") (codes "m") (codes "start count := 0") (told (codes "start") [] [] [] (lines ((assign (codes "count") (numeral (codes "0"))) ∷ [])) []))
    ∷ [])
    ([])

-- it is reached by messages
abbrev pub up_abstracted : ImageOf Text
up_abstracted =
    image_with ((codes "count") ∷ []) false
    ((written_in (codes "A") (codes "m") (codes "up\n\t^self count: self count + 1") (told (codes "up") [] [] [] (lines ((return (asked (name (codes "self")) (codes "count:") ((asked (unary (name (codes "self")) (codes "count")) (codes "+") ((numeral (codes "1")) ∷ [])) ∷ []))) ∷ [])) []))
    ∷ (written_in (codes "A") (codes "m") (codes "start\n\tself count: 0") (told (codes "start") [] [] [] (lines ((asked (name (codes "self")) (codes "count:") ((numeral (codes "0")) ∷ [])) ∷ [])) []))
    ∷ (written_in (codes "A") (codes "accessing") (codes "count\n\t^count") (told (codes "count") [] [] [] (lines ((return (name (codes "count"))) ∷ [])) []))
    ∷ (written_in (codes "A") (codes "accessing") (codes "count: anObject\n\t^count := anObject") (told (codes "count:") ((codes "anObject") ∷ []) [] [] (lines ((return (assign (codes "count") (name (codes "anObject")))) ∷ [])) []))
    ∷ [])
    ([])

-- a fee
abbrev pub fee : ImageOf Text
fee =
    image_with [] false
    ((written_in (codes "A") (codes "m") (codes "fee ^3") (told (codes "fee") [] [] [] (lines ((return (numeral (codes "3"))) ∷ [])) []))
    ∷ [])
    (record { source = codes "A new fee"; body = record { temporaries = []; statements = (lines ((unary (unary (name (codes "A")) (codes "new")) (codes "fee")) ∷ [])); tail = [] } }
    ∷ [])

-- the fee of something
abbrev pub fee_of : ImageOf Text
fee_of =
    image_with [] false
    ((written_in (codes "A") (codes "m") (codes "feeOf: x\n\t^3") (told (codes "feeOf:") ((codes "x") ∷ []) [] [] (lines ((return (numeral (codes "3"))) ∷ [])) []))
    ∷ [])
    (record { source = codes "A new feeOf: 7"; body = record { temporaries = []; statements = (lines ((asked (unary (name (codes "A")) (codes "new")) (codes "feeOf:") ((numeral (codes "7")) ∷ [])) ∷ [])); tail = [] } }
    ∷ [])

-- a double and one
abbrev pub twice : ImageOf Text
twice =
    image_with [] false
    ((written_in (codes "A") (codes "m") (codes "pay: x ^x * 2 + 1") (told (codes "pay:") ((codes "x") ∷ []) [] [] (lines ((return (asked (asked (name (codes "x")) (codes "*") ((numeral (codes "2")) ∷ [])) (codes "+") ((numeral (codes "1")) ∷ []))) ∷ [])) []))
    ∷ [])
    ([])

-- the double has a name
abbrev pub twice_named : ImageOf Text
twice_named =
    image_with [] false
    ((written_in (codes "A") (codes "m") (codes "pay: x\n\t| t |\n\tt := x * 2.\n\t^t + 1") (told (codes "pay:") ((codes "x") ∷ []) [] ((codes "t") ∷ []) (lines ((assign (codes "t") (asked (name (codes "x")) (codes "*") ((numeral (codes "2")) ∷ []))) ∷ (return (asked (name (codes "t")) (codes "+") ((numeral (codes "1")) ∷ []))) ∷ [])) []))
    ∷ [])
    ([])

-- and none
abbrev pub twice_inlined : ImageOf Text
twice_inlined =
    image_with [] false
    ((written_in (codes "A") (codes "m") (codes "pay: x\n\t^x * 2 + 1") (told (codes "pay:") ((codes "x") ∷ []) [] [] (lines ((return (asked (asked (name (codes "x")) (codes "*") ((numeral (codes "2")) ∷ [])) (codes "+") ((numeral (codes "1")) ∷ []))) ∷ [])) []))
    ∷ [])
    ([])

-- a message is sent before the second one
abbrev pub summing : ImageOf Text
summing =
    image_with [] false
    ((written_in (codes "A") (codes "m") (codes "go ^self foo + self bar") (told (codes "go") [] [] [] (lines ((return (asked (unary (name (codes "self")) (codes "foo")) (codes "+") ((unary (name (codes "self")) (codes "bar")) ∷ []))) ∷ [])) []))
    ∷ [])
    ([])

-- a temporary is read in a block
abbrev pub asking : ImageOf Text
asking =
    image_with [] false
    ((written_in (codes "A") (codes "m") (codes "go: a | x | x := a foo. a isNil ifTrue: [x bar]") (told (codes "go:") ((codes "a") ∷ []) [] ((codes "x") ∷ []) (lines ((assign (codes "x") (unary (name (codes "a")) (codes "foo"))) ∷ (asked (unary (name (codes "a")) (codes "isNil")) (codes "ifTrue:") ((block [] [] (lines ((unary (name (codes "x")) (codes "bar")) ∷ [])) []) ∷ [])) ∷ [])) []))
    ∷ [])
    ([])

-- a message is a statement with comments; its method has two statements
abbrev pub stated : ImageOf Text
stated =
    image_with [] false
    ((written_in (codes "A") (codes "m") (codes "go: a | t | \"before\" self put: a \"in\". t := 1. ^t") (told (codes "go:") ((codes "a") ∷ []) [] ((codes "t") ∷ []) (more_statements ((codes "\"before\"") ∷ (codes "\"in\"") ∷ []) (asked (name (codes "self")) (codes "put:") ((name (codes "a")) ∷ [])) (more_statements [] (assign (codes "t") (numeral (codes "1"))) (more_statements [] (return (name (codes "t"))) no_statements))) []))
    ∷ (written_in (codes "A") (codes "m") (codes "put: b\n\t\"head\"\n\tb foo. \"last\" [b bar] value") (told (codes "put:") ((codes "b") ∷ []) ((codes "\"head\"") ∷ []) [] (more_statements [] (unary (name (codes "b")) (codes "foo")) (more_statements ((codes "\"last\"") ∷ []) (unary (block [] [] (lines ((unary (name (codes "b")) (codes "bar")) ∷ [])) []) (codes "value")) no_statements)) []))
    ∷ [])
    ([])

-- the statements stand in its place
abbrev pub stated_inlined : ImageOf Text
stated_inlined =
    image_with [] false
    ((written_in (codes "A") (codes "m") (codes "go: a\n\t| t |\n\t\"before\"\n\t\"in\"\n\ta foo.\n\t\"last\"\n\t[a bar] value.\n\tt := 1.\n\t^t") (told (codes "go:") ((codes "a") ∷ []) [] ((codes "t") ∷ []) (more_statements ((codes "\"before\"") ∷ (codes "\"in\"") ∷ []) (unary (name (codes "a")) (codes "foo")) (more_statements ((codes "\"last\"") ∷ []) (unary (block [] [] (lines ((unary (name (codes "a")) (codes "bar")) ∷ [])) []) (codes "value")) (more_statements [] (assign (codes "t") (numeral (codes "1"))) (more_statements [] (return (name (codes "t"))) no_statements)))) []))
    ∷ (written_in (codes "A") (codes "m") (codes "put: b\n\t\"head\"\n\tb foo. \"last\" [b bar] value") (told (codes "put:") ((codes "b") ∷ []) ((codes "\"head\"") ∷ []) [] (more_statements [] (unary (name (codes "b")) (codes "foo")) (more_statements ((codes "\"last\"") ∷ []) (unary (block [] [] (lines ((unary (name (codes "b")) (codes "bar")) ∷ [])) []) (codes "value")) no_statements)) []))
    ∷ [])
    ([])

-- a message whose method has no statement
abbrev pub emptied : ImageOf Text
emptied =
    image_with [] false
    ((written_in (codes "A") (codes "m") (codes "go \"a\" self nothing \"b\". 2 foo") (told (codes "go") [] ((codes "\"a\"") ∷ (codes "\"b\"") ∷ []) [] (lines ((unary (name (codes "self")) (codes "nothing")) ∷ (unary (numeral (codes "2")) (codes "foo")) ∷ [])) []))
    ∷ (written_in (codes "A") (codes "m") (codes "nothing \"none\"") (told (codes "nothing") [] ((codes "\"none\"") ∷ []) [] (lines []) []))
    ∷ [])
    ([])

-- its comments stay in the head
abbrev pub emptied_inlined : ImageOf Text
emptied_inlined =
    image_with [] false
    ((written_in (codes "A") (codes "m") (codes "go\n\t\"a\"\n\t\"b\"\n\t2 foo") (told (codes "go") [] ((codes "\"a\"") ∷ (codes "\"b\"") ∷ []) [] (lines ((unary (numeral (codes "2")) (codes "foo")) ∷ [])) []))
    ∷ (written_in (codes "A") (codes "m") (codes "nothing \"none\"") (told (codes "nothing") [] ((codes "\"none\"") ∷ []) [] (lines []) []))
    ∷ [])
    ([])

-- two statements and their comments
abbrev pub running : ImageOf Text
running =
    image_with [] false
    ((written_in (codes "A") (codes "m") (codes "go: a | t | \"one\" t := a foo. \"two\" a bar. a baz: [:t2 | \"three\" t2 foo. t2 bar. t2 baz]") (told (codes "go:") ((codes "a") ∷ []) [] ((codes "t") ∷ []) (more_statements ((codes "\"one\"") ∷ []) (assign (codes "t") (unary (name (codes "a")) (codes "foo"))) (more_statements ((codes "\"two\"") ∷ []) (unary (name (codes "a")) (codes "bar")) (more_statements [] (asked (name (codes "a")) (codes "baz:") ((block ((codes "t2") ∷ []) [] (more_statements ((codes "\"three\"") ∷ []) (unary (name (codes "t2")) (codes "foo")) (more_statements [] (unary (name (codes "t2")) (codes "bar")) (more_statements [] (unary (name (codes "t2")) (codes "baz")) no_statements))) []) ∷ [])) no_statements))) []))
    ∷ [])
    ([])

-- two statements of the block are a method; their comments go along
abbrev pub running_extracted : ImageOf Text
running_extracted =
    image_with [] false
    ((written_in (codes "A") (codes "m") (codes "go: a\n\t| t |\n\t\"one\"\n\tt := a foo.\n\t\"two\"\n\ta bar.\n\ta baz: [:t2 |\n\t\tself run: t2.\n\t\tt2 baz]") (told (codes "go:") ((codes "a") ∷ []) [] ((codes "t") ∷ []) (more_statements ((codes "\"one\"") ∷ []) (assign (codes "t") (unary (name (codes "a")) (codes "foo"))) (more_statements ((codes "\"two\"") ∷ []) (unary (name (codes "a")) (codes "bar")) (more_statements [] (asked (name (codes "a")) (codes "baz:") ((block ((codes "t2") ∷ []) [] (lines ((asked (name (codes "self")) (codes "run:") ((name (codes "t2")) ∷ [])) ∷ (unary (name (codes "t2")) (codes "baz")) ∷ [])) []) ∷ [])) no_statements))) []))
    ∷ (written_in (codes "A") (codes "m") (codes "run: t2\n\t\"three\"\n\tt2 foo.\n\tt2 bar") (told (codes "run:") ((codes "t2") ∷ []) ((codes "\"three\"") ∷ []) [] (lines ((unary (name (codes "t2")) (codes "foo")) ∷ (unary (name (codes "t2")) (codes "bar")) ∷ [])) []))
    ∷ [])
    ([])

-- a parameter has the name of no other declaration
abbrev pub renaming : ImageOf Text
renaming =
    image_with [] false
    ((written_in (codes "A") (codes "m") (codes "go: a | t | t := [:b | b foo: a. t]. ^t") (told (codes "go:") ((codes "a") ∷ []) [] ((codes "t") ∷ []) (lines ((assign (codes "t") (block ((codes "b") ∷ []) [] (lines ((asked (name (codes "b")) (codes "foo:") ((name (codes "a")) ∷ [])) ∷ (name (codes "t")) ∷ [])) [])) ∷ (return (name (codes "t"))) ∷ [])) []))
    ∷ [])
    ([])

-- it is called c
abbrev pub renaming_done : ImageOf Text
renaming_done =
    image_with [] false
    ((written_in (codes "A") (codes "m") (codes "go: a\n\t| t |\n\tt := [:c |\n\t\tc foo: a.\n\t\tt].\n\t^t") (told (codes "go:") ((codes "a") ∷ []) [] ((codes "t") ∷ []) (lines ((assign (codes "t") (block ((codes "c") ∷ []) [] (lines ((asked (name (codes "c")) (codes "foo:") ((name (codes "a")) ∷ [])) ∷ (name (codes "t")) ∷ [])) [])) ∷ (return (name (codes "t"))) ∷ [])) []))
    ∷ [])
    ([])
