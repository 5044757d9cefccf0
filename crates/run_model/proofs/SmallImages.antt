-- Small images for examples: a kernel of a few classes, and short ways to write trees.
use Rattle.std.specs.Prelude.{ℕ, List, [], ◌∷◌, ◌++◌, Bool, true, false, Option, Some, None, codes}
use Rattle.tree_model.specs.Tree.{TreeOf, var, literal, send, block, return, no_trees, more_trees, StatementsOf, no_statements, more_statements, SequenceOf, number, str}
use Rattle.image_model.specs.Image.{ClassOf, EntryOf, DoItOf, ImageOf}
use Rattle.run_model.specs.Values.{Name}

-- trees over texts
abbrev pub Tree : Type 0
Tree = TreeOf Name

-- a class with instance variables and class-instance variables
abbrev pub class_with : Name → Option Name → List Name → List Name → ClassOf Name
class_with n above fields own = record { name = n; superclass = above; instance = fields; shared = []; class_side = own; category = []; comment = []; kernel = true }

-- a class below `Object`
abbrev pub plain_class : Name → ClassOf Name
plain_class n = class_with n (Some (codes "Object")) [] []

-- statements
abbrev pub body_of : List Tree → StatementsOf Name
body_of [] = no_statements
body_of (t ∷ ts) = more_statements [] t (body_of ts)

-- a sequence
abbrev pub sequence_of : List Name → List Tree → SequenceOf Name
sequence_of temporaries ts = record { temporaries = temporaries; statements = body_of ts; tail = [] }

-- a method of a class and a side with arguments, a primitive or none, temporaries and statements
abbrev pub method_of : Name → Bool → Name → List Name → Option ℕ → List Name → List Tree → EntryOf Name
method_of c meta s arguments p temporaries ts =
    record { class = Some c; meta = meta; protocol = []; source = []; tree = record { selector = s; arguments = arguments; head = []; primitive = p; body = sequence_of temporaries ts }; kernel = true }

-- a method of the instance side that is a primitive
abbrev pub primitive_of : Name → Name → List Name → ℕ → EntryOf Name
primitive_of c s arguments p = method_of c false s arguments (Some p) [] []

-- a method of the instance side with one statement
abbrev pub simple_method : Name → Name → List Name → Tree → EntryOf Name
simple_method c s arguments t = method_of c false s arguments None [] (t ∷ [])

-- a method of the class side with one statement
abbrev pub class_method : Name → Name → Tree → EntryOf Name
class_method c s t = method_of c true s [] None [] (t ∷ [])

-- a do-it
abbrev pub doit_of : List Name → List Tree → DoItOf Name
doit_of temporaries ts = record { source = []; body = sequence_of temporaries ts }

-- an integer, spelled so
abbrev pub int : Name → Tree
int t = literal (number t)

-- a string
abbrev pub string : Name → Tree
string t = literal (str t)

-- a send without arguments
abbrev pub unary : Tree → Name → Tree
unary r s = send r s no_trees

-- a send with one argument
abbrev pub binary : Tree → Name → Tree → Tree
binary r s t = send r s (more_trees t no_trees)

-- a send with two arguments
abbrev pub ternary : Tree → Name → Tree → Tree → Tree
ternary r s t u = send r s (more_trees t (more_trees u no_trees))

-- a block without parameters and temporaries
abbrev pub block_of : List Tree → Tree
block_of ts = block [] [] (body_of ts) []

-- the kernel of the examples
abbrev pub kernel_classes : List (ClassOf Name)
kernel_classes =
    class_with (codes "Object") None [] [] ∷ plain_class (codes "UndefinedObject") ∷ plain_class (codes "Integer") ∷ plain_class (codes "Array")
    ∷ plain_class (codes "Block") ∷ plain_class (codes "Class") ∷ plain_class (codes "TextCollector") ∷ []

-- its methods
abbrev pub kernel_methods : List (EntryOf Name)
kernel_methods =
    primitive_of (codes "Object") (codes "==") (codes "x" ∷ []) 1
    ∷ primitive_of (codes "Object") (codes "isKindOf:") (codes "c" ∷ []) 3
    ∷ primitive_of (codes "Object") (codes "error:") (codes "t" ∷ []) 5
    ∷ primitive_of (codes "Class") (codes "new") [] 7
    ∷ primitive_of (codes "Integer") (codes "+") (codes "x" ∷ []) 10
    ∷ primitive_of (codes "Integer") (codes "-") (codes "x" ∷ []) 11
    ∷ primitive_of (codes "Integer") (codes "*") (codes "x" ∷ []) 12
    ∷ primitive_of (codes "Integer") (codes "//") (codes "x" ∷ []) 13
    ∷ primitive_of (codes "Integer") (codes "\\\\") (codes "x" ∷ []) 14
    ∷ primitive_of (codes "Integer") (codes "/") (codes "x" ∷ []) 15
    ∷ primitive_of (codes "Integer") (codes "<") (codes "x" ∷ []) 16
    ∷ primitive_of (codes "Integer") (codes "bitAnd:") (codes "x" ∷ []) 18
    ∷ primitive_of (codes "Integer") (codes "bitShift:") (codes "x" ∷ []) 20
    ∷ primitive_of (codes "Integer") (codes "printString") [] 21
    ∷ primitive_of (codes "Array") (codes "at:") (codes "i" ∷ []) 31
    ∷ primitive_of (codes "Array") (codes "at:put:") (codes "i" ∷ codes "x" ∷ []) 32
    ∷ primitive_of (codes "Array") (codes ",") (codes "x" ∷ []) 33
    ∷ primitive_of (codes "Block") (codes "value") [] 50
    ∷ primitive_of (codes "Block") (codes "value:") (codes "a" ∷ []) 51
    ∷ primitive_of (codes "TextCollector") (codes "show:") (codes "t" ∷ []) 60
    ∷ primitive_of (codes "TextCollector") (codes "print:") (codes "x" ∷ []) 61
    ∷ simple_method (codes "TextCollector") (codes "cr") [] (return (binary (var (codes "self")) (codes "show:") (string (10 ∷ [])))) ∷ []

-- the kernel with further classes and methods, and do-its
abbrev pub image_with : List (ClassOf Name) → List (EntryOf Name) → List (DoItOf Name) → ImageOf Name
image_with classes methods doits = record { classes = kernel_classes ++ classes; methods = kernel_methods ++ methods; doits = doits; heads = 0 }

-- the kernel and one do-it of one statement
abbrev pub image_for : Tree → ImageOf Name
image_for t = image_with [] [] (doit_of [] (t ∷ []) ∷ [])
