-- Some chunks, one after the other, and the image that they make or the cause of their refusal, as file-outs have them.
use Rattle.std.specs.Prelude.{◌≡◌, List, [], ◌∷◌, ◌++◌, replicate, flat_map, Bool, true, false, codes, Some, None, Result, Ok, Err}
use Rattle.std.specs.Result.{result_map_both}
use Rattle.token_model.specs.declared.kind.Dialect.{Dialect}
use Rattle.token_model.specs.declared.kind.Dialect.TheVariants.{First, Second}
use Rattle.tree_model.specs.Tree.{str, symbol, TreeOf, var, literal, send, trees_of, no_trees, no_statements, more_statements, SequenceOf, MethodOf}
use Rattle.grammar_model.specs.Checks.{TooDeep}
use Rattle.image_model.specs.Image.{ClassOf, EntryOf, DoItOf, ImageOf}
use Rattle.file_model.specs.Causes.{Cause, UnknownSuperclass, Cycle, VariableTwice, KernelReplaced, UnknownClass, TooMany, PoolsNotEmpty, UnknownDefinition, Syntax}
use Rattle.file_model.specs.Forms.{definition_selector}
use Rattle.file_model.specs.Places.{placed}
use Rattle.rb_base.specs.Names.{text_eq}
use Rattle.file_model.specs.Filing.{Text, Filing, begun, Item, Blank, DoItChunk, MethodChunk, Faulty, taken}

-- what is left to take, once a chunk is taken
abbrev pub and_then : (Filing → Result Filing Cause) → Result Filing Cause → Result Filing Cause
and_then f (Ok g) = f g
and_then f (Err cause) = Err cause

-- chunks one after the other, from some place on
abbrev pub all_taken : Dialect → List Item → Filing → Result Filing Cause
all_taken d [] f = Ok f
all_taken d (x ∷ xs) f = and_then (all_taken d xs) (taken d false f x)

-- chunks behind an image, and what they make of it
pub record Row : Type 0 where
  pub dialect : Dialect
  pub before : ImageOf Text
  pub chunks : List Item
  pub after : Result (ImageOf Text) Cause

-- a row of a table
abbrev pub row : Dialect → ImageOf Text → List Item → Result (ImageOf Text) Cause → Row
row d i xs r = record { dialect = d; before = i; chunks = xs; after = r }

-- what the chunks of a row make by the definition
abbrev pub result_of : Row → Result (ImageOf Text) Cause
result_of r =
    result_map_both (λ (f : Filing). placed text_eq f.places f.image) (λ cause. cause)
    (all_taken r.dialect r.chunks (begun r.before))

-- each row is as the definition has it
abbrev pub AllMade : List Row → Type 0
AllMade [] = Unit {0}
AllMade (r ∷ rs) = (result_of r ≡ r.after) × AllMade rs

-- a sequence of one statement
abbrev pub statement : TreeOf Text → SequenceOf Text
statement t = record { temporaries = []; statements = more_statements [] t no_statements; tail = [] }

-- a chunk that is a message, with the empty text in place of its source
abbrev pub message : TreeOf Text → Text → List (TreeOf Text) → Item
message r s xs = DoItChunk [] (statement (send r s (trees_of xs)))

-- a string
abbrev pub string : Text → TreeOf Text
string t = literal (str t)

-- a symbol
abbrev pub name : Text → TreeOf Text
name t = literal (symbol t)

-- a class as a receiver
abbrev pub class : Text → TreeOf Text
class n = var n

-- a class side as a receiver
abbrev pub side : Text → TreeOf Text
side n = send (var n) (codes "class") no_trees

-- a definition of a class with pool dictionaries
abbrev pub pooled : Text → Text → Text → Text → Text → Item
pooled p n instance shared pools =
    message (class p) definition_selector (name n ∷ string instance ∷ string shared ∷ string pools ∷ string (codes "K") ∷ [])

-- a definition of a class
abbrev pub definition : Text → Text → Text → Text → Item
definition p n instance shared = pooled p n instance shared []

-- a definition of a class without variables
abbrev pub plain : Text → Text → Item
plain p n = definition p n [] []

-- a run of methods begins
abbrev pub run : TreeOf Text → Text → Item
run r protocol = message r (codes "methodsFor:") (string protocol ∷ [])

-- a unary method that does nothing, by its selector
abbrev pub method_tree : Text → MethodOf Text
method_tree s = record { selector = s; arguments = []; head = []; primitive = None; body = record { temporaries = []; statements = no_statements; tail = [] } }

-- such a method in a run, which is its own source
abbrev pub method : Text → Bool → Text → Text → Item
method c meta protocol s = MethodChunk (record { class = c; meta = meta; protocol = protocol }) s (method_tree s)

-- a do-it that is a name
abbrev pub doit : Text → Item
doit n = DoItChunk n (statement (var n))

-- a class without variables
abbrev pub made : Text → Text → ClassOf Text
made p n = record { name = n; superclass = Some p; instance = []; shared = []; class_side = []; category = codes "K"; comment = []; kernel = false }

-- the class Object
abbrev pub object : ClassOf Text
object = record { name = codes "Object"; superclass = None; instance = codes "o" ∷ []; shared = []; class_side = []; category = codes "K"; comment = []; kernel = true }

-- a method that does nothing, of the kernel or not
abbrev pub entry : Bool → Text → Bool → Text → Text → EntryOf Text
entry kernel c meta protocol s = record { class = Some c; meta = meta; protocol = protocol; source = s; tree = method_tree s; kernel = kernel }

-- a do-it that is a name, in an image
abbrev pub doit_made : Text → DoItOf Text
doit_made n = record { source = n; body = statement (var n) }

-- the image of the kernel: one class and one method
abbrev pub kernel : ImageOf Text
kernel = record { classes = object ∷ []; methods = entry true (codes "Object") false (codes "k") (codes "foo") ∷ []; doits = []; heads = 0 }

-- the kernel with further classes
abbrev pub with_classes : List (ClassOf Text) → ImageOf Text
with_classes cs = record kernel { classes = object ∷ cs }

-- the kernel with further methods and classes
abbrev pub with_methods : List (ClassOf Text) → List (EntryOf Text) → ImageOf Text
with_methods cs ms = record (with_classes cs) { methods = entry true (codes "Object") false (codes "k") (codes "foo") ∷ ms }

-- chunks that are refused
abbrev pub refused : List Item → Cause → Row
refused xs cause = row Second kernel xs (Err cause)

-- A, and B below it
abbrev pub two : List Item
two = plain (codes "Object") (codes "A") ∷ plain (codes "A") (codes "B") ∷ []

-- classes, variables, comments, methods and do-its
abbrev pub accepted : List Row
accepted =
    row Second kernel (doit (codes "a") ∷ Blank ∷ doit (codes "b") ∷ plain (codes "Object") (codes "A") ∷ doit (codes "c") ∷ [])
    (Ok (record (with_classes (made (codes "Object") (codes "A") ∷ [])) { doits = doit_made (codes "a") ∷ doit_made (codes "b") ∷ doit_made (codes "c") ∷ []; heads = 2 }))
    ∷ row Second kernel (plain (codes "Object") (codes "A") ∷ run (class (codes "A")) (codes "p") ∷ method (codes "A") false (codes "p") (codes "x") ∷ method (codes "A") false (codes "p") (codes "y") ∷ Blank ∷ run (side (codes "A")) (codes "q") ∷ method (codes "A") true (codes "q") (codes "x") ∷ [])
    (Ok (with_methods (made (codes "Object") (codes "A") ∷ []) (entry false (codes "A") false (codes "p") (codes "x") ∷ entry false (codes "A") false (codes "p") (codes "y") ∷ entry false (codes "A") true (codes "q") (codes "x") ∷ [])))
    ∷ row Second (with_methods (made (codes "Object") (codes "A") ∷ []) (entry false (codes "A") false (codes "p") (codes "x") ∷ entry false (codes "A") false (codes "p") (codes "y") ∷ []))
    (run (class (codes "A")) (codes "r") ∷ method (codes "A") false (codes "r") (codes "x") ∷ Blank ∷ message (class (codes "A")) (codes "removeSelector:") (name (codes "y") ∷ []) ∷ message (side (codes "A")) (codes "removeSelector:") (name (codes "x") ∷ []) ∷ [])
    (Ok (with_methods (made (codes "Object") (codes "A") ∷ []) (entry false (codes "A") false (codes "r") (codes "x") ∷ [])))
    ∷ row Second (with_methods (made (codes "Object") (codes "A") ∷ made (codes "Object") (codes "B") ∷ []) (entry false (codes "A") false (codes "p") (codes "x") ∷ entry false (codes "B") true (codes "p") (codes "x") ∷ []))
    (message (class (codes "Smalltalk")) (codes "removeClassNamed:") (name (codes "A") ∷ []) ∷ [])
    (Ok (with_methods (made (codes "Object") (codes "B") ∷ []) (entry false (codes "B") true (codes "p") (codes "x") ∷ [])))
    ∷ row Second kernel (two ++ plain (codes "Object") (codes "C") ∷ message (class (codes "A")) (codes "comment:") (string (codes "text") ∷ []) ∷ message (side (codes "A")) (codes "instanceVariableNames:") (string (codes " u  v") ∷ []) ∷ definition (codes "C") (codes "A") (codes "x") (codes "Y") ∷ [])
    (Ok (with_classes (made (codes "Object") (codes "C") ∷ record (made (codes "C") (codes "A")) { instance = codes "x" ∷ []; shared = codes "Y" ∷ []; class_side = codes "u" ∷ codes "v" ∷ []; comment = codes "text" } ∷ made (codes "A") (codes "B") ∷ [])))
    ∷ row First kernel (message (side (codes "Object")) (codes "instanceVariableNames:") (string (codes " ") ∷ []) ∷ message (send (side (codes "A")) (codes "class") no_trees) (codes "comment:") (string [] ∷ []) ∷ [])
    (Ok (record kernel { doits = record { source = []; body = statement (send (send (side (codes "A")) (codes "class") no_trees) (codes "comment:") (trees_of (string [] ∷ []))) } ∷ [] }))
    ∷ []

-- each cause but `Unended`
abbrev pub refusals : List Row
refusals =
    refused (plain (codes "A") (codes "A") ∷ []) UnknownSuperclass
    ∷ refused (plain (codes "nil") (codes "A") ∷ []) UnknownSuperclass
    ∷ refused (two ++ message (class (codes "Smalltalk")) (codes "removeClassNamed:") (name (codes "A") ∷ []) ∷ []) UnknownSuperclass
    ∷ refused (two ++ plain (codes "B") (codes "A") ∷ []) Cycle
    ∷ refused (two ++ plain (codes "A") (codes "A") ∷ []) Cycle
    ∷ refused (definition (codes "Object") (codes "A") (codes "o") [] ∷ []) VariableTwice
    ∷ refused (definition (codes "Object") (codes "A") (codes "x y x") [] ∷ []) VariableTwice
    ∷ refused (definition (codes "Object") (codes "A") [] (codes "X X") ∷ []) VariableTwice
    ∷ refused (plain (codes "Object") (codes "A") ∷ definition (codes "A") (codes "B") (codes "x") [] ∷ definition (codes "Object") (codes "A") (codes "x") [] ∷ []) VariableTwice
    ∷ refused (two ++ message (side (codes "B")) (codes "instanceVariableNames:") (string (codes "x") ∷ []) ∷ message (side (codes "A")) (codes "instanceVariableNames:") (string (codes "x") ∷ []) ∷ []) VariableTwice
    ∷ refused (plain (codes "Nobody") (codes "Object") ∷ []) KernelReplaced
    ∷ refused (message (class (codes "Object")) (codes "comment:") (string [] ∷ []) ∷ []) KernelReplaced
    ∷ refused (message (side (codes "Object")) (codes "instanceVariableNames:") (string (codes "x") ∷ []) ∷ []) KernelReplaced
    ∷ refused (message (class (codes "Object")) (codes "removeSelector:") (name (codes "foo") ∷ []) ∷ []) KernelReplaced
    ∷ refused (message (class (codes "Smalltalk")) (codes "removeClassNamed:") (name (codes "Object") ∷ []) ∷ []) KernelReplaced
    ∷ refused (run (class (codes "Object")) [] ∷ method (codes "Object") false [] (codes "foo") ∷ []) KernelReplaced
    ∷ refused (run (class (codes "Smalltalk")) [] ∷ []) UnknownClass
    ∷ refused (message (class (codes "A")) (codes "comment:") (string [] ∷ []) ∷ []) UnknownClass
    ∷ refused (message (class (codes "Smalltalk")) (codes "removeClassNamed:") (name (codes "foo:") ∷ []) ∷ []) UnknownClass
    ∷ refused (pooled (codes "Nobody") (codes "Object") [] [] (codes "P") ∷ []) PoolsNotEmpty
    ∷ refused (pooled (codes "Object") (codes "a b") [] [] (codes "P") ∷ []) UnknownDefinition
    ∷ refused (definition (codes "Object") (codes "A") (codes "a 3") [] ∷ []) UnknownDefinition
    ∷ refused (definition (codes "Object") (codes "A") (codes "a self") [] ∷ []) UnknownDefinition
    ∷ refused (definition (codes "Object") (codes "Object") (codes "a 3") [] ∷ []) UnknownDefinition
    ∷ refused (plain (codes "Object") (codes "Transcript") ∷ []) UnknownDefinition
    ∷ refused (message (class (codes "Foo")) (codes "removeClassNamed:") (name (codes "A") ∷ []) ∷ []) UnknownDefinition
    ∷ refused (message (class (codes "Foo")) (codes "comment:") (class (codes "nil") ∷ []) ∷ []) UnknownDefinition
    ∷ refused (message (side (codes "Foo")) (codes "comment:") (string [] ∷ []) ∷ []) UnknownDefinition
    ∷ refused (message (class (codes "Foo")) (codes "subclass:") (name (codes "A") ∷ []) ∷ []) UnknownDefinition
    ∷ row First kernel (message (side (codes "Object")) (codes "instanceVariableNames:") (string (codes "x") ∷ []) ∷ []) (Err UnknownDefinition)
    ∷ row Second (record kernel { classes = replicate 10000 object }) (plain (codes "Object") (codes "A") ∷ []) (Err TooMany)
    ∷ row Second (record kernel { methods = replicate 200000 (entry true (codes "A") false [] []) }) (run (class (codes "Object")) [] ∷ method (codes "Object") false [] (codes "x") ∷ []) (Err TooMany)
    ∷ refused (Faulty (TooDeep 7) ∷ []) (Syntax (TooDeep 7))
    ∷ []

-- an image with each thing that is written: do-its at the head and behind, a class with variables on both sides and a comment, and methods in three runs
abbrev pub written_image : ImageOf Text
written_image = record (with_methods
    (record (made (codes "Object") (codes "A")) { instance = codes "x" ∷ codes "y" ∷ []; class_side = codes "u" ∷ []; comment = codes "it's!" } ∷ made (codes "A") (codes "B") ∷ [])
    (entry false (codes "A") false (codes "p") (codes "x") ∷ entry false (codes "A") false (codes "p") (codes "!") ∷ entry false (codes "A") true (codes "p") (codes "x") ∷ entry false (codes "B") true (codes "p") (codes "x") ∷ []))
    { doits = doit_made (codes "a") ∷ doit_made (codes "b") ∷ []; heads = 1 }

-- lines, each with a line feed behind it
abbrev pub lines : List Text → Text
lines ls = flat_map (λ l. l ++ 10 ∷ []) ls

-- a line behind a tabulator
abbrev pub tabbed : Text → Text
tabbed l = 9 ∷ l

-- the text of that image
abbrev pub written_text : Text
written_text = lines (
    codes "a!" ∷ []
    ∷ codes "Object subclass: #A" ∷ tabbed (codes "instanceVariableNames: 'x y'") ∷ tabbed (codes "classVariableNames: ''") ∷ tabbed (codes "poolDictionaries: ''") ∷ tabbed (codes "category: 'K'!") ∷ []
    ∷ codes "A class instanceVariableNames: 'u'!" ∷ []
    ∷ codes "A comment: 'it''s!!'!" ∷ []
    ∷ codes "A subclass: #B" ∷ tabbed (codes "instanceVariableNames: ''") ∷ tabbed (codes "classVariableNames: ''") ∷ tabbed (codes "poolDictionaries: ''") ∷ tabbed (codes "category: 'K'!") ∷ []
    ∷ codes "!A methodsFor: 'p'!" ∷ codes "x!" ∷ [] ∷ codes "!!! !" ∷ []
    ∷ codes "!A class methodsFor: 'p'!" ∷ codes "x! !" ∷ []
    ∷ codes "!B class methodsFor: 'p'!" ∷ codes "x! !" ∷ []
    ∷ codes "b!" ∷ [] ∷ [])
