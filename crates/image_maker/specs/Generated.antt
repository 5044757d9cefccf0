-- The image of n classes and methods, the script that renames them, and the expression that runs the last method.
use Rattle.std.specs.Prelude.{ℕ, zero, suc, ◌+◌, ◌/◌, ◌==◌, List, [], ◌++◌, codes, if◌then◌else◌, min}
use Rattle.std.specs.Fmt.{decimal}

-- the pieces of the numbers from 1 to n, one after the other
abbrev pub pieces : (ℕ → List ℕ) → ℕ → List ℕ
pieces piece zero = []
pieces piece (suc n) = pieces piece n ++ piece (n + 1)

-- a text, and a number behind it
abbrev pub numbered : List ℕ → ℕ → List ℕ
numbered text i = text ++ decimal i

-- the name of a class
abbrev pub class_name : ℕ → List ℕ
class_name i = numbered (codes "C") i

-- the superclass of a class is the class of half its number, and the superclass of the first is `Object`
abbrev pub superclass_name : ℕ → List ℕ
superclass_name i = if i == 1 then codes "Object" else (class_name (i / 2))

-- the definition of a class
abbrev pub definition_text : ℕ → List ℕ
definition_text i =
    superclass_name i ++ numbered (codes " subclass: #C") i
    ++ codes "\n\tinstanceVariableNames: ''\n\tclassVariableNames: ''\n\tpoolDictionaries: ''\n\tcategory: 'Demo'!\n\n"

-- what a method answers: the first one 1, and each other one the sum of its number and what the method of half its number answers
abbrev pub body_text : ℕ → List ℕ
body_text i = if i == 1 then codes "1" else (numbered (codes "self m") (i / 2) ++ numbered (codes " + ") i)

-- the source of a method, on one line
abbrev pub source_text : ℕ → List ℕ
source_text i = numbered (codes "m") i ++ codes " ^" ++ body_text i

-- a run of one method
abbrev pub run_text : ℕ → List ℕ
run_text i = numbered (codes "!C") i ++ codes " methodsFor: 'demo'!\n" ++ source_text i ++ codes "! !\n\n"

-- the image: the definitions of its classes, and a run for each method
abbrev pub image_text : ℕ → List ℕ
image_text n = pieces definition_text n ++ pieces run_text n

-- the line that renames what has a number
abbrev pub renaming_line : (old new : List ℕ) → ℕ → List ℕ
renaming_line old new i = numbered old i ++ numbered new i ++ codes "\n"

-- the lines that rename a class and a method
abbrev pub command_lines : ℕ → List ℕ
command_lines i = renaming_line (codes "renameClass C") (codes " D") i ++ renaming_line (codes "renameSelector m") (codes " k") i

-- the script: such lines for the first hundred classes and methods
abbrev pub script_text : ℕ → List ℕ
script_text n = pieces command_lines (min n 100)

-- the expression: a new object of the last class is sent the last method's selector
abbrev pub expression_text : ℕ → List ℕ
expression_text n = numbered (codes "C") n ++ numbered (codes " new m") n
