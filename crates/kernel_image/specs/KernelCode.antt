-- The methods of the kernel, as trees.
use Prim.Native.String.{String}
use Rattle.std.specs.Prelude.{List, [], ◌∷◌, map, flat_map, Bool, true, false, Some, codes}
use Rattle.tree_model.specs.Tree.{cascade, return, no_messages, MethodOf}
use Rattle.text_model.specs.Whole.{canonical_method}
use Rattle.image_model.specs.Image.{EntryOf, ImageOf}
use Rattle.file_model.specs.Filing.{Text}
use Rattle.kernel_image.specs.KernelClasses.{kernel_classes}
use Rattle.kernel_image.specs.KernelTrees.{name, self, numeral, quoted, unary, one, more, sends, sets, inside, block_of, each, primitive, method, does, answers}

-- Object
abbrev object_code : List (MethodOf Text)
object_code =
    answers "=" ("x" ∷ []) (one self "==" (name "x"))
    ∷ answers "~=" ("x" ∷ []) (unary (one self "=" (name "x")) "not")
    ∷ primitive 1 "==" ("x" ∷ [])
    ∷ answers "~~" ("x" ∷ []) (unary (one self "==" (name "x")) "not")
    ∷ primitive 2 "class" []
    ∷ primitive 3 "isKindOf:" ("c" ∷ [])
    ∷ answers "isMemberOf:" ("c" ∷ []) (one (unary self "class") "==" (name "c"))
    ∷ answers "isNil" [] (name "false")
    ∷ answers "notNil" [] (name "true")
    ∷ answers "isString" [] (name "false")
    ∷ answers "isInteger" [] (name "false")
    ∷ answers "yourself" [] self
    ∷ primitive 4 "shallowCopy" []
    ∷ answers "copy" [] (unary self "shallowCopy")
    ∷ primitive 5 "error:" ("t" ∷ [])
    ∷ answers "subclassResponsibility" [] (one self "error:" (quoted "subclass responsibility"))
    ∷ answers "printString" [] (quoted "an object")
    ∷ answers "displayString" [] (unary self "printString")
    ∷ answers "->" ("v" ∷ []) (more (name "Association") "key:value:" (self ∷ name "v" ∷ []))
    ∷ primitive 6 "perform:" ("a" ∷ [])
    ∷ primitive 6 "perform:with:" ("a" ∷ "b" ∷ [])
    ∷ primitive 6 "perform:with:with:" ("a" ∷ "b" ∷ "c" ∷ [])
    ∷ primitive 6 "perform:with:with:with:" ("a" ∷ "b" ∷ "c" ∷ "d" ∷ [])
    ∷ primitive 6 "perform:withArguments:" ("a" ∷ "b" ∷ [])
    ∷ primitive 6 "instVarAt:" ("a" ∷ [])
    ∷ primitive 6 "instVarAt:put:" ("a" ∷ "b" ∷ [])
    ∷ primitive 6 "instVarNamed:" ("a" ∷ [])
    ∷ primitive 6 "instVarNamed:put:" ("a" ∷ "b" ∷ [])
    ∷ primitive 6 "become:" ("a" ∷ [])
    ∷ primitive 6 "becomeForward:" ("a" ∷ [])
    ∷ primitive 6 "respondsTo:" ("a" ∷ [])
    ∷ primitive 6 "canUnderstand:" ("a" ∷ [])
    ∷ primitive 6 "allInstances" []
    ∷ primitive 6 "allSubclasses" []
    ∷ primitive 6 "subclasses" []
    ∷ primitive 6 "superclass" []
    ∷ primitive 6 "selectors" []
    ∷ primitive 6 "includesSelector:" ("a" ∷ [])
    ∷ primitive 6 "compile:" ("a" ∷ [])
    ∷ primitive 6 "compile:classified:" ("a" ∷ "b" ∷ [])
    ∷ primitive 6 "evaluate:" ("a" ∷ [])
    ∷ []

-- UndefinedObject
abbrev undefined_object_code : List (MethodOf Text)
undefined_object_code =
    answers "isNil" [] (name "true")
    ∷ answers "notNil" [] (name "false")
    ∷ answers "printString" [] (quoted "nil")
    ∷ []

-- True
abbrev true_code : List (MethodOf Text)
true_code =
    answers "not" [] (name "false")
    ∷ answers "&" ("b" ∷ []) (name "b")
    ∷ answers "|" ("b" ∷ []) (name "true")
    ∷ answers "and:" ("b" ∷ []) (unary (name "b") "value")
    ∷ answers "or:" ("b" ∷ []) (name "true")
    ∷ answers "ifTrue:" ("a" ∷ []) (unary (name "a") "value")
    ∷ answers "ifFalse:" ("a" ∷ []) (name "nil")
    ∷ answers "ifTrue:ifFalse:" ("a" ∷ "b" ∷ []) (unary (name "a") "value")
    ∷ answers "ifFalse:ifTrue:" ("a" ∷ "b" ∷ []) (unary (name "b") "value")
    ∷ answers "printString" [] (quoted "true")
    ∷ []

-- False
abbrev false_code : List (MethodOf Text)
false_code =
    answers "not" [] (name "true")
    ∷ answers "&" ("b" ∷ []) (name "false")
    ∷ answers "|" ("b" ∷ []) (name "b")
    ∷ answers "and:" ("b" ∷ []) (name "false")
    ∷ answers "or:" ("b" ∷ []) (unary (name "b") "value")
    ∷ answers "ifTrue:" ("a" ∷ []) (name "nil")
    ∷ answers "ifFalse:" ("a" ∷ []) (unary (name "a") "value")
    ∷ answers "ifTrue:ifFalse:" ("a" ∷ "b" ∷ []) (unary (name "b") "value")
    ∷ answers "ifFalse:ifTrue:" ("a" ∷ "b" ∷ []) (unary (name "a") "value")
    ∷ answers "printString" [] (quoted "false")
    ∷ []

-- Magnitude
abbrev magnitude_code : List (MethodOf Text)
magnitude_code =
    answers ">" ("x" ∷ []) (one (name "x") "<" self)
    ∷ answers "<=" ("x" ∷ []) (unary (one (name "x") "<" self) "not")
    ∷ answers ">=" ("x" ∷ []) (unary (one self "<" (name "x")) "not")
    ∷ answers "max:" ("x" ∷ []) (more (one self "<" (name "x")) "ifTrue:ifFalse:" (block_of (name "x") ∷ block_of self ∷ []))
    ∷ answers "min:" ("x" ∷ []) (more (one self "<" (name "x")) "ifTrue:ifFalse:" (block_of self ∷ block_of (name "x") ∷ []))
    ∷ answers "between:and:" ("a" ∷ "b" ∷ []) (one (one (name "a") "<=" self) "and:" (block_of (one self "<=" (name "b"))))
    ∷ []

-- Character
abbrev character_code : List (MethodOf Text)
character_code =
    primitive 41 "value" []
    ∷ answers "<" ("x" ∷ []) (one (unary self "value") "<" (unary (name "x") "value"))
    ∷ answers "asInteger" [] (unary self "value")
    ∷ primitive 42 "asString" []
    ∷ primitive 43 "printString" []
    ∷ []

-- timesRepeat: of Integer
abbrev integer_times_repeat : MethodOf Text
integer_times_repeat =
    method "timesRepeat:" ("b" ∷ []) ("i" ∷ []) (
    sets "i" (numeral "1")
    ∷ one (block_of (one (name "i") "<=" self)) "whileTrue:" (inside [] (unary (name "b") "value" ∷ sets "i" (one (name "i") "+" (numeral "1")) ∷ []))
    ∷ [])

-- to:do: of Integer
abbrev integer_to_do : MethodOf Text
integer_to_do =
    method "to:do:" ("n" ∷ "b" ∷ []) ("i" ∷ []) (
    sets "i" self
    ∷ one (block_of (one (name "i") "<=" (name "n"))) "whileTrue:" (inside [] (one (name "b") "value:" (name "i") ∷ sets "i" (one (name "i") "+" (numeral "1")) ∷ []))
    ∷ [])

-- Integer
abbrev integer_code : List (MethodOf Text)
integer_code =
    primitive 10 "+" ("x" ∷ [])
    ∷ primitive 11 "-" ("x" ∷ [])
    ∷ primitive 12 "*" ("x" ∷ [])
    ∷ primitive 13 "//" ("x" ∷ [])
    ∷ primitive 14 "\\\\" ("x" ∷ [])
    ∷ primitive 15 "/" ("x" ∷ [])
    ∷ primitive 16 "<" ("x" ∷ [])
    ∷ primitive 18 "bitAnd:" ("x" ∷ [])
    ∷ primitive 19 "bitOr:" ("x" ∷ [])
    ∷ primitive 20 "bitShift:" ("x" ∷ [])
    ∷ primitive 21 "printString" []
    ∷ primitive 22 "asCharacter" []
    ∷ answers "asInteger" [] self
    ∷ answers "isInteger" [] (name "true")
    ∷ answers "negated" [] (one (numeral "0") "-" self)
    ∷ answers "abs" [] (more (one self "<" (numeral "0")) "ifTrue:ifFalse:" (block_of (one (numeral "0") "-" self) ∷ block_of self ∷ []))
    ∷ answers "even" [] (one (one self "\\\\" (numeral "2")) "=" (numeral "0"))
    ∷ answers "odd" [] (one (one self "\\\\" (numeral "2")) "=" (numeral "1"))
    ∷ integer_times_repeat
    ∷ integer_to_do
    ∷ []

-- includes: of Collection
abbrev collection_includes : MethodOf Text
collection_includes =
    method "includes:" ("x" ∷ []) [] (
    one self "do:" (each "e" (one (one (name "e") "=" (name "x")) "ifTrue:" (block_of (return (name "true")))))
    ∷ return (name "false")
    ∷ [])

-- inject:into: of Collection
abbrev collection_inject_into : MethodOf Text
collection_inject_into =
    method "inject:into:" ("v" ∷ "b" ∷ []) ("a" ∷ []) (
    sets "a" (name "v")
    ∷ one self "do:" (each "e" (sets "a" (more (name "b") "value:value:" (name "a" ∷ name "e" ∷ []))))
    ∷ return (name "a")
    ∷ [])

-- detect:ifNone: of Collection
abbrev collection_detect_if_none : MethodOf Text
collection_detect_if_none =
    method "detect:ifNone:" ("b" ∷ "n" ∷ []) [] (
    one self "do:" (each "e" (one (one (name "b") "value:" (name "e")) "ifTrue:" (block_of (return (name "e")))))
    ∷ return (unary (name "n") "value")
    ∷ [])

-- select: of Collection
abbrev collection_select : MethodOf Text
collection_select =
    method "select:" ("b" ∷ []) ("r" ∷ []) (
    sets "r" (unary (name "OrderedCollection") "new")
    ∷ one self "do:" (each "e" (one (one (name "b") "value:" (name "e")) "ifTrue:" (block_of (one (name "r") "add:" (name "e")))))
    ∷ return (name "r")
    ∷ [])

-- collect: of Collection
abbrev collection_collect : MethodOf Text
collection_collect =
    method "collect:" ("b" ∷ []) ("r" ∷ []) (
    sets "r" (unary (name "OrderedCollection") "new")
    ∷ one self "do:" (each "e" (one (name "r") "add:" (one (name "b") "value:" (name "e"))))
    ∷ return (name "r")
    ∷ [])

-- Collection
abbrev collection_code : List (MethodOf Text)
collection_code =
    answers "do:" ("b" ∷ []) (unary self "subclassResponsibility")
    ∷ answers "isEmpty" [] (one (unary self "size") "=" (numeral "0"))
    ∷ answers "notEmpty" [] (unary (unary self "isEmpty") "not")
    ∷ collection_includes
    ∷ collection_inject_into
    ∷ collection_detect_if_none
    ∷ collection_select
    ∷ collection_collect
    ∷ []

-- indexOf: of ArrayedCollection
abbrev arrayed_collection_index_of : MethodOf Text
arrayed_collection_index_of =
    method "indexOf:" ("x" ∷ []) [] (
    more (numeral "1") "to:do:" (unary self "size" ∷ each "i" (one (one (one self "at:" (name "i")) "=" (name "x")) "ifTrue:" (block_of (return (name "i")))) ∷ [])
    ∷ return (numeral "0")
    ∷ [])

-- ArrayedCollection
abbrev arrayed_collection_code : List (MethodOf Text)
arrayed_collection_code =
    primitive 30 "size" []
    ∷ primitive 31 "at:" ("i" ∷ [])
    ∷ primitive 33 "," ("x" ∷ [])
    ∷ primitive 34 "copyFrom:to:" ("a" ∷ "b" ∷ [])
    ∷ does "do:" ("b" ∷ []) (more (numeral "1") "to:do:" (unary self "size" ∷ each "i" (one (name "b") "value:" (one self "at:" (name "i"))) ∷ []))
    ∷ arrayed_collection_index_of
    ∷ answers "first" [] (one self "at:" (numeral "1"))
    ∷ answers "last" [] (one self "at:" (unary self "size"))
    ∷ []

-- String
abbrev string_code : List (MethodOf Text)
string_code =
    primitive 35 "<" ("x" ∷ [])
    ∷ answers "isString" [] (name "true")
    ∷ primitive 36 "asSymbol" []
    ∷ answers "asString" [] self
    ∷ primitive 37 "printString" []
    ∷ answers "displayString" [] self
    ∷ []

-- Symbol
abbrev symbol_code : List (MethodOf Text)
symbol_code =
    answers "asSymbol" [] self
    ∷ primitive 38 "asString" []
    ∷ primitive 39 "printString" []
    ∷ answers "displayString" [] (unary self "asString")
    ∷ []

-- equalItems: of Array
abbrev array_equal_items : MethodOf Text
array_equal_items =
    method "equalItems:" ("x" ∷ []) [] (
    more (numeral "1") "to:do:" (unary self "size" ∷ each "i" (one (one (one self "at:" (name "i")) "=" (one (name "x") "at:" (name "i"))) "ifFalse:" (block_of (return (name "false")))) ∷ [])
    ∷ return (name "true")
    ∷ [])

-- Array
abbrev array_code : List (MethodOf Text)
array_code =
    primitive 32 "at:put:" ("i" ∷ "x" ∷ [])
    ∷ answers "=" ("x" ∷ []) (one (one (name "x") "isKindOf:" (name "Array")) "and:" (block_of (one (one (unary self "size") "=" (unary (name "x") "size")) "and:" (block_of (one self "equalItems:" (name "x"))))))
    ∷ array_equal_items
    ∷ []

-- Array class
abbrev array_class_code : List (MethodOf Text)
array_class_code =
    primitive 40 "new:" ("n" ∷ [])
    ∷ answers "with:" ("a" ∷ []) (cascade (one self "new:" (numeral "1")) (sends "at:put:" (numeral "1" ∷ name "a" ∷ []) (sends "yourself" [] no_messages)))
    ∷ answers "with:with:" ("a" ∷ "b" ∷ []) (cascade (one self "new:" (numeral "2")) (sends "at:put:" (numeral "1" ∷ name "a" ∷ []) (sends "at:put:" (numeral "2" ∷ name "b" ∷ []) (sends "yourself" [] no_messages))))
    ∷ []

-- setUp of OrderedCollection
abbrev ordered_collection_set_up : MethodOf Text
ordered_collection_set_up =
    method "setUp" [] [] (
    sets "array" (one (name "Array") "new:" (numeral "4"))
    ∷ sets "tally" (numeral "0")
    ∷ [])

-- add: of OrderedCollection
abbrev ordered_collection_add : MethodOf Text
ordered_collection_add =
    method "add:" ("x" ∷ []) [] (
    one (one (name "tally") "=" (unary (name "array") "size")) "ifTrue:" (block_of (sets "array" (one (name "array") "," (one (name "Array") "new:" (name "tally")))))
    ∷ sets "tally" (one (name "tally") "+" (numeral "1"))
    ∷ return (more (name "array") "at:put:" (name "tally" ∷ name "x" ∷ []))
    ∷ [])

-- at: of OrderedCollection
abbrev ordered_collection_at : MethodOf Text
ordered_collection_at =
    method "at:" ("i" ∷ []) [] (
    one (more (name "i") "between:and:" (numeral "1" ∷ name "tally" ∷ [])) "ifFalse:" (block_of (one self "error:" (quoted "no such index")))
    ∷ return (one (name "array") "at:" (name "i"))
    ∷ [])

-- removeLast of OrderedCollection
abbrev ordered_collection_remove_last : MethodOf Text
ordered_collection_remove_last =
    method "removeLast" [] ("x" ∷ []) (
    sets "x" (unary self "last")
    ∷ more (name "array") "at:put:" (name "tally" ∷ name "nil" ∷ [])
    ∷ sets "tally" (one (name "tally") "-" (numeral "1"))
    ∷ return (name "x")
    ∷ [])

-- OrderedCollection
abbrev ordered_collection_code : List (MethodOf Text)
ordered_collection_code =
    ordered_collection_set_up
    ∷ answers "size" [] (name "tally")
    ∷ ordered_collection_add
    ∷ ordered_collection_at
    ∷ does "do:" ("b" ∷ []) (more (numeral "1") "to:do:" (name "tally" ∷ each "i" (one (name "b") "value:" (one (name "array") "at:" (name "i"))) ∷ []))
    ∷ answers "first" [] (one self "at:" (numeral "1"))
    ∷ answers "last" [] (one self "at:" (name "tally"))
    ∷ ordered_collection_remove_last
    ∷ answers "asArray" [] (more (name "array") "copyFrom:to:" (numeral "1" ∷ name "tally" ∷ []))
    ∷ []

-- OrderedCollection class
abbrev ordered_collection_class_code : List (MethodOf Text)
ordered_collection_class_code =
    answers "new" [] (unary (unary (name "super") "new") "setUp")
    ∷ []

-- setKey:value: of Association
abbrev association_set_key_value : MethodOf Text
association_set_key_value =
    method "setKey:value:" ("k" ∷ "v" ∷ []) [] (
    sets "key" (name "k")
    ∷ sets "value" (name "v")
    ∷ [])

-- Association
abbrev association_code : List (MethodOf Text)
association_code =
    association_set_key_value
    ∷ answers "key" [] (name "key")
    ∷ answers "value" [] (name "value")
    ∷ does "value:" ("v" ∷ []) (sets "value" (name "v"))
    ∷ []

-- Association class
abbrev association_class_code : List (MethodOf Text)
association_class_code =
    answers "key:value:" ("k" ∷ "v" ∷ []) (more (unary self "new") "setKey:value:" (name "k" ∷ name "v" ∷ []))
    ∷ []

-- at:put: of Dictionary
abbrev dictionary_at_put : MethodOf Text
dictionary_at_put =
    method "at:put:" ("k" ∷ "v" ∷ []) [] (
    one (name "pairs") "do:" (each "p" (one (one (unary (name "p") "key") "=" (name "k")) "ifTrue:" (inside [] (one (name "p") "value:" (name "v") ∷ return (name "v") ∷ []))))
    ∷ one (name "pairs") "add:" (one (name "k") "->" (name "v"))
    ∷ return (name "v")
    ∷ [])

-- at:ifAbsent: of Dictionary
abbrev dictionary_at_if_absent : MethodOf Text
dictionary_at_if_absent =
    method "at:ifAbsent:" ("k" ∷ "b" ∷ []) [] (
    one (name "pairs") "do:" (each "p" (one (one (unary (name "p") "key") "=" (name "k")) "ifTrue:" (block_of (return (unary (name "p") "value")))))
    ∷ return (unary (name "b") "value")
    ∷ [])

-- Dictionary
abbrev dictionary_code : List (MethodOf Text)
dictionary_code =
    does "setUp" [] (sets "pairs" (unary (name "OrderedCollection") "new"))
    ∷ answers "size" [] (unary (name "pairs") "size")
    ∷ dictionary_at_put
    ∷ dictionary_at_if_absent
    ∷ answers "at:" ("k" ∷ []) (more self "at:ifAbsent:" (name "k" ∷ block_of (one self "error:" (quoted "no such key")) ∷ []))
    ∷ does "do:" ("b" ∷ []) (one (name "pairs") "do:" (each "p" (one (name "b") "value:" (unary (name "p") "value"))))
    ∷ does "keysDo:" ("b" ∷ []) (one (name "pairs") "do:" (each "p" (one (name "b") "value:" (unary (name "p") "key"))))
    ∷ []

-- Dictionary class
abbrev dictionary_class_code : List (MethodOf Text)
dictionary_class_code =
    answers "new" [] (unary (unary (name "super") "new") "setUp")
    ∷ []

-- whileTrue: of Block
abbrev block_while_true : MethodOf Text
block_while_true =
    method "whileTrue:" ("b" ∷ []) [] (
    one (block_of (unary self "value")) "whileTrue:" (block_of (unary (name "b") "value"))
    ∷ return (name "nil")
    ∷ [])

-- whileFalse: of Block
abbrev block_while_false : MethodOf Text
block_while_false =
    method "whileFalse:" ("b" ∷ []) [] (
    one (block_of (unary self "value")) "whileFalse:" (block_of (unary (name "b") "value"))
    ∷ return (name "nil")
    ∷ [])

-- Block
abbrev block_code : List (MethodOf Text)
block_code =
    primitive 50 "value" []
    ∷ primitive 51 "value:" ("a" ∷ [])
    ∷ primitive 52 "value:value:" ("a" ∷ "b" ∷ [])
    ∷ primitive 53 "value:value:value:" ("a" ∷ "b" ∷ "c" ∷ [])
    ∷ primitive 54 "numArgs" []
    ∷ block_while_true
    ∷ block_while_false
    ∷ []

-- Class
abbrev class_code : List (MethodOf Text)
class_code =
    primitive 6 "class" []
    ∷ primitive 7 "new" []
    ∷ primitive 7 "basicNew" []
    ∷ answers "printString" [] (quoted "a class")
    ∷ []

-- TextCollector
abbrev text_collector_code : List (MethodOf Text)
text_collector_code =
    primitive 60 "show:" ("t" ∷ [])
    ∷ primitive 61 "print:" ("x" ∷ [])
    ∷ answers "cr" [] (one self "show:" (quoted "\n"))
    ∷ answers "tab" [] (one self "show:" (quoted "\t"))
    ∷ answers "space" [] (one self "show:" (quoted " "))
    ∷ answers "display:" ("x" ∷ []) (one self "show:" (unary (name "x") "displayString"))
    ∷ []

-- the methods of a class on one side
pub record SideCode : Type 0 where
  pub class : Text
  pub meta : Bool
  pub methods : List (MethodOf Text)

abbrev of_class : String → List (MethodOf Text) → SideCode
of_class c methods = record { class = codes c; meta = false; methods = methods }

abbrev of_class_side : String → List (MethodOf Text) → SideCode
of_class_side c methods = record { class = codes c; meta = true; methods = methods }

-- the sides of classes that have methods, in order
unfoldable pub kernel_sides : List SideCode
kernel_sides =
    of_class "Object" object_code
    ∷ of_class "UndefinedObject" undefined_object_code
    ∷ of_class "True" true_code
    ∷ of_class "False" false_code
    ∷ of_class "Magnitude" magnitude_code
    ∷ of_class "Character" character_code
    ∷ of_class "Integer" integer_code
    ∷ of_class "Collection" collection_code
    ∷ of_class "ArrayedCollection" arrayed_collection_code
    ∷ of_class "String" string_code
    ∷ of_class "Symbol" symbol_code
    ∷ of_class "Array" array_code
    ∷ of_class_side "Array" array_class_code
    ∷ of_class "OrderedCollection" ordered_collection_code
    ∷ of_class_side "OrderedCollection" ordered_collection_class_code
    ∷ of_class "Association" association_code
    ∷ of_class_side "Association" association_class_code
    ∷ of_class "Dictionary" dictionary_code
    ∷ of_class_side "Dictionary" dictionary_class_code
    ∷ of_class "Block" block_code
    ∷ of_class "Class" class_code
    ∷ of_class "TextCollector" text_collector_code
    ∷ []

-- a method of a side, in the one protocol of the kernel; its source is its canonical text
abbrev pub entry_of : SideCode → MethodOf Text → EntryOf Text
entry_of side m = record {
  class = Some side.class;
  meta = side.meta;
  protocol = codes "kernel";
  source = canonical_method m;
  tree = m;
  kernel = true;
}

-- the methods of the kernel, in order
abbrev pub kernel_code : List (EntryOf Text)
kernel_code = flat_map (λ (side : SideCode). map (entry_of side) side.methods) kernel_sides

-- the image of the kernel: its classes and its methods, and no do-its
abbrev pub whole_kernel : ImageOf Text
whole_kernel = record { classes = kernel_classes; methods = kernel_code; doits = []; heads = 0 }
