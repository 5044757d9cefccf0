-- Methods with their canonical texts.
use Rattle.std.specs.Prelude.{List, [], ◌∷◌, ◌++◌, Some, None, codes}
use Rattle.tree_model.specs.Tree.{number, str, symbol, char, array, bytes, word, literals_of, trees_of, literal, cascade, assign, brace, return, no_messages, no_statements}
use Rattle.text_examples.specs.Trees.{name, numeral, unary, one, more, sends, inside, line, noted, sequence, method, MethodRow, method_row}

-- the first part of the table
abbrev first_methods : List MethodRow
first_methods =
    method_row (method "at:put:" ("r2" ∷ "c" ∷ []) [] None (sequence ("a" ∷ "self" ∷ []) (no_statements) []))
    "at: r2 put: c\n\t| a self |" ∷
    method_row (method "bar" [] [] None (sequence [] (line (return (brace (trees_of ((one (assign (codes "x1") (inside [] [] (line (return (numeral "-1.5")) no_statements) [])) "at:" (literal (array (literals_of ((number (codes "16rFe2")) ∷ []))))) ∷ [])))) no_statements) []))
    "bar\n\t^{(x1 := [^-1.5]) at: #(16rFe2)}" ∷
    method_row (method "run" [] [] None (sequence [] (line (assign (codes "x") (unary (brace (trees_of ((numeral "3") ∷ (name "Z") ∷ []))) "isNil")) (line (return (one (one (one (numeral "1") "<" (name "self")) "and:" (inside [] [] (line (numeral "3") no_statements) [])) "whileTrue:" (inside [] ("w" ∷ []) (line (unary (numeral "0") "baz") (line (one (name "Transcript") "print:" (name "x")) (line (return (inside ("t" ∷ []) [] (line (one (name "self") "%" (name "z")) (line (name "Z") no_statements)) [])) no_statements))) []))) no_statements)) ("\"it's\"" ∷ [])))
    "run\n\tx := {3. Z} isNil.\n\t^(1 < self and: [3]) whileTrue: [\n\t\t| w |\n\t\t0 baz.\n\t\tTranscript print: x.\n\t\t^[:t |\n\t\t\tself % z.\n\t\t\tZ]]\n\t\"it's\"" ∷
    method_row (method "with:" ("n" ∷ []) [] None (sequence ("y" ∷ "w" ∷ []) (line (assign (codes "y") (unary (name "y") "run")) (line (one (name "Transcript") "display:" (unary (name "self") "bar")) (line (assign (codes "z") (unary (name "self") "asSymbol")) (line (return (unary (name "self") "bar")) no_statements)))) []))
    "with: n\n\t| y w |\n\ty := y run.\n\tTranscript display: self bar.\n\tz := self asSymbol.\n\t^self bar" ∷
    method_row (method "bar" [] [] None (sequence ("w" ∷ []) (line (assign (codes "w") (numeral "2")) (line (return (one (unary (name "w") "foo") "foo:" (numeral "2"))) no_statements)) []))
    "bar\n\t| w |\n\tw := 2.\n\t^w foo foo: 2" ∷
    method_row (method "foo" [] ("\"\"" ∷ []) None (sequence ("r2" ∷ "super" ∷ []) (line (return (inside ("e5" ∷ []) [] (line (name "self") no_statements) [])) no_statements) []))
    "foo\n\t\"\"\n\t| r2 super |\n\t^[:e5 | self]" ∷
    method_row (method "double" [] [] None (sequence [] (line (return (one (name "self") "+" (name "self"))) no_statements) []))
    "double\n\t^self + self" ∷
    method_row (method "mix" [] [] None (sequence [] (line (return (literal (array (literals_of ((number (codes "1")) ∷ (number (codes "-2")) ∷ (char 97) ∷ (str (codes "it's")) ∷ (symbol (codes "sym")) ∷ (symbol (codes "sym")) ∷ (symbol (codes "at:put:")) ∷ (symbol (codes "+")) ∷ (array (literals_of ((word (codes "nil")) ∷ (word (codes "true")) ∷ (array (literals_of ((word (codes "false")) ∷ []))) ∷ []))) ∷ (bytes (literals_of ((number (codes "1")) ∷ (number (codes "2")) ∷ []))) ∷ (symbol (codes "odd one")) ∷ []))))) no_statements) []))
    "mix\n\t^#(1 -2 $a 'it''s' #sym #sym #at:put: #+ #(nil true #(false)) #[1 2] #'odd one')" ∷
    method_row (method "half" [] [] None (sequence [] (line (return (more (name "Array") "with:with:" ((numeral "0.5") ∷ (numeral "1e3") ∷ []))) no_statements) []))
    "half\n\t^Array with: 0.5 with: 1e3" ∷
    method_row (method "mk" [] [] None (sequence [] (line (return (inside ("x" ∷ []) [] (line (one (unary (name "x") "isNil") "ifTrue:" (inside [] [] (line (return (numeral "1")) no_statements) [])) (line (return (name "items")) no_statements)) [])) no_statements) []))
    "mk\n\t^[:x |\n\t\tx isNil ifTrue: [^1].\n\t\t^items]" ∷
    method_row (method "total" [] [] None (sequence [] (line (one (unary (name "Total") "isNil") "ifTrue:" (inside [] [] (line (assign (codes "Total") (numeral "0")) no_statements) [])) (line (return (assign (codes "Total") (one (name "Total") "+" (unary (name "self") "count")))) no_statements)) []))
    "total\n\tTotal isNil ifTrue: [Total := 0].\n\t^Total := Total + self count" ∷
    method_row (method "again:" ("b" ∷ []) [] None (sequence [] (line (return (unary (name "b") "value")) no_statements) []))
    "again: b\n\t^b value" ∷
    method_row (method "count" [] [] None (sequence [] (line (return (more (unary (name "count") "isNil") "ifTrue:ifFalse:" ((inside [] [] (line (numeral "0") no_statements) []) ∷ (inside [] [] (line (name "count") no_statements) []) ∷ []))) no_statements) []))
    "count\n\t^count isNil ifTrue: [0] ifFalse: [count]" ∷
    method_row (method "next" [] [] None (sequence [] (line (return (name "next")) no_statements) []))
    "next\n\t^next" ∷
    method_row (method "ifTrue:" ("a" ∷ []) [] None (sequence [] (line (return (unary (name "a") "value")) no_statements) []))
    "ifTrue: a\n\t^a value" ∷
    method_row (method "," ("a" ∷ []) [] None (sequence [] (line (return (name "a")) no_statements) []))
    ", a\n\t^a" ∷
    method_row (method "foo:" ("a" ∷ []) [] None (sequence [] (line (return (name "a")) no_statements) []))
    "foo: a\n\t^a" ∷
    method_row (method "gresh:fresh:" ("x" ∷ "undef" ∷ []) [] None (sequence ("w" ∷ []) (line (assign (codes "w") (numeral "1")) (line (one (numeral "2") "foo:" (one (name "w") "foo:" (name "x"))) (line (assign (codes "w") (unary (name "self") "bar")) (line (assign (codes "k") (name "x")) no_statements)))) []))
    "gresh: x fresh: undef\n\t| w |\n\tw := 1.\n\t2 foo: (w foo: x).\n\tw := self bar.\n\tk := x" ∷
    method_row (method "foo" [] [] None (sequence [] (line (return (numeral "1")) no_statements) []))
    "foo\n\t^1" ∷
    method_row (method "value" [] [] None (sequence [] (line (return (name "self")) no_statements) []))
    "value\n\t^self" ∷
    []

-- the second part of the table
abbrev second_methods : List MethodRow
second_methods =
    method_row (method "%" ("a" ∷ []) [] None (sequence [] (line (return (name "a")) no_statements) []))
    "% a\n\t^a" ∷
    method_row (method "value:" ("a" ∷ []) [] None (sequence [] (line (return (name "a")) no_statements) []))
    "value: a\n\t^a" ∷
    method_row (method "*" ("a" ∷ []) [] None (sequence [] (line (return (numeral "7")) no_statements) []))
    "* a\n\t^7" ∷
    method_row (method "new" [] [] None (sequence [] (line (return (name "self")) no_statements) []))
    "new\n\t^self" ∷
    method_row (method "bar" [] [] None (sequence ("C" ∷ []) (line (assign (codes "C") (name "self")) (line (one (name "self") "with:" (name "C")) (line (assign (codes "Y") (more (name "super") "value:value:" ((brace (trees_of ((numeral "3") ∷ (name "C") ∷ []))) ∷ (inside [] ("t" ∷ []) (line (more (one (name "t") "=" (name "t")) "ifTrue:ifFalse:" ((inside [] [] (line (assign (codes "n") (name "C")) no_statements) []) ∷ (inside [] [] (line (one (name "Transcript") "print:" (name "n")) (line (name "C") no_statements)) []) ∷ [])) (line (name "t") no_statements)) []) ∷ []))) (line (return (name "A")) no_statements)))) []))
    "bar\n\t| C |\n\tC := self.\n\tself with: C.\n\tY := super value: {3. C} value: [\n\t\t| t |\n\t\tt = t ifTrue: [n := C] ifFalse: [\n\t\t\tTranscript print: n.\n\t\t\tC].\n\t\tt].\n\t^A" ∷
    method_row (method "up" [] [] None (sequence [] (line (return (assign (codes "count") (one (unary (name "self") "count") "+" (unary (name "self") "step")))) no_statements) []))
    "up\n\t^count := self count + self step" ∷
    method_row (method "step" [] ("\"_\"" ∷ []) None (sequence [] (line (return (more (unary (name "step") "isNil") "ifTrue:ifFalse:" ((inside [] [] (line (numeral "1") no_statements) []) ∷ (inside [] [] (line (name "step") no_statements) []) ∷ []))) no_statements) []))
    "step\n\t\"_\"\n\t^step isNil ifTrue: [1] ifFalse: [step]" ∷
    method_row (method "value:" ("v" ∷ []) [] None (sequence [] (line (assign (codes "value") (name "v")) no_statements) ("\"]_ $\u{c}\"" ∷ [])))
    "value: v\n\tvalue := v\n\t\"]_ $\u{c}\"" ∷
    method_row (method "value" [] [] None (sequence [] (line (return (one (unary (name "value") "isNil") "or:" (inside [] [] (line (name "value") no_statements) []))) no_statements) []))
    "value\n\t^value isNil or: [value]" ∷
    method_row (method "last" [] ("\"\"" ∷ []) None (sequence [] (line (return (more (unary (name "next") "isNil") "ifTrue:ifFalse:" ((inside [] [] (line (name "self") no_statements) []) ∷ (inside [] [] (line (unary (name "next") "last") no_statements) []) ∷ []))) no_statements) []))
    "last\n\t\"\"\n\t^next isNil ifTrue: [self] ifFalse: [next last]" ∷
    method_row (method "isMine" [] [] None (sequence [] (line (return (name "true")) no_statements) []))
    "isMine\n\t^true" ∷
    method_row (method "foo" [] [] None (sequence ("a" ∷ "self" ∷ []) (noted ("\"!\t\"" ∷ []) (name "foo") no_statements) ("\" \t \"" ∷ [])))
    "foo\n\t| a self |\n\t\"!\t\"\n\tfoo\n\t\" \t \"" ∷
    method_row (method "foo:" ("a" ∷ []) [] None (sequence ("super" ∷ []) (noted ("\"\"" ∷ []) (cascade (inside [] [] (line (return (name "self")) no_statements) []) (sends "at:" ((inside ("Foo" ∷ []) ("r2" ∷ "x1" ∷ "Transcript" ∷ []) (line (literal (bytes (literals_of ((number (codes "256")) ∷ [])))) no_statements) ("\"]\t\"" ∷ [])) ∷ []) (sends "whileTrue:" ((one (name "false") "whileTrue:" (name "r2")) ∷ []) (sends "primitive:" ((one (name "r2") "<" (literal (bytes (literals_of ((number (codes "00")) ∷ (number (codes "255")) ∷ []))))) ∷ []) no_messages)))) no_statements) []))
    "foo: a\n\t| super |\n\t\"\"\n\t[^self] at: [:Foo |\n\t\t| r2 x1 Transcript |\n\t\t#[256]\n\t\t\"]\t\"]; whileTrue: (false whileTrue: r2); primitive: r2 < #[00 255]" ∷
    method_row (method "baz" [] ("\"\"" ∷ []) None (sequence [] (no_statements) []))
    "baz\n\t\"\"" ∷
    method_row (method "registered" [] [] None (sequence [] (line (one (unary (name "all") "isNil") "ifTrue:" (inside [] [] (line (assign (codes "all") (unary (name "OrderedCollection") "new")) no_statements) [])) (line (return (one (name "all") "add:" (unary (name "self") "new"))) no_statements)) []))
    "registered\n\tall isNil ifTrue: [all := OrderedCollection new].\n\t^all add: self new" ∷
    method_row (method "move:to:with:" ("amount" ∷ "other" ∷ "fee" ∷ []) [] None (sequence ("moved" ∷ []) (line (assign (codes "moved") (one (name "self") "withdraw:" (one (name "amount") "+" (name "fee")))) (line (one (unary (name "moved") "isNil") "ifTrue:" (inside [] [] (line (return (name "false")) no_statements) [])) (line (one (name "other") "deposit:" (name "amount")) (line (return (name "true")) no_statements)))) []))
    "move: amount to: other with: fee\n\t| moved |\n\tmoved := self withdraw: amount + fee.\n\tmoved isNil ifTrue: [^false].\n\tother deposit: amount.\n\t^true" ∷
    method_row (method "owner" [] [] None (sequence [] (line (return (name "owner")) no_statements) []))
    "owner\n\t^owner" ∷
    method_row (method "allows:" ("amount" ∷ []) [] None (sequence [] (line (return (one (name "amount") "<=" (name "balance"))) no_statements) []))
    "allows: amount\n\t^amount <= balance" ∷
    method_row (method "at:put:" ("a" ∷ "b" ∷ []) [] None (sequence ("r2" ∷ "Transcript" ∷ []) (no_statements) ("\"it's\"" ∷ [])))
    "at: a put: b\n\t| r2 Transcript |\n\t\"it's\"" ∷
    method_row (method "at:put:" ("a" ∷ "r2" ∷ []) [] None (sequence [] (line (one (assign (codes "x1") (inside [] ("self" ∷ []) (no_statements) [])) "whileTrue:" (name "self")) no_statements) []))
    "at: a put: r2\n\t(x1 := [\n\t\t| self |]) whileTrue: self" ∷
    []

-- the third part of the table
abbrev third_methods : List MethodRow
third_methods =
    method_row (method "foo" [] ("\"]_#]\"" ∷ []) None (sequence [] (line (one (one (inside [] [] (no_statements) []) "ifTrue:" (unary (inside [] [] (noted ("\"\r\n\t\"" ∷ "\"\t\0\"" ∷ "\"!\"" ∷ []) (literal (symbol (codes "a:b"))) (line (return (literal (array (literals_of ([]))))) no_statements)) []) "value")) "primitive:" (one (cascade (more (name "nil") "ifTrue:ifFalse:" ((name "true") ∷ (literal (array (literals_of ((word (codes "false")) ∷ (number (codes "-1.5")) ∷ [])))) ∷ [])) (sends "whileTrue:" ((inside ("r2" ∷ "a" ∷ []) [] (no_statements) []) ∷ []) (sends "class" [] no_messages))) "primitive:" (unary (numeral "-0") "super"))) (line (return (name "e5")) no_statements)) ("\"\"" ∷ "\"\r\n\"" ∷ [])))
    "foo\n\t\"]_#]\"\n\t([] ifTrue: [\n\t\t\"\r\n\t\"\n\t\t\"\t\0\"\n\t\t\"!\"\n\t\t#'a:b'.\n\t\t^#()] value) primitive: (((nil ifTrue: true ifFalse: #(false -1.5)) whileTrue: [:r2 :a | ]; class) primitive: -0 super).\n\t^e5\n\t\"\"\n\t\"\r\n\"" ∷
    method_row (method "+" ("e5" ∷ []) ("\"\0 \"" ∷ "\"\n\"" ∷ []) None (sequence ("super" ∷ []) (no_statements) []))
    "+ e5\n\t\"\0 \"\n\t\"\n\"\n\t| super |" ∷
    method_row (method "|" ("Foo" ∷ []) [] None (sequence ("super" ∷ []) (line (unary (assign (codes "e5") (name "x1")) "nil") (line (name "thisContext") (line (assign (codes "foo") (one (numeral "-16rFF") "at:" (name "self"))) no_statements))) []))
    "| Foo\n\t| super |\n\t(e5 := x1) nil.\n\tthisContext.\n\tfoo := -16rFF at: self" ∷
    method_row (method "-" ("Transcript" ∷ []) ("\"TODO!!\"" ∷ "\"`'`\"" ∷ []) None (sequence [] (line (return (assign (codes "b") (unary (literal (array (literals_of ([])))) "e5"))) no_statements) ("\".!a\"" ∷ "\"\"" ∷ [])))
    "- Transcript\n\t\"TODO!!\"\n\t\"`'`\"\n\t^b := #() e5\n\t\".!a\"\n\t\"\"" ∷
    method_row (method "baz" [] [] None (sequence [] (line (one (one (literal (bytes (literals_of ((number (codes "99999999999999999999")) ∷ (number (codes "255")) ∷ [])))) "~=" (name "nil")) "-" (one (literal (bytes (literals_of ((number (codes "255")) ∷ [])))) "-" (name "self"))) no_statements) []))
    "baz\n\t#[99999999999999999999 255] ~= nil - (#[255] - self)" ∷
    method_row (method "at:put:" ("a" ∷ "b" ∷ []) [] None (sequence [] (line (brace (trees_of ((unary (one (more (literal (char 78)) "ifTrue:ifFalse:" ((name "true") ∷ (literal (bytes (literals_of ((number (codes "256")) ∷ (number (codes "0")) ∷ [])))) ∷ [])) "at:" (assign (codes "r2") (numeral "-007"))) "e5") ∷ []))) no_statements) []))
    "at: a put: b\n\t{(($N ifTrue: true ifFalse: #[256 0]) at: (r2 := -007)) e5}" ∷
    method_row (method "foo:" ("a" ∷ []) [] None (sequence [] (line (assign (codes "foo") (one (literal (char 23)) "whileTrue:" (name "thisContext"))) (noted ("\"a\"" ∷ []) (one (one (name "c") "|" (name "nil")) "<" (one (name "true") "primitive:" (name "self"))) (noted ("\"!\"" ∷ []) (one (name "b") "->" (name "false")) no_statements))) []))
    "foo: a\n\tfoo := $\u{17} whileTrue: thisContext.\n\t\"a\"\n\tc | nil < (true primitive: self).\n\t\"!\"\n\tb -> false" ∷
    method_row (method "baz" [] [] None (sequence [] (line (inside [] ("x1" ∷ []) (no_statements) ("\"a\0\0\"" ∷ "\"\n\"" ∷ [])) no_statements) []))
    "baz\n\t[\n\t\t| x1 |\n\t\t\"a\0\0\"\n\t\t\"\n\"]" ∷
    method_row (method "bar" [] [] None (sequence [] (line (name "true") no_statements) []))
    "bar\n\ttrue" ∷
    method_row (method "baz" [] [] None (sequence ("self" ∷ []) (line (one (one (literal (bytes (literals_of ((number (codes "256")) ∷ (number (codes "0")) ∷ [])))) "," (numeral "-1.5e-3")) "->" (brace (trees_of ((name "e5") ∷ [])))) (noted ("\"! \"" ∷ []) (return (inside [] ("Foo" ∷ "r2" ∷ "c" ∷ []) (line (one (name "false") "primitive:" (numeral "007")) no_statements) [])) no_statements)) []))
    "baz\n\t| self |\n\t#[256 0] , -1.5e-3 -> {e5}.\n\t\"! \"\n\t^[\n\t\t| Foo r2 c |\n\t\tfalse primitive: 007]" ∷
    method_row (method "+" ("c" ∷ []) [] None (sequence [] (line (inside ("x1" ∷ "super" ∷ []) [] (line (return (more (more (unary (name "true") "e5") "at:put:" ((name "self") ∷ (brace (trees_of ((name "nil") ∷ (name "thisContext") ∷ []))) ∷ [])) "at:put:" ((one (cascade (literal (array (literals_of ((number (codes "1")) ∷ (number (codes "1")) ∷ [])))) (sends "ifTrue:" ((literal (bytes (literals_of ([])))) ∷ []) (sends "," ((name "thisContext") ∷ []) no_messages))) "ifTrue:" (inside ("b" ∷ []) [] (noted ("\"``\u{c}_:\"" ∷ "\"\"" ∷ "\"\t]\"" ∷ []) (literal (bytes (literals_of ((number (codes "0")) ∷ [])))) (line (return (name "false")) no_statements)) [])) ∷ (inside [] ("Transcript" ∷ "Foo" ∷ "self" ∷ []) (line (unary (name "false") "e5") no_statements) []) ∷ []))) no_statements) []) no_statements) []))
    "+ c\n\t[:x1 :super |\n\t\t^(true e5 at: self put: {nil. thisContext}) at: ((#(1 1) ifTrue: #[]; , thisContext) ifTrue: [:b |\n\t\t\t\"``\u{c}_:\"\n\t\t\t\"\"\n\t\t\t\"\t]\"\n\t\t\t#[0].\n\t\t\t^false]) put: [\n\t\t\t| Transcript Foo self |\n\t\t\tfalse e5]]" ∷
    method_row (method "bar" [] ("\"\0 ]\"" ∷ []) None (sequence [] (no_statements) []))
    "bar\n\t\"\0 ]\"" ∷
    method_row (method "foo:" ("a" ∷ []) [] None (sequence [] (line (inside [] ("c" ∷ "Transcript" ∷ []) (no_statements) []) no_statements) ("\"\0\"" ∷ [])))
    "foo: a\n\t[\n\t\t| c Transcript |]\n\t\"\0\"" ∷
    method_row (method "mine:" ("x" ∷ []) [] None (sequence [] (line (return (one (name "x") "->" (name "self"))) no_statements) []))
    "mine: x\n\t^x -> self" ∷
    method_row (method "owner:" ("aName" ∷ []) [] None (sequence [] (line (assign (codes "owner") (name "aName")) (line (return (name "self")) no_statements)) []))
    "owner: aName\n\towner := aName.\n\t^self" ∷
    method_row (method "fee" [] [] None (sequence [] (line (return (one (unary (name "super") "fee") "+" (numeral "1"))) no_statements) []))
    "fee\n\t^super fee + 1" ∷
    method_row (method "self" [] [] None (sequence [] (line (unary (name "Foo") "e5") no_statements) ("\"\0a\n\"" ∷ "\" \0\n\"" ∷ [])))
    "self\n\tFoo e5\n\t\"\0a\n\"\n\t\" \0\n\"" ∷
    method_row (method "bar" [] [] None (sequence [] (no_statements) []))
    "bar" ∷
    method_row (method "foo" [] [] None (sequence [] (line (literal (symbol (codes "a:b"))) (noted ("\"!a.\"" ∷ "\"]!a\"" ∷ []) (inside ("r2" ∷ []) [] (no_statements) []) no_statements)) []))
    "foo\n\t#'a:b'.\n\t\"!a.\"\n\t\"]!a\"\n\t[:r2 | ]" ∷
    method_row (method "foo" [] [] None (sequence [] (no_statements) []))
    "foo" ∷
    []

-- the fourth part of the table
abbrev fourth_methods : List MethodRow
fourth_methods =
    method_row (method "+" ("other" ∷ []) [] None (sequence [] (no_statements) []))
    "+ other" ∷
    method_row (method "at:put:" ("key" ∷ "value" ∷ []) [] None (sequence [] (no_statements) []))
    "at: key put: value" ∷
    method_row (method "|" ("other" ∷ []) [] None (sequence [] (line (return (name "other")) no_statements) []))
    "| other\n\t^other" ∷
    method_row (method "-" ("other" ∷ []) [] None (sequence [] (line (return (name "self")) no_statements) []))
    "- other\n\t^self" ∷
    method_row (method "primitive:" ("x" ∷ []) [] None (sequence [] (no_statements) []))
    "primitive: x" ∷
    method_row (method "super" [] [] None (sequence [] (line (return (name "super")) no_statements) []))
    "super\n\t^super" ∷
    method_row (method "foo:" ("a" ∷ []) ("\"head\"" ∷ []) None (sequence ("b" ∷ []) (noted ("\"first\"" ∷ []) (assign (codes "b") (name "a")) (noted ("\"second\"" ∷ []) (return (name "b")) no_statements)) ("\"tail\"" ∷ [])))
    "foo: a\n\t\"head\"\n\t| b |\n\t\"first\"\n\tb := a.\n\t\"second\"\n\t^b\n\t\"tail\"" ∷
    method_row (method "foo" [] ("\"head\"" ∷ []) None (sequence [] (line (return (numeral "1")) no_statements) []))
    "foo\n\t\"head\"\n\t^1" ∷
    method_row (method "foo" [] [] None (sequence ("a" ∷ []) (no_statements) ("\"tail\"" ∷ [])))
    "foo\n\t| a |\n\t\"tail\"" ∷
    []

-- all rows
abbrev pub methods : List MethodRow
methods = first_methods ++ second_methods ++ third_methods ++ fourth_methods

-- a method with a primitive
abbrev pub with_primitive : MethodRow
with_primitive = method_row (method "foo" [] ("\"a\"" ∷ []) (Some 7) (sequence [] no_statements [])) "foo\n\t\"a\"\n\t<primitive: 7>"
