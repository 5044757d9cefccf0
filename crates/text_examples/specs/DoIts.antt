-- Do-its with their canonical texts.
use Rattle.std.specs.Prelude.{List, [], ◌∷◌, ◌++◌, codes}
use Rattle.tree_model.specs.Tree.{number, str, symbol, char, array, bytes, word, literals_of, trees_of, literal, cascade, assign, brace, return, no_messages, no_statements}
use Rattle.text_examples.specs.Trees.{name, numeral, unary, one, more, sends, inside, line, noted, sequence, DoItRow, doit_row}

-- the first part of the table
abbrev first_doits : List DoItRow
first_doits =
    doit_row (sequence ("x1" ∷ "super" ∷ "self" ∷ []) (line (cascade (cascade (one (name "thisContext") "at:" (name "true")) (sends "at:put:" ((cascade (literal (array (literals_of ((number (codes "1")) ∷ (str (codes "!")) ∷ (number (codes "1")) ∷ [])))) (sends "at:put:" ((name "true") ∷ (literal (str (codes "!-"))) ∷ []) (sends "<" ((name "self") ∷ []) no_messages))) ∷ (inside ("a" ∷ "self" ∷ []) [] (line (numeral "36rZ") no_statements) []) ∷ []) (sends ">=" ((one (name "thisContext") "primitive:" (literal (array (literals_of ((char 34) ∷ []))))) ∷ []) no_messages))) (sends "primitive:" ((literal (bytes (literals_of ([])))) ∷ []) (sends "class" [] no_messages))) no_statements) [])
    "| x1 super self |\n((thisContext at: true) at: (#(1 '!' 1) at: true put: '!-'; < self) put: [:a :self | 36rZ]; >= (thisContext primitive: #($\"))) primitive: #[]; class" ∷
    doit_row (sequence [] (line (cascade (unary (name "Stack") "new") (sends "push:" ((numeral "3") ∷ []) (sends "pop" [] no_messages))) no_statements) [])
    "Stack new push: 3; pop" ∷
    doit_row (sequence [] (line (cascade (name "Transcript") (sends "show:" ((literal (str (codes "total "))) ∷ []) (sends "print:" ((unary (unary (name "Counter") "new") "up") ∷ []) (sends "cr" [] no_messages)))) no_statements) [])
    "Transcript show: 'total '; print: Counter new up; cr" ∷
    doit_row (sequence [] (no_statements) ("\"a comment alone\"" ∷ []))
    "\"a comment alone\"" ∷
    doit_row (sequence ("Transcript" ∷ "self" ∷ []) (line (unary (numeral "-16rFF") "super") no_statements) [])
    "| Transcript self |\n-16rFF super" ∷
    doit_row (sequence ("a" ∷ []) (line (inside [] ("x1" ∷ []) (line (cascade (inside ("Transcript" ∷ "super" ∷ []) [] (line (name "self") (line (literal (char 96)) (line (name "a") no_statements))) []) (sends "at:" ((inside ("r2" ∷ "foo" ∷ []) [] (line (name "self") (line (name "false") no_statements)) []) ∷ []) (sends "at:" ((brace (trees_of ([]))) ∷ []) no_messages))) no_statements) []) no_statements) [])
    "| a |\n[\n\t| x1 |\n\t[:Transcript :super |\n\t\tself.\n\t\t$`.\n\t\ta] at: [:r2 :foo |\n\t\tself.\n\t\tfalse]; at: {}]" ∷
    doit_row (sequence [] (line (numeral "1") (line (one (name "Transcript") "display:" (numeral "2")) (line (one (name "Transcript") "print:" (more (name "B") "gresh:fresh:" ((unary (literal (array (literals_of ((number (codes "1")) ∷ (symbol (codes "foo")) ∷ (word (codes "nil")) ∷ [])))) "class") ∷ (literal (symbol (codes "foo"))) ∷ []))) no_statements))) [])
    "1.\nTranscript display: 2.\nTranscript print: (B gresh: #(1 #foo nil) class fresh: #foo)" ∷
    doit_row (sequence [] (line (one (name "Transcript") "show:" (literal (str (codes "h")))) no_statements) [])
    "Transcript show: 'h'" ∷
    doit_row (sequence ("self" ∷ []) (line (one (one (numeral "99999999999999999999") "," (name "r2")) "ifTrue:" (literal (array (literals_of ([]))))) no_statements) [])
    "| self |\n99999999999999999999 , r2 ifTrue: #()" ∷
    doit_row (sequence [] (line (cascade (name "Smalltalk") (sends "replaceDoIt:with:" ((numeral "1") ∷ (literal (str (codes "3"))) ∷ []) (sends "yourself" [] no_messages))) no_statements) [])
    "Smalltalk replaceDoIt: 1 with: '3'; yourself" ∷
    doit_row (sequence [] (line (unary (literal (array (literals_of ((number (codes "1")) ∷ (char 97) ∷ (str (codes "b")) ∷ [])))) "size") no_statements) [])
    "#(1 $a 'b') size" ∷
    doit_row (sequence [] (line (one (name "Transcript") "show:" (literal (str (codes "it's!")))) no_statements) [])
    "Transcript show: 'it''s!'" ∷
    doit_row (sequence ("a" ∷ []) (line (assign (codes "a") (unary (name "Account") "open")) (line (cascade (name "a") (sends "deposit:" ((numeral "10") ∷ []) (sends "withdraw:" ((numeral "3") ∷ []) no_messages))) (line (cascade (name "Transcript") (sends "print:" ((unary (name "a") "balance") ∷ []) (sends "cr" [] no_messages))) no_statements))) [])
    "| a |\na := Account open.\na deposit: 10; withdraw: 3.\nTranscript print: a balance; cr" ∷
    doit_row (sequence ("r2" ∷ "x1" ∷ "super" ∷ []) (line (one (brace (trees_of ([]))) "~=" (cascade (inside [] [] (no_statements) []) (sends "nil" [] (sends "|" ((inside ("a" ∷ "Foo" ∷ []) [] (line (numeral "-9223372036854775807") no_statements) []) ∷ []) (sends "nil" [] no_messages))))) (line (inside ("super" ∷ "e5" ∷ []) ("self" ∷ []) (no_statements) []) (line (inside [] [] (line (inside ("a" ∷ []) ("Foo" ∷ []) (line (more (name "b") "ifTrue:ifFalse:" ((name "Foo") ∷ (literal (array (literals_of ((word (codes "true")) ∷ (number (codes "1")) ∷ (number (codes "1")) ∷ [])))) ∷ [])) no_statements) []) no_statements) ("\"!'\"" ∷ "\"\"" ∷ [])) no_statements))) [])
    "| r2 x1 super |\n{} ~= ([] nil; | [:a :Foo | -9223372036854775807]; nil).\n[:super :e5 |\n\t| self |].\n[\n\t[:a |\n\t\t| Foo |\n\t\tb ifTrue: Foo ifFalse: #(true 1 1)]\n\t\"!'\"\n\t\"\"]" ∷
    doit_row (sequence [] (noted ("\"c\"" ∷ []) (unary (unary (name "Savings") "fresh") "fee") no_statements) [])
    "\"c\"\nSavings fresh fee" ∷
    doit_row (sequence [] (line (more (unary (name "Account") "open") "move:to:with:" ((numeral "1") ∷ (unary (name "Checking") "open") ∷ (numeral "0") ∷ [])) no_statements) [])
    "Account open move: 1 to: Checking open with: 0" ∷
    doit_row (sequence [] (line (name "x") no_statements) [])
    "x" ∷
    doit_row (sequence [] (line (one (name "Transcript") "show:" (literal (str (codes "wow!")))) no_statements) ("\"a!b\"" ∷ []))
    "Transcript show: 'wow!'\n\"a!b\"" ∷
    doit_row (sequence [] (line (numeral "3") no_statements) [])
    "3" ∷
    doit_row (sequence [] (line (brace (trees_of ((numeral "1") ∷ (brace (trees_of ((numeral "2") ∷ []))) ∷ []))) no_statements) [])
    "{1. {2}}" ∷
    []

-- the second part of the table
abbrev second_doits : List DoItRow
second_doits =
    doit_row (sequence [] (no_statements) [])
    "" ∷
    doit_row (sequence [] (line (one (numeral "3") "-" (numeral "-4")) no_statements) [])
    "3 - -4" ∷
    doit_row (sequence [] (line (one (name "a") "-" (numeral "4")) no_statements) [])
    "a - 4" ∷
    doit_row (sequence [] (line (literal (array (literals_of ((symbol (codes "-")) ∷ (number (codes "-4")) ∷ [])))) no_statements) [])
    "#(#- -4)" ∷
    doit_row (sequence [] (line (literal (array (literals_of ((symbol (codes "foo:")) ∷ (symbol (codes "bar:")) ∷ [])))) no_statements) [])
    "#(#foo: #bar:)" ∷
    doit_row (sequence [] (line (literal (array (literals_of ((symbol (codes "foo:bar:")) ∷ [])))) no_statements) [])
    "#(#foo:bar:)" ∷
    doit_row (sequence [] (line (literal (symbol (codes "+-"))) no_statements) [])
    "#'+-'" ∷
    doit_row (sequence [] (line (literal (symbol (codes "||"))) no_statements) [])
    "#'||'" ∷
    doit_row (sequence [] (line (literal (symbol (codes "|"))) no_statements) [])
    "#|" ∷
    doit_row (sequence [] (line (literal (symbol (codes "+"))) no_statements) [])
    "#+" ∷
    doit_row (sequence [] (line (brace (trees_of ([]))) no_statements) [])
    "{}" ∷
    doit_row (sequence [] (line (brace (trees_of ((numeral "1") ∷ (cascade (name "a") (sends "foo" [] (sends "bar" [] no_messages))) ∷ (assign (codes "b") (numeral "2")) ∷ []))) no_statements) [])
    "{1. a foo; bar. b := 2}" ∷
    doit_row (sequence [] (line (unary (cascade (name "a") (sends "foo" [] (sends "bar" [] no_messages))) "baz") no_statements) [])
    "(a foo; bar) baz" ∷
    doit_row (sequence [] (line (more (name "a") "foo:bar:" ((assign (codes "b") (numeral "3")) ∷ (inside [] [] (line (name "c") no_statements) []) ∷ [])) no_statements) [])
    "a foo: (b := 3) bar: [c]" ∷
    doit_row (sequence [] (line (unary (one (name "a") "+" (name "b")) "foo") no_statements) [])
    "(a + b) foo" ∷
    doit_row (sequence [] (line (one (name "a") "+" (one (name "b") "+" (name "c"))) no_statements) [])
    "a + (b + c)" ∷
    doit_row (sequence [] (line (one (one (name "a") "+" (name "b")) "+" (name "c")) no_statements) [])
    "a + b + c" ∷
    doit_row (sequence [] (line (more (name "a") "foo:bar:" ((one (name "b") "+" (name "c")) ∷ (unary (name "d") "e") ∷ [])) no_statements) [])
    "a foo: b + c bar: d e" ∷
    doit_row (sequence [] (line (one (one (name "a") "foo:" (name "b")) "bar:" (name "c")) no_statements) [])
    "(a foo: b) bar: c" ∷
    doit_row (sequence [] (line (one (name "a") "+" (one (name "b") "foo:" (name "c"))) no_statements) [])
    "a + (b foo: c)" ∷
    []

-- the third part of the table
abbrev third_doits : List DoItRow
third_doits =
    doit_row (sequence [] (line (one (name "a") "+" (unary (name "b") "foo")) no_statements) [])
    "a + b foo" ∷
    doit_row (sequence [] (line (unary (assign (codes "a") (name "b")) "foo") no_statements) [])
    "(a := b) foo" ∷
    doit_row (sequence [] (line (assign (codes "a") (assign (codes "b") (cascade (name "c") (sends "foo" [] (sends "bar" [] no_messages))))) no_statements) [])
    "a := b := c foo; bar" ∷
    doit_row (sequence [] (line (one (name "super") "+" (numeral "3")) no_statements) [])
    "super + 3" ∷
    doit_row (sequence [] (line (cascade (unary (name "super") "foo") (sends "bar" [] (sends "baz" [] no_messages))) no_statements) [])
    "super foo bar; baz" ∷
    doit_row (sequence [] (line (one (name "a") "foo:" (one (name "super") "+" (numeral "3"))) no_statements) [])
    "a foo: super + 3" ∷
    doit_row (sequence [] (line (one (name "a") "+" (unary (name "super") "foo")) no_statements) [])
    "a + super foo" ∷
    doit_row (sequence [] (line (literal (char 32)) no_statements) [])
    "$ " ∷
    doit_row (sequence [] (line (literal (char 39)) no_statements) [])
    "$'" ∷
    doit_row (sequence [] (line (literal (str (codes "it's"))) no_statements) [])
    "'it''s'" ∷
    doit_row (sequence [] (line (literal (str (codes ""))) no_statements) [])
    "''" ∷
    doit_row (sequence [] (line (literal (symbol (codes ""))) no_statements) [])
    "#''" ∷
    doit_row (sequence [] (line (literal (array (literals_of ((word (codes "nil")) ∷ (symbol (codes "self")) ∷ (array (literals_of ((number (codes "1")) ∷ (char 97) ∷ []))) ∷ (bytes (literals_of ((number (codes "1")) ∷ (number (codes "2")) ∷ []))) ∷ (str (codes "b")) ∷ (symbol (codes "c:")) ∷ (number (codes "1e3")) ∷ (number (codes "16rFF")) ∷ [])))) no_statements) [])
    "#(nil #self #(1 $a) #[1 2] 'b' #c: 1e3 16rFF)" ∷
    doit_row (sequence [] (line (literal (array (literals_of ([])))) no_statements) [])
    "#()" ∷
    doit_row (sequence [] (line (literal (bytes (literals_of ([])))) no_statements) [])
    "#[]" ∷
    doit_row (sequence [] (line (inside [] [] (no_statements) []) no_statements) [])
    "[]" ∷
    doit_row (sequence [] (line (inside [] [] (line (name "a") no_statements) []) no_statements) [])
    "[a]" ∷
    doit_row (sequence [] (line (inside ("a" ∷ "b" ∷ []) [] (no_statements) []) no_statements) [])
    "[:a :b | ]" ∷
    doit_row (sequence [] (line (inside ("a" ∷ []) [] (line (inside [] [] (line (name "b") no_statements) []) no_statements) []) no_statements) [])
    "[:a | [b]]" ∷
    doit_row (sequence [] (line (inside [] ("t" ∷ []) (line (name "t") no_statements) []) no_statements) [])
    "[\n\t| t |\n\tt]" ∷
    []

-- the fourth part of the table
abbrev fourth_doits : List DoItRow
fourth_doits =
    doit_row (sequence [] (line (one (inside ("a" ∷ []) ("t" ∷ []) (line (assign (codes "t") (name "a")) (line (return (name "t")) no_statements)) []) "value:" (numeral "3")) no_statements) [])
    "[:a |\n\t| t |\n\tt := a.\n\t^t] value: 3" ∷
    doit_row (sequence [] (line (inside [] [] (no_statements) ("\"c\"" ∷ [])) no_statements) [])
    "[\n\t\"c\"]" ∷
    doit_row (sequence [] (noted ("\"a\"" ∷ []) (name "a") (noted ("\"b\"" ∷ []) (return (name "c")) no_statements)) ("\"d\"" ∷ []))
    "\"a\"\na.\n\"b\"\n^c\n\"d\"" ∷
    doit_row (sequence ("a" ∷ "b" ∷ []) (no_statements) ("\"c\"" ∷ []))
    "| a b |\n\"c\"" ∷
    doit_row (sequence [] (line (more (name "a") "foo:bar:" ((inside [] [] (line (name "b") (line (name "c") no_statements)) []) ∷ (inside ("d" ∷ []) [] (line (inside [] [] (noted ("\"e\"" ∷ []) (name "f") no_statements) []) no_statements) []) ∷ [])) no_statements) [])
    "a foo: [\n\tb.\n\tc] bar: [:d |\n\t[\n\t\t\"e\"\n\t\tf]]" ∷
    doit_row (sequence [] (line (numeral "1.5e-3") no_statements) [])
    "1.5e-3" ∷
    doit_row (sequence [] (line (numeral "16rFFe2") no_statements) [])
    "16rFFe2" ∷
    doit_row (sequence [] (line (numeral "2r101") no_statements) [])
    "2r101" ∷
    doit_row (sequence [] (line (unary (numeral "-5") "abs") no_statements) [])
    "-5 abs" ∷
    doit_row (sequence [] (line (one (numeral "99") "+" (numeral "-1")) no_statements) [])
    "99 + -1" ∷
    []

-- all rows
abbrev pub doits : List DoItRow
doits = first_doits ++ second_doits ++ third_doits ++ fourth_doits
