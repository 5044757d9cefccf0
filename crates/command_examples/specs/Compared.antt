-- Some trees, methods and meanings, each of which is the same as itself alone.
use Rattle.std.specs.Prelude.{◌≡◌, ℕ, List, [], ◌∷◌, map, nat_eq, true, Bool, Some, codes}
use Rattle.std.specs.List.{enumerate_from}
use Rattle.rb_base.specs.Names.{text_eq}
use Rattle.tree_model.specs.Tree.{Notes, LiteralOf, number, str, symbol, char, array, bytes, word, literals_of, TreeOf, literal, send, cascade, assign, block, brace, return, trees_of, no_messages, more_messages, no_statements, more_statements, MethodOf}
use Rattle.image_model.specs.Means.{of_instance, of_class_side, of_class, MeaningOf, pseudo, argument, temporary, variable, a_class, transcript, undeclared}
use Rattle.same_trees.specs.SameTrees.{same_tree, same_code}
use Rattle.command_model.specs.SameMethods.{same_meaning}
use Rattle.command_examples.specs.ExampleImage.{Text, name, numeral, taking}

-- each of the items is the same as itself, and as no other one
abbrev pub IsEachItselfAlone : {X : Type 0} → (X → X → Bool) → List X → Type 0
IsEachItselfAlone same xs =
    map (λ x. map (same x) xs) xs ≡ map (λ e. map (λ f. nat_eq e.0 f.0) (enumerate_from 0 xs)) (enumerate_from 0 xs)

-- names
abbrev pub a : TreeOf Text
a = name (codes "a")

abbrev pub b : TreeOf Text
b = name (codes "b")

-- an array of literals, and one of bytes
abbrev pub array_of : List (LiteralOf Text) → TreeOf Text
array_of ls = literal (array (literals_of ls))

abbrev pub bytes_of : List (LiteralOf Text) → TreeOf Text
bytes_of ls = literal (bytes (literals_of ls))

-- literals
abbrev pub literal_trees : List (TreeOf Text)
literal_trees =
    numeral (codes "1")
    ∷ numeral (codes "2")
    ∷ literal (str (codes "1"))
    ∷ literal (str (codes "x"))
    ∷ literal (symbol (codes "1"))
    ∷ literal (symbol (codes "x"))
    ∷ literal (char 49)
    ∷ literal (char 50)
    ∷ array_of (number (codes "1") ∷ [])
    ∷ array_of (number (codes "1") ∷ word (codes "nil") ∷ [])
    ∷ array_of (number (codes "1") ∷ word (codes "true") ∷ [])
    ∷ array_of (number (codes "2") ∷ word (codes "nil") ∷ [])
    ∷ bytes_of (number (codes "1") ∷ [])
    ∷ bytes_of (number (codes "2") ∷ [])
    ∷ []

-- `a at: a`, say, the cascade `a foo; at: a`, and `[:p | | t | a. b]` with comments before the first statement and at the end
abbrev pub asked : TreeOf Text → Text → List (TreeOf Text) → TreeOf Text
asked r s ts = send r s (trees_of ts)

abbrev pub asked_twice : TreeOf Text → Text → List (TreeOf Text) → TreeOf Text
asked_twice r s ts = cascade r (more_messages (codes "foo") (trees_of []) (more_messages s (trees_of ts) no_messages))

abbrev pub closure : Text → Text → Notes → TreeOf Text → TreeOf Text → Notes → TreeOf Text
closure p t before u v behind = block (p ∷ []) (t ∷ []) (more_statements before u (more_statements [] v no_statements)) behind

-- nodes
abbrev pub nodes : List (TreeOf Text)
nodes =
    a
    ∷ b
    ∷ numeral (codes "1")
    ∷ asked a (codes "at:") (a ∷ [])
    ∷ asked b (codes "at:") (a ∷ [])
    ∷ asked a (codes "to:") (a ∷ [])
    ∷ asked a (codes "at:") (b ∷ [])
    ∷ asked a (codes "at:") (a ∷ b ∷ [])
    ∷ asked_twice a (codes "at:") (a ∷ [])
    ∷ asked_twice b (codes "at:") (a ∷ [])
    ∷ asked_twice a (codes "to:") (a ∷ [])
    ∷ asked_twice a (codes "at:") (b ∷ [])
    ∷ cascade a (more_messages (codes "foo") (trees_of []) no_messages)
    ∷ assign (codes "x") a
    ∷ assign (codes "y") a
    ∷ assign (codes "x") b
    ∷ closure (codes "p") (codes "t") [] a b []
    ∷ closure (codes "q") (codes "t") [] a b []
    ∷ closure (codes "p") (codes "u") [] a b []
    ∷ closure (codes "p") (codes "t") [] b b []
    ∷ closure (codes "p") (codes "t") [] a a []
    ∷ block (codes "p" ∷ []) (codes "t" ∷ []) (more_statements [] a no_statements) []
    ∷ brace (trees_of (a ∷ []))
    ∷ brace (trees_of (b ∷ []))
    ∷ brace (trees_of (a ∷ b ∷ []))
    ∷ return a
    ∷ return b
    ∷ []

-- `x: p` with a primitive, an expression, comments at both ends, and temporaries
abbrev pub whole : Text → Text → ℕ → TreeOf Text → Notes → List Text → MethodOf Text
whole s p k t notes temporaries =
    let m : MethodOf Text = taking s (p ∷ []) t in
    record m { head = notes; primitive = Some k; body = record m.body { temporaries = temporaries; tail = notes } }

-- methods
abbrev pub methods : List (MethodOf Text)
methods =
    whole (codes "x:") (codes "p") 1 a [] []
    ∷ whole (codes "y:") (codes "p") 1 a [] []
    ∷ whole (codes "x:") (codes "q") 1 a [] []
    ∷ whole (codes "x:") (codes "p") 2 a [] []
    ∷ whole (codes "x:") (codes "p") 1 b [] []
    ∷ whole (codes "x:") (codes "p") 1 a [] (codes "t" ∷ [])
    ∷ taking (codes "x:") (codes "p" ∷ []) a
    ∷ []

-- meanings
abbrev pub meanings : List (MeaningOf Text)
meanings =
    pseudo
    ∷ argument 0
    ∷ argument 1
    ∷ temporary 0
    ∷ temporary 1
    ∷ variable of_instance (codes "A")
    ∷ variable of_class_side (codes "A")
    ∷ variable of_class (codes "A")
    ∷ variable of_class (codes "B")
    ∷ a_class (codes "A")
    ∷ a_class (codes "B")
    ∷ transcript
    ∷ undeclared
    ∷ []

-- comments count neither in a block nor in a method
abbrev pub CommentsDoNotCount : Type 0
CommentsDoNotCount =
    (same_tree text_eq (closure (codes "p") (codes "t") [] a b []) (closure (codes "p") (codes "t") (codes "\"x\"" ∷ []) a b (codes "\"y\"" ∷ [])) ≡ true)
    × (same_code text_eq (whole (codes "x:") (codes "p") 1 a [] []) (whole (codes "x:") (codes "p") 1 a (codes "\"x\"" ∷ []) []) ≡ true)

-- trees, methods and meanings are told apart
abbrev pub AreTreesApart : Type 0
AreTreesApart = IsEachItselfAlone (same_tree text_eq) literal_trees × IsEachItselfAlone (same_tree text_eq) nodes

abbrev pub AreMethodsApart : Type 0
AreMethodsApart = IsEachItselfAlone (same_code text_eq) methods × IsEachItselfAlone (same_meaning text_eq) meanings
