-- A method that tests, the rules of which some certificates speak, and what they make of it; the texts stand beside them.
use Rattle.std.specs.Prelude.{ℕ, [], ◌∷◌, true, false, codes}
use Rattle.tree_model.specs.Tree.{TreeOf, var, send, block, return, no_trees, more_trees, StatementsOf}
use Rattle.image_model.specs.Image.{ImageOf}
use Rattle.pattern_model.specs.Spelled.{pattern_of}
use Rattle.pattern_model.specs.Rewritten.{RuleOf}
use Rattle.certified_model.specs.Marks.{Text}
use Rattle.certified_model.specs.Certificates.{CertStep}
use Rattle.rewrite_model.specs.Examples.{one, numeral, unary, with_block, method, image}

-- a message with two blocks
abbrev pub with_blocks : TreeOf Text → Text → StatementsOf Text → StatementsOf Text → TreeOf Text
with_blocks r s ss ts = send r s (more_trees (block [] [] ss []) (more_trees (block [] [] ts []) no_trees))

-- a rule, and a step at the root
abbrev pub to : TreeOf Text → TreeOf Text → RuleOf Text
to p q = record { pattern = pattern_of p; replacement = pattern_of q }

abbrev pub forth : ℕ → CertStep
forth n = record { law = n; forward = true; path = [] }

abbrev pub back : ℕ → CertStep
back n = record { law = n; forward = false; path = [] }

abbrev pub some_s : StatementsOf Text
some_s = one (var (codes "`.@s"))

abbrev pub word : Text → StatementsOf Text
word n = one (var n)

-- `@x and: [`.@s] ==> `@x ifTrue: [`.@s] ifFalse: [false]
abbrev pub both_rule : RuleOf Text
both_rule = to (with_block (var (codes "`@x")) (codes "and:") some_s) (with_blocks (var (codes "`@x")) (codes "ifTrue:ifFalse:") some_s (word (codes "false")))

-- `@c ifTrue: [`.@s] ==> `@c ifFalse: [nil] ifTrue: [`.@s]
abbrev pub test_rule : RuleOf Text
test_rule = to (with_block (var (codes "`@c")) (codes "ifTrue:") some_s) (with_blocks (var (codes "`@c")) (codes "ifFalse:ifTrue:") (word (codes "nil")) some_s)

-- `@a and: [`@b and: [`@c]] ==> (`@a and: [`@b]) and: [`@c], and the other way round
abbrev pub inner : TreeOf Text
inner = with_block (var (codes "`@a")) (codes "and:") (one (with_block (var (codes "`@b")) (codes "and:") (one (var (codes "`@c")))))

abbrev pub outer : TreeOf Text
outer = with_block (with_block (var (codes "`@a")) (codes "and:") (one (var (codes "`@b")))) (codes "and:") (one (var (codes "`@c")))

-- go: a ^a isNil and: [a foo], and what it becomes
abbrev pub a : TreeOf Text
a = var (codes "a")

abbrev pub of_method : StatementsOf Text → Text → ImageOf Text
of_method ss source = image (method false (codes "go:") ss source ∷ []) []

abbrev pub with_both : ImageOf Text
with_both = of_method (one (return (with_block (unary a (codes "isNil")) (codes "and:") (one (unary a (codes "foo")))))) (codes "go: a ^a isNil and: [a foo]")

abbrev pub without_both : ImageOf Text
without_both = of_method (one (return (with_blocks (unary a (codes "isNil")) (codes "ifTrue:ifFalse:") (one (unary a (codes "foo"))) (word (codes "false"))))) (codes "go: a\n\t^a isNil ifTrue: [a foo] ifFalse: [false]")

-- go: a a isNil ifTrue: [^1], and what it becomes
abbrev pub with_test : ImageOf Text
with_test = of_method (one (with_block (unary a (codes "isNil")) (codes "ifTrue:") (one (return (numeral (codes "1")))))) (codes "go: a a isNil ifTrue: [^1]")

abbrev pub without_test : ImageOf Text
without_test = of_method (one (with_blocks (unary a (codes "isNil")) (codes "ifFalse:ifTrue:") (word (codes "nil")) (one (return (numeral (codes "1")))))) (codes "go: a\n\ta isNil ifFalse: [nil] ifTrue: [^1]")
