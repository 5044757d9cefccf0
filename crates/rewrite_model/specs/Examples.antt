-- A small image, where a pattern matches in it, and the image in which a rule is applied; the texts stand beside them.
use Rattle.std.specs.Prelude.{List, [], ◌∷◌, Bool, true, false, Some, None, codes}
use Rattle.tree_model.specs.Tree.{number, TreeOf, var, literal, send, block, return, no_trees, more_trees, StatementsOf, no_statements, more_statements, SequenceOf}
use Rattle.image_model.specs.Image.{EntryOf, DoItOf, ImageOf}
use Rattle.image_model.specs.Nodes.{in_method, in_doit, Use}
use Rattle.query_model.specs.Lines.{Text}
use Rattle.pattern_model.specs.Spelled.{pattern_of}
use Rattle.pattern_model.specs.Rewritten.{RuleOf}

-- one statement, and two
abbrev pub one : TreeOf Text → StatementsOf Text
one t = more_statements [] t no_statements

abbrev pub two : TreeOf Text → TreeOf Text → StatementsOf Text
two t u = more_statements [] t (one u)

abbrev pub numeral : Text → TreeOf Text
numeral t = literal (number t)

-- a message without arguments, and one with a block
abbrev pub unary : TreeOf Text → Text → TreeOf Text
unary r s = send r s no_trees

abbrev pub with_block : TreeOf Text → Text → StatementsOf Text → TreeOf Text
with_block r s ss = send r s (more_trees (block [] [] ss []) no_trees)

-- a test and what it becomes
abbrev pub test : TreeOf Text → StatementsOf Text → TreeOf Text
test t ss = with_block (unary t (codes "isNil")) (codes "ifTrue:") ss

abbrev pub shorter : TreeOf Text → StatementsOf Text → TreeOf Text
shorter t ss = with_block t (codes "ifNil:") ss

-- `@x isNil ifTrue: [``.@s] ==> `@x ifNil: [`.@s], and a rule that changes nothing
abbrev pub a_rule : RuleOf Text
a_rule = record { pattern = pattern_of (test (var (codes "`@x")) (one (var (codes "``.@s")))); replacement = pattern_of (shorter (var (codes "`@x")) (one (var (codes "`.@s")))) }

abbrev pub idle_rule : RuleOf Text
idle_rule = record { pattern = a_rule.pattern; replacement = pattern_of (test (var (codes "`@x")) (one (var (codes "`.@s")))) }

-- methods and do-its of these statements
abbrev pub body : StatementsOf Text → SequenceOf Text
body ss = record { temporaries = []; statements = ss; tail = [] }

abbrev pub method : Bool → Text → StatementsOf Text → Text → EntryOf Text
method kernel selector ss source = record {
  class = Some (codes "A");
  meta = false;
  protocol = [];
  source = source;
  tree = record { selector = selector; arguments = codes "a" ∷ []; head = []; primitive = None; body = body ss };
  kernel = kernel;
}

abbrev pub doit : StatementsOf Text → Text → DoItOf Text
doit ss source = record { source = source; body = body ss }

abbrev pub image : List (EntryOf Text) → List (DoItOf Text) → ImageOf Text
image methods doits = record { classes = []; methods = methods; doits = doits; heads = 0 }

-- a isNil ifTrue: [a foo isNil ifTrue: [^1]]. ^a bar isNil ifTrue: [2]
abbrev pub tests : StatementsOf Text
tests = two (test (var (codes "a")) (one (test (unary (var (codes "a")) (codes "foo")) (one (return (numeral (codes "1"))))))) (return (test (unary (var (codes "a")) (codes "bar")) (one (numeral (codes "2")))))

abbrev pub shorter_tests : StatementsOf Text
shorter_tests =
    two (shorter (var (codes "a")) (one (shorter (unary (var (codes "a")) (codes "foo")) (one (return (numeral (codes "1"))))))) (return (shorter (unary (var (codes "a")) (codes "bar")) (one (numeral (codes "2")))))

-- a method of the kernel, one in which the rule changes something and one in which it does not, and two such do-its
abbrev pub kernel_method : EntryOf Text
kernel_method = method true (codes "do:") (one (test (var (codes "a")) (one (numeral (codes "1"))))) (codes "do: a a isNil ifTrue: [1]")

abbrev pub plain_method : EntryOf Text
plain_method = method false (codes "at:") (one (unary (var (codes "a")) (codes "foo"))) (codes "at: a a  foo")

abbrev pub plain_doit : DoItOf Text
plain_doit = doit (one (unary (numeral (codes "3")) (codes "foo"))) (codes "3  foo")

abbrev pub before : ImageOf Text
before =
    image (kernel_method ∷ method false (codes "go:") tests (codes "go: a a isNil ifTrue: [a foo isNil ifTrue: [^1]]. ^a bar isNil ifTrue: [2]") ∷ plain_method ∷ [])
    (plain_doit ∷ doit (one (test (numeral (codes "3")) (one (numeral (codes "4"))))) (codes "3 isNil ifTrue: [4]") ∷ [])

abbrev pub after : ImageOf Text
after =
    image (kernel_method ∷ method false (codes "go:") shorter_tests (codes "go: a\n\ta ifNil: [a foo ifNil: [^1]].\n\t^a bar ifNil: [2]") ∷ plain_method ∷ [])
    (plain_doit ∷ doit (one (shorter (numeral (codes "3")) (one (numeral (codes "4"))))) (codes "3 ifNil: [4]") ∷ [])

-- where the pattern matches
abbrev pub places : List Use
places =
    record { place = in_method 1; path = 0 ∷ [] }
    ∷ record { place = in_method 1; path = 0 ∷ 1 ∷ 0 ∷ [] }
    ∷ record { place = in_method 1; path = 1 ∷ 0 ∷ [] }
    ∷ record { place = in_doit 1; path = 0 ∷ [] }
    ∷ []
