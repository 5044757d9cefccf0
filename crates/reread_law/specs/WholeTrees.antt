-- Do-its and methods that are well formed.
use Rattle.std.specs.Prelude.{◌≡◌, ℕ, ◌≤◌, Bool, true, false, List, [], ◌∷◌, ◌++◌, Option, Some, None}
use Rattle.tree_model.specs.Tree.{StatementsOf, no_statements, SequenceOf, MethodOf}
use Rattle.tree_model.specs.Measure.{sequence_height}
use Rattle.tree_model.specs.Normal.{IsNormal}
use Rattle.text_model.specs.Literals.{is_operator}
use Rattle.grammar_model.specs.Terminal.{Text}
use Rattle.reread_law.specs.WellFormed.{IsWord, IsKeywordText, AllNotes, AllWords, WellFormedStatements}
use Rattle.reread_law.specs.Declarations.{repeats, has_duplicate_statements, known_names, assigns_fixed_statements}

-- a sequence with these arguments: its names, its statements and its comments are well formed, it is no higher than 200, no list declares a name twice, and no name is assigned that can not be
pub record WellFormedSequence (ps : List Text) (s : SequenceOf Text) : Type 0 where
  pub words : AllWords s.temporaries
  pub statements : WellFormedStatements s.statements
  pub notes : AllNotes s.tail
  pub height : sequence_height s ≤ 200
  pub once : repeats [] (ps ++ s.temporaries) ≡ false
  pub once_inside : has_duplicate_statements s.statements ≡ false
  pub assigned : assigns_fixed_statements (known_names ps s.temporaries) s.statements ≡ false

-- a do-it
abbrev pub WellFormedDoIt : SequenceOf Text → Type 0
WellFormedDoIt s = WellFormedSequence [] s

-- keywords, each with the name of an argument
pub data AreNamed : Text → List Text → Type 0 where
  LastName : {k n : Text} → IsKeywordText k → IsWord n → AreNamed k (n ∷ [])
  MoreNames : {k s n : Text} {ns : List Text} → IsKeywordText k → IsWord n → AreNamed s ns → AreNamed (k ++ s) (n ∷ ns)

-- a selector with the names of its arguments
pub data IsPattern : Text → List Text → Type 0 where
  ByName : {s : Text} → IsWord s → IsPattern s []
  ByOperator : {s n : Text} → is_operator s ≡ true → IsWord n → IsPattern s (n ∷ [])
  ByKeywords : {s : Text} {ns : List Text} → AreNamed s ns → IsPattern s ns

-- a primitive stands in the kernel alone, with nothing beside it
abbrev pub FitsPrimitive : Bool → Option ℕ → List Text → StatementsOf Text → Type 0
FitsPrimitive kernel None ts ss = Unit {0}
FitsPrimitive kernel (Some n) ts ss = (kernel ≡ true) × (n ≤ 65535) × (ts ≡ []) × (ss ≡ no_statements)

-- a method, of the kernel or not: its pattern, its comments and its body are well formed, and the comments stand in normal form
pub record WellFormedMethod (kernel : Bool) (m : MethodOf Text) : Type 0 where
  pub pattern : IsPattern m.selector m.arguments
  pub head : AllNotes m.head
  pub body : WellFormedSequence m.arguments m.body
  pub primitive : FitsPrimitive kernel m.primitive m.body.temporaries m.body.statements
  pub normal : IsNormal m
