-- What is in the way of conditions in small images.
use Rattle.std.specs.Prelude.{◌≡◌, ℕ, zero, suc, true, false, List, [], ◌∷◌, ◌++◌, map, Option, Some, None, codes}
use Rattle.tree_model.specs.Tree.{number, TreeOf, assign, block, return, send, trees_of, no_statements, more_statements, MethodOf}
use Rattle.image_model.specs.Image.{EntryOf, ImageOf, plus}
use Rattle.image_model.specs.Grown.{with_method}
use Rattle.image_model.specs.Nodes.{in_method, in_doit}
use Rattle.query_model.specs.Lines.{title, method_title}
use Rattle.command_model.specs.Parts.{Part, Expression, Run}
use Rattle.command_model.specs.Asked.{asked_of_texts}
use Rattle.command_model.specs.Commands.{CommandOf, AddInstVar, RemoveInstVar, RemoveClass, AddMethod, AddParameter, AbstractInstVar, ExtractMethod, InlineMethod, InlineTemp}
use Rattle.command_model.specs.Conditions.{ConditionOf, NoReflection, IsUserClass, NameUnused, SelectorFresh, NotKernelSelector, Implements, NotImplements, Removable, NoSubclasses, NotReferenced, VariableFree, VariableUnused, ParentIsUser, NoSuper, MeansSame, Unreached, ParameterUnused, PlainArguments, PartIs, NoReturn, AssignsNoOuter, TempsSteady, ValueUnused, SelfSend, OneTarget, Inlinable, PlainActuals, NoCapture, NoNewControl, Declared, NotIn, LetForm, FirstEvaluated, Shallow, ChildOf, LacksVariable, AtPart, AtName}
use Rattle.command_examples.specs.ExampleImage.{Text, unary, name, numeral, answering, taking, method, doit, bank}
use Rattle.command_examples.specs.CodeImages.{told, lines, asked, noted, counting, going}
use Rattle.refusal_witnesses.specs.Witnesses.{OwnerOf, AtPlace, InMethod, WitnessOf, APart, AWhole, AClass, ASelector, AStep, TwoMeanings}
use Rattle.refusal_witnesses.specs.Lines.{meanings_text}
use Rattle.refusal_witnesses.specs.Refused.{witnesses}
use Rattle.pattern_model.specs.Spelled.{pattern_of}
use Rattle.certified_model.specs.Certificates.{CertStep}
use Rattle.rule_model.specs.RuleCommands.{RuleCommand, Reason, Unmet, Derived}
use Rattle.why_model.specs.Reasons.{rule_witnesses}
use Rattle.why_model.specs.Explained.{explained}

-- a witness in short: a text, and a path
abbrev pub Short : Type 0
Short = Text × List ℕ

-- a method by its title; a do-it as such, with its number from 0 before the path
abbrev pub owned : ImageOf Text → OwnerOf Text → Text → List ℕ → Short
owned i (AtPlace (in_method k)) more path = (title i (in_method k) ++ more, path)
owned i (AtPlace (in_doit k)) more path = (codes "doit" ++ more, k ∷ path)
owned i (InMethod m) more path = (method_title m ++ more, path)

abbrev pub short : ImageOf Text → WitnessOf Text → Short
short i (APart owner (Expression path)) = owned i owner [] path
short i (APart owner (Run path first count)) = owned i owner (codes " run") (path ++ first ∷ count ∷ [])
short i (AWhole owner) = owned i owner (codes " whole") []
short i (AClass c) = (c, [])
short i (ASelector s) = (s, [])
short i (AStep k) = (codes "step", k ∷ [])
short i (TwoMeanings owner path n one other) = owned i owner (codes " " ++ meanings_text n one other) path

-- an image, a command, the part that stands at its places in the source, a condition, and what is in its way
pub record Row : Type 0 where
  pub before : ImageOf Text
  pub command : CommandOf Text
  pub part : Option Part
  pub condition : ConditionOf Text
  pub shown : List Short

abbrev pub shown_of : Row → List Short
shown_of r = map (short r.before) (witnesses (asked_of_texts (λ source from to. r.part)) r.before r.command r.condition)

-- each row is as the definition has it
abbrev pub AllShown : List Row → Type 0
AllShown [] = Unit {0}
AllShown (r ∷ rs) = (shown_of r ≡ r.shown) × AllShown rs

-- a command of which a condition does not speak
abbrev pub any : CommandOf Text
any = RemoveClass (codes "Nobody")

-- a condition in an image; in the bank; and of a part
abbrev pub row : ImageOf Text → CommandOf Text → Option Part → ConditionOf Text → List Short → Row
row before command part condition shown = record { before = before; command = command; part = part; condition = condition; shown = shown }

abbrev pub in_bank : ConditionOf Text → List Short → Row
in_bank condition shown = row bank any None condition shown

abbrev pub at : Text → List ℕ → Short
at text path = (text, path)

abbrev pub plain : Text → Short
plain text = (text, [])

abbrev pub names : List Row
names =
    row (plus bank (doit (unary (name (codes "Smalltalk")) (codes "foo")))) any None NoReflection (at (codes "doit") (4 ∷ 0 ∷ 0 ∷ []) ∷ [])
    ∷ in_bank (NameUnused (codes "rate")) (plain (codes "Savings") ∷ plain (codes "Checking") ∷ at (codes "Savings>>interest") (0 ∷ 0 ∷ []) ∷ at (codes "Premium>>extra") (0 ∷ 0 ∷ 0 ∷ []) ∷ [])
    ∷ in_bank (SelectorFresh (codes "bonus")) (plain (codes "Savings>>bonus whole") ∷ plain (codes "Checking>>bonus whole") ∷ at (codes "doit") (1 ∷ 0 ∷ []) ∷ [])
    ∷ in_bank (NotKernelSelector (codes "shallowCopy")) (at (codes "Object>>copy") (0 ∷ 0 ∷ []) ∷ [])
    ∷ in_bank (NotKernelSelector (codes "allInstances")) (plain (codes "allInstances") ∷ [])
    ∷ []

abbrev pub classes : List Row
classes =
    in_bank (IsUserClass (codes "Object")) (plain (codes "Object") ∷ [])
    ∷ in_bank (NoSubclasses (codes "Savings")) (plain (codes "Premium") ∷ [])
    ∷ in_bank (NotReferenced (codes "Premium")) (at (codes "doit") (0 ∷ 0 ∷ 0 ∷ 0 ∷ []) ∷ at (codes "doit") (2 ∷ 0 ∷ 0 ∷ 0 ∷ []) ∷ [])
    ∷ row bank (AddInstVar (codes "Account") (codes "rate")) None (VariableFree (codes "Account") (codes "rate")) (plain (codes "Savings") ∷ plain (codes "Checking") ∷ at (codes "Savings>>interest") (0 ∷ 0 ∷ []) ∷ at (codes "Premium>>extra") (0 ∷ 0 ∷ 0 ∷ []) ∷ [])
    ∷ row bank (RemoveInstVar (codes "Account") (codes "owner")) None (VariableUnused (codes "Account") (codes "owner")) (at (codes "Savings>>holder") (0 ∷ 0 ∷ []) ∷ [])
    ∷ in_bank (ParentIsUser (codes "Account")) (plain (codes "Object") ∷ [])
    ∷ in_bank (ChildOf (codes "Premium") (codes "Account")) (plain (codes "Savings") ∷ [])
    ∷ in_bank (LacksVariable (codes "Account") (codes "owner")) (plain (codes "Account") ∷ [])
    ∷ []

-- a tree so much higher than one
abbrev pub tower_on : TreeOf Text → ℕ → TreeOf Text
tower_on t zero = t
tower_on t (suc n) = unary (tower_on t n) (codes "abs")

-- a tree so high
abbrev pub tower : ℕ → TreeOf Text
tower n = tower_on (name (codes "self")) n

abbrev pub methods : List Row
methods =
    in_bank (Implements (codes "Object") false (codes "copy")) (plain (codes "Object>>copy whole") ∷ [])
    ∷ in_bank (NotImplements (codes "Checking") false (codes "fee")) (plain (codes "Checking>>fee whole") ∷ [])
    ∷ in_bank (Removable (codes "Savings") false (codes "bonus")) (at (codes "doit") (1 ∷ 0 ∷ []) ∷ [])
    ∷ in_bank (NoSuper (codes "Savings") false (codes "fee")) (at (codes "Savings>>fee") (0 ∷ 0 ∷ 0 ∷ []) ∷ [])
    ∷ in_bank (MeansSame (codes "Savings") false (codes "interest") (codes "Account")) (at (codes "Savings>>interest rate: instance variable of Savings, nothing") (0 ∷ 0 ∷ []) ∷ [])
    ∷ row bank (AddMethod (codes "Premium") false (codes "p") (codes "fee") (answering (codes "fee") (numeral (codes "3")))) None (Unreached (codes "fee")) (plain (codes "Premium") ∷ at (codes "doit") (0 ∷ 0 ∷ 0 ∷ 0 ∷ []) ∷ at (codes "doit") (2 ∷ 0 ∷ 0 ∷ 0 ∷ []) ∷ [])
    ∷ in_bank (ParameterUnused (codes "with:") 1) (at (codes "Loan>>with:") (0 ∷ 0 ∷ []) ∷ [])
    ∷ row noted any None (PlainArguments (codes "note:at:") 2) (at (codes "doit") (0 ∷ 0 ∷ []) ∷ [])
    ∷ []

-- the node to which a path leads
abbrev pub node : List ℕ → Option Part
node path = Some (Expression path)

abbrev pub parts : List Row
parts =
    row bank any (node (0 ∷ 0 ∷ 0 ∷ [])) (PartIs (codes "Savings") false (codes "fee") 1 2) (at (codes "Savings>>fee") (0 ∷ 0 ∷ 0 ∷ []) ∷ [])
    ∷ row bank any (Some (Run [] 0 1)) (NoReturn (codes "Savings") false (codes "fee") 1 2) (at (codes "Savings>>fee") (0 ∷ []) ∷ [])
    ∷ row counting any (node (1 ∷ 0 ∷ [])) (AssignsNoOuter (codes "A") false (codes "go") 1 2) (at (codes "A>>go") (1 ∷ 0 ∷ 0 ∷ []) ∷ [])
    ∷ row counting any (node (2 ∷ 0 ∷ [])) (TempsSteady (codes "A") false (codes "go") 1 2) (at (codes "A>>go") (2 ∷ 0 ∷ 1 ∷ []) ∷ [])
    ∷ row counting any (Some (Run (1 ∷ 0 ∷ []) 0 1)) (ValueUnused (codes "A") false (codes "go") 1 2) (at (codes "A>>go run") (1 ∷ 0 ∷ 0 ∷ 1 ∷ []) ∷ [])
    ∷ row bank any (node (0 ∷ 0 ∷ 1 ∷ [])) (FirstEvaluated (codes "Premium") false (codes "extra") 1 2) (at (codes "Premium>>extra") (0 ∷ 0 ∷ 0 ∷ []) ∷ [])
    ∷ []

-- the bank with one more method that sends a message to `self`; the part is that message
abbrev pub inlining : Text → MethodOf Text → ConditionOf Text → List Short → Row
inlining c tree condition shown =
    row (with_method bank (method c tree)) (InlineMethod c false tree.selector 1 2) (node (0 ∷ 0 ∷ [])) condition shown

abbrev pub due : Text → TreeOf Text
due s = unary (name (codes "self")) s

abbrev pub messages : List Row
messages =
    row bank any (node (0 ∷ 0 ∷ [])) (SelfSend (codes "Premium") false (codes "extra") 1 2) (at (codes "Premium>>extra") (0 ∷ 0 ∷ 0 ∷ []) ∷ [])
    ∷ in_bank (OneTarget (codes "Account") false (codes "fee")) (plain (codes "Savings>>fee whole") ∷ plain (codes "Checking>>fee whole") ∷ [])
    ∷ inlining (codes "Premium") (answering (codes "due") (due (codes "fee"))) (Inlinable (codes "Savings") false (codes "fee")) (at (codes "Savings>>fee") (0 ∷ 0 ∷ 0 ∷ []) ∷ [])
    ∷ inlining (codes "Loan") (answering (codes "due") (send (name (codes "self")) (codes "with:") (trees_of (due (codes "tax") ∷ [])))) (PlainActuals (codes "Loan") false (codes "due") 1 2) (at (codes "Loan>>due") (0 ∷ 0 ∷ 1 ∷ []) ∷ [])
    ∷ inlining (codes "Premium") (taking (codes "due:") (codes "rate" ∷ []) (due (codes "interest"))) (NoCapture (codes "Premium") false (codes "due:") (AtPart 1 2)) (at (codes "Savings>>interest rate: instance variable of Savings, argument") (0 ∷ 0 ∷ []) ∷ [])
    ∷ row going any (node (0 ∷ 0 ∷ 1 ∷ [])) (NoNewControl (codes "A") false (codes "go:") (AtPart 23 32)) (at (codes "A>>go:") (0 ∷ 0 ∷ []) ∷ [])
    ∷ []

-- `keep: x | t | t := x. ^[:x | t]`, whose `x` means another thing in the block
abbrev pub keep : EntryOf Text
keep =
    method (codes "Loan") (told (codes "keep:") (codes "x" ∷ []) [] (codes "t" ∷ [])
    (lines (assign (codes "t") (name (codes "x")) ∷ return (block (codes "x" ∷ []) [] (lines (name (codes "t") ∷ [])) []) ∷ [])) [])

-- `test: x | t | t := [1]. ^x ifTrue: t`
abbrev pub test : EntryOf Text
test =
    method (codes "Loan") (told (codes "test:") (codes "x" ∷ []) [] (codes "t" ∷ [])
    (lines (assign (codes "t") (block [] [] (lines (numeral (codes "1") ∷ [])) []) ∷ return (asked (name (codes "x")) (codes "ifTrue:") (name (codes "t") ∷ [])) ∷ [])) [])

-- `twice | t | t := 1. t := 2. ^t`
abbrev pub twice : EntryOf Text
twice =
    method (codes "Loan") (told (codes "twice") [] [] (codes "t" ∷ [])
    (lines (assign (codes "t") (numeral (codes "1")) ∷ assign (codes "t") (numeral (codes "2")) ∷ return (name (codes "t")) ∷ [])) [])

abbrev pub temporaries : List Row
temporaries =
    row (with_method bank (method (codes "Loan") (taking (codes "dup:") (codes "x" ∷ []) (block (codes "x" ∷ []) [] (more_statements [] (name (codes "x")) no_statements) [])))) any None (Declared (codes "Loan") false (codes "dup:") (codes "x")) (plain (codes "Loan>>dup: whole") ∷ at (codes "Loan>>dup:") (0 ∷ 0 ∷ []) ∷ [])
    ∷ in_bank (NotIn (codes "Loan") false (codes "with:") (codes "note")) (plain (codes "Loan>>with: whole") ∷ at (codes "Loan>>with:") (0 ∷ 0 ∷ []) ∷ [])
    ∷ in_bank (LetForm (codes "Loan") false (codes "with:") (codes "note")) (plain (codes "Loan>>with: whole") ∷ [])
    ∷ row (with_method bank twice) any None (LetForm (codes "Loan") false (codes "twice") (codes "t")) (plain (codes "Loan>>twice whole") ∷ at (codes "Loan>>twice") (0 ∷ []) ∷ at (codes "Loan>>twice") (1 ∷ []) ∷ [])
    ∷ row (with_method bank keep) any None (NoCapture (codes "Loan") false (codes "keep:") (AtName (codes "t"))) (at (codes "Loan>>keep: x: argument, block parameter") (1 ∷ 0 ∷ 0 ∷ []) ∷ [])
    ∷ row (with_method bank test) any None (NoNewControl (codes "Loan") false (codes "test:") (AtName (codes "t"))) (at (codes "Loan>>test:") (1 ∷ 0 ∷ []) ∷ [])
    ∷ []

-- `tall | t | t := self abs abs .. . ^t abs abs ..`
abbrev pub tall : EntryOf Text
tall =
    method (codes "Loan") (told (codes "tall") [] [] (codes "t" ∷ [])
    (lines (assign (codes "t") (tower 150) ∷ return (tower_on (name (codes "t")) 100) ∷ [])) [])

-- code that is too high once a command is done: of a parameter that is added, a variable that is read by messages, a part that becomes a method, and a temporary that becomes its value
abbrev pub heights : List Row
heights =
    row (with_method bank (method (codes "Loan") (answering (codes "fee") (tower 201)))) (AddParameter (codes "fee") (codes "fee:") (codes "x") (number (codes "1"))) None Shallow (plain (codes "Loan>>fee whole") ∷ [])
    ∷ row (with_method bank (method (codes "Account") (answering (codes "due") (tower_on (name (codes "owner")) 198)))) (AbstractInstVar (codes "Account") (codes "owner") (codes "owner:") (codes "anObject")) None Shallow (plain (codes "Account>>due whole") ∷ [])
    ∷ row (with_method bank (method (codes "Loan") (answering (codes "due") (tower 205)))) (ExtractMethod (codes "Loan") false (codes "due") 1 2 (codes "part")) (node (0 ∷ 0 ∷ [])) Shallow (plain (codes "Loan>>part whole") ∷ [])
    ∷ row (with_method bank tall) (InlineTemp (codes "Loan") false (codes "tall") (codes "t")) None Shallow (plain (codes "Loan>>tall whole") ∷ [])
    ∷ []

-- a certificate with one step, by the law of this number, of the rule `@x and: [`.@s] ==> `@x ifTrue: [`.@s] ifFalse: [false]
abbrev pub closed : TreeOf Text → TreeOf Text
closed t = block [] [] (more_statements [] t no_statements) []

abbrev pub step : ℕ → CertStep
step law = record { law = law; forward = true; path = [] }

abbrev pub both_rule : ℕ → RuleCommand
both_rule law = record {
  certificate = step law ∷ [];
  rule = record {
    pattern = pattern_of (send (name (codes "`@x")) (codes "and:") (trees_of (closed (name (codes "`.@s")) ∷ [])));
    replacement = pattern_of (send (name (codes "`@x")) (codes "ifTrue:ifFalse:") (trees_of (closed (name (codes "`.@s")) ∷ closed (name (codes "false")) ∷ [])));
  };
}

abbrev pub rule_shown : ImageOf Text → RuleCommand → Reason → List Short
rule_shown i c reason = map (short i) (rule_witnesses i c reason)

-- a certificate is stuck at its first step, or nowhere; code looks at the program
pub record AreRulesShown : Type 0 where
  pub stuck : rule_shown bank (both_rule 5) (Derived (step 5 ∷ [])) ≡ at (codes "step") (1 ∷ []) ∷ []
  pub derived : rule_shown bank (both_rule 4) (Derived (step 4 ∷ [])) ≡ []
  pub reflective : rule_shown (plus bank (doit (unary (name (codes "Smalltalk")) (codes "foo")))) (both_rule 4) (Unmet NoReflection) ≡ at (codes "doit") (4 ∷ 0 ∷ 0 ∷ []) ∷ []

-- the text of a refusal explained, in which a line of a witness stands once
abbrev pub IsText : Type 0
IsText =
    explained (record { number = 2; condition = Unmet (NoSubclasses (codes "Account")) }) 3 (codes "removeClass Account") None (codes "class Savings\n" ∷ codes "class Loan\n" ∷ codes "class Savings\n" ∷ [])
    ≡ codes "refused 2 C11 NoSubclasses Account\nline 3 removeClass Account\nNo class is directly under the class.\nclass Savings\nclass Loan\n"
