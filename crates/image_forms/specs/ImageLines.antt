-- The lines of a refused image, of a chunk that is not imported, of a refused expression, and of a refused pattern or replacement.
use Rattle.std.specs.Prelude.{ℕ, List, ◌++◌, codes}
use Rattle.std.specs.Fmt.{decimal}
use Rattle.token_model.specs.declared.fault.LexFault.{LexFault}
use Rattle.token_model.specs.declared.fault.LexFault.TheVariants.{BadByte, OpenString, OpenComment, BadNumeral}
use Rattle.grammar_model.specs.Checks.{Fault, Lexical, TooDeep, Expected, PrimitiveInUser, DuplicateName, AssignsFixed}
use Rattle.st_faults.specs.Words.{word}
use Rattle.file_model.specs.Causes.{Cause, UnknownSuperclass, Cycle, VariableTwice, KernelReplaced, UnknownClass, TooMany, PoolsNotEmpty, UnknownDefinition, Unended, Syntax, Refusal, place_of_fault}
use Rattle.rewrite_model.specs.Saying as saying
use Rattle.image_forms.specs.Loads.{line}

-- why no token begins where one should
abbrev pub lexical_text : LexFault → List ℕ
lexical_text (BadByte at) = codes "BadByte"
lexical_text (OpenString at) = codes "OpenString"
lexical_text (OpenComment at) = codes "OpenComment"
lexical_text (BadNumeral at) = codes "BadNumeral"

-- why a text is none of the grammar
abbrev pub fault_text : Fault → List ℕ
fault_text (Lexical fault) = lexical_text fault
fault_text (TooDeep at) = codes "TooDeep"
fault_text (Expected what at) = codes "Expected " ++ word what
fault_text (PrimitiveInUser at) = codes "PrimitiveInUser"
fault_text (DuplicateName at) = codes "DuplicateName"
fault_text (AssignsFixed at) = codes "AssignsFixed"

-- why a chunk is refused
abbrev pub cause_text : Cause → List ℕ
cause_text UnknownSuperclass = codes "UnknownSuperclass"
cause_text Cycle = codes "Cycle"
cause_text VariableTwice = codes "VariableTwice"
cause_text KernelReplaced = codes "KernelReplaced"
cause_text UnknownClass = codes "UnknownClass"
cause_text TooMany = codes "TooMany"
cause_text PoolsNotEmpty = codes "PoolsNotEmpty"
cause_text UnknownDefinition = codes "UnknownDefinition"
cause_text Unended = codes "Unended"
cause_text (Syntax fault) = fault_text fault

-- the line of a refusal: the chunk, the place of the cause, and the cause
abbrev pub image_refusal : Refusal → List ℕ
image_refusal r = line (codes "image chunk " ++ decimal r.chunk ++ codes " at " ++ decimal r.at ++ codes " " ++ cause_text r.cause)

-- the line of a chunk that is not imported, by its number and the cause
abbrev pub import_refusal : ℕ → Cause → List ℕ
import_refusal chunk cause = line (codes "import chunk " ++ decimal chunk ++ codes " " ++ cause_text cause)

-- the line of an expression that is no do-it: the place of its first fault, and the fault
abbrev pub expression_refusal : Fault → List ℕ
expression_refusal f = line (codes "expression at " ++ decimal (place_of_fault f) ++ codes " " ++ fault_text f)

-- why the text of a pattern or a replacement is refused, and where
abbrev pub text_cause : saying.Cause → List ℕ
text_cause (saying.Grammar f) = fault_text f
text_cause (saying.TwoLists at) = codes "TwoLists"
text_cause (saying.UnboundInReplacement at) = codes "UnboundInReplacement"
text_cause (saying.TwiceDoubled at) = codes "TwiceDoubled"

abbrev pub text_place : saying.Cause → ℕ
text_place (saying.Grammar f) = place_of_fault f
text_place (saying.TwoLists at) = at
text_place (saying.UnboundInReplacement at) = at
text_place (saying.TwiceDoubled at) = at

-- the line of a text of the command line that is refused: what it is, the place of its first fault, and the fault
abbrev pub text_refusal : List ℕ → saying.Cause → List ℕ
text_refusal what c = line (what ++ codes " at " ++ decimal (text_place c) ++ codes " " ++ text_cause c)
