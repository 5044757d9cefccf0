-- The lines of a refused script and of a refused command.
use Rattle.std.specs.Prelude.{ℕ, List, [], ◌∷◌, ◌++◌, Bool, if◌then◌else◌, codes}
use Rattle.std.specs.Fmt.{decimal}
use Rattle.text_model.specs.Pieces.{pieces_joined}
use Rattle.script_model.specs.Makers.{Text}
use Rattle.script_model.specs.Commands.{Cause, UnknownCommand, BadArgument, TooMany}
use Rattle.command_model.specs.Conditions.{ConditionOf, NoReflection, IsUserClass, GoodName, NameUnused, SelectorFresh, NotKernelSelector, Arity, Implements, NotImplements, Removable, NoSubclasses, NotReferenced, HasVariable, VariableFree, VariableUnused, ParentIsUser, NoSuper, MeansSame, Unreached, IsClass, ChildOf, LacksVariable, KnownSelector, SpotOf, AtPart, AtName, ParameterUnused, PlainArguments, AtomLiteral, PartIs, NoReturn, AssignsNoOuter, TempsSteady, ValueUnused, SelfSend, OneTarget, Inlinable, PlainActuals, NoCapture, NoNewControl, Declared, NotIn, LetForm, FirstEvaluated, Shallow, UndoLeft, RedoLeft}
use Rattle.certificate_model.specs.CertificateTexts.{certificate_text}
use Rattle.rule_model.specs.RuleCommands.{Reason, Unmet, Derived}
use Rattle.ruled_model.specs.RuledScripts.{Refusal}

-- the text and a line feed
abbrev pub line : Text → Text
line text = text ++ 10 ∷ []

-- a side, and a method
abbrev pub side_text : Bool → Text
side_text meta = if meta then codes "class" else codes "instance"

abbrev pub method_words : Text → Bool → Text → List Text
method_words c meta s = c ∷ side_text meta ∷ s ∷ []

-- a part of a method, and where something is moved in one
abbrev pub part_words : Text → Bool → Text → (from to : ℕ) → List Text
part_words c meta s from to = method_words c meta s ++ decimal from ∷ decimal to ∷ []

abbrev pub spot_words : Text → Bool → Text → SpotOf Text → List Text
spot_words c meta s (AtPart from to) = part_words c meta s from to
spot_words c meta s (AtName x) = method_words c meta s ++ x ∷ []

-- the number of a condition that only commands have which change code, its name and its arguments
abbrev pub code_words : ConditionOf Text → List Text
code_words (ParameterUnused s k) = codes "C20" ∷ codes "ParameterUnused" ∷ s ∷ decimal k ∷ []
code_words (PlainArguments s k) = codes "C21" ∷ codes "PlainArguments" ∷ s ∷ decimal k ∷ []
code_words AtomLiteral = codes "C22" ∷ codes "AtomLiteral" ∷ []
code_words (PartIs c meta s from to) = codes "C23" ∷ codes "PartIs" ∷ part_words c meta s from to
code_words (NoReturn c meta s from to) = codes "C24" ∷ codes "NoReturn" ∷ part_words c meta s from to
code_words (AssignsNoOuter c meta s from to) = codes "C25" ∷ codes "AssignsNoOuter" ∷ part_words c meta s from to
code_words (TempsSteady c meta s from to) = codes "C26" ∷ codes "TempsSteady" ∷ part_words c meta s from to
code_words (ValueUnused c meta s from to) = codes "C27" ∷ codes "ValueUnused" ∷ part_words c meta s from to
code_words (SelfSend c meta s from to) = codes "C28" ∷ codes "SelfSend" ∷ part_words c meta s from to
code_words (OneTarget c meta s) = codes "C29" ∷ codes "OneTarget" ∷ method_words c meta s
code_words (Inlinable c meta s) = codes "C30" ∷ codes "Inlinable" ∷ method_words c meta s
code_words (PlainActuals c meta s from to) = codes "C31" ∷ codes "PlainActuals" ∷ part_words c meta s from to
code_words (NoCapture c meta s spot) = codes "C32" ∷ codes "NoCapture" ∷ spot_words c meta s spot
code_words (NoNewControl c meta s spot) = codes "C33" ∷ codes "NoNewControl" ∷ spot_words c meta s spot
code_words (Declared c meta s x) = codes "C34" ∷ codes "Declared" ∷ method_words c meta s ++ x ∷ []
code_words (NotIn c meta s x) = codes "C35" ∷ codes "NotIn" ∷ method_words c meta s ++ x ∷ []
code_words (LetForm c meta s x) = codes "C36" ∷ codes "LetForm" ∷ method_words c meta s ++ x ∷ []
code_words (FirstEvaluated c meta s from to) = codes "C37" ∷ codes "FirstEvaluated" ∷ part_words c meta s from to
code_words Shallow = codes "C38" ∷ codes "Shallow" ∷ []
code_words condition = []

-- the same of any condition
abbrev pub condition_words : ConditionOf Text → List Text
condition_words NoReflection = codes "C1" ∷ codes "NoReflection" ∷ []
condition_words (IsUserClass c) = codes "C2" ∷ codes "IsUserClass" ∷ c ∷ []
condition_words (GoodName n kind) = codes "C3" ∷ codes "GoodName" ∷ n ∷ []
condition_words (NameUnused n) = codes "C4" ∷ codes "NameUnused" ∷ n ∷ []
condition_words (SelectorFresh s) = codes "C5" ∷ codes "SelectorFresh" ∷ s ∷ []
condition_words (NotKernelSelector s) = codes "C6" ∷ codes "NotKernelSelector" ∷ s ∷ []
condition_words (Arity t count) = codes "C7" ∷ codes "Arity" ∷ t ∷ decimal count ∷ []
condition_words (Implements c meta s) = codes "C8" ∷ codes "Implements" ∷ method_words c meta s
condition_words (NotImplements c meta s) = codes "C9" ∷ codes "NotImplements" ∷ method_words c meta s
condition_words (Removable c meta s) = codes "C10" ∷ codes "Removable" ∷ method_words c meta s
condition_words (NoSubclasses c) = codes "C11" ∷ codes "NoSubclasses" ∷ c ∷ []
condition_words (NotReferenced c) = codes "C12" ∷ codes "NotReferenced" ∷ c ∷ []
condition_words (HasVariable c x) = codes "C13" ∷ codes "HasVariable" ∷ c ∷ x ∷ []
condition_words (VariableFree c x) = codes "C14" ∷ codes "VariableFree" ∷ c ∷ x ∷ []
condition_words (VariableUnused c x) = codes "C15" ∷ codes "VariableUnused" ∷ c ∷ x ∷ []
condition_words (ParentIsUser c) = codes "C16" ∷ codes "ParentIsUser" ∷ c ∷ []
condition_words (NoSuper c meta s) = codes "C17" ∷ codes "NoSuper" ∷ method_words c meta s
condition_words (MeansSame c meta s d) = codes "C18" ∷ codes "MeansSame" ∷ method_words c meta s ++ d ∷ []
condition_words (Unreached s) = codes "C19" ∷ codes "Unreached" ∷ s ∷ []
condition_words (IsClass c) = codes "C39" ∷ codes "IsClass" ∷ c ∷ []
condition_words (ChildOf d c) = codes "C40" ∷ codes "ChildOf" ∷ d ∷ c ∷ []
condition_words (LacksVariable c x) = codes "C41" ∷ codes "LacksVariable" ∷ c ∷ x ∷ []
condition_words (KnownSelector s) = codes "C42" ∷ codes "KnownSelector" ∷ s ∷ []
condition_words UndoLeft = codes "C43" ∷ codes "UndoLeft" ∷ []
condition_words RedoLeft = codes "C44" ∷ codes "RedoLeft" ∷ []
condition_words condition = code_words condition

-- the same of what refuses a line that may ask for a rule: a condition, or C45 with the text of the certificate that does not derive the rule
abbrev pub reason_words : Reason → List Text
reason_words (Unmet condition) = condition_words condition
reason_words (Derived steps) = codes "C45" ∷ codes "Derived" ∷ certificate_text steps ∷ []

-- the line of a command that is refused: its number and its first condition that is false
abbrev pub refusal_line : Refusal → Text
refusal_line r = line (pieces_joined (codes " ") (codes "refused" ∷ decimal r.number ∷ reason_words r.condition))

abbrev pub cause_text : Cause → Text
cause_text UnknownCommand = codes "UnknownCommand"
cause_text BadArgument = codes "BadArgument"
cause_text TooMany = codes "TooMany"

-- the line of a script that is wrong: the number of its first wrong line, and why that is wrong
abbrev pub script_line : ℕ → Cause → Text
script_line number cause = line (codes "script line " ++ decimal number ++ codes " " ++ cause_text cause)
