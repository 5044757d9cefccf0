-- Why a file-out is refused, and where in it.
use Rattle.std.specs.Prelude.{ℕ, List, [], ◌∷◌, Bool, if◌then◌else◌, Option, Some, None, Result, Ok, Err}
use Rattle.std.specs.Option.{option_map_or}
use Rattle.token_model.specs.declared.fault.LexFault.{LexFault}
use Rattle.token_model.specs.declared.fault.LexFault.TheVariants.{BadByte, OpenString, OpenComment, BadNumeral}
use Rattle.grammar_model.specs.Checks.{Fault, Lexical, TooDeep, Expected, PrimitiveInUser, DuplicateName, AssignsFixed}

-- Why a chunk is refused.
pub data Cause : Type 0 where
  -- a definition names a superclass that is no class, or a class that is removed has subclasses
  UnknownSuperclass : Cause
  -- a definition names a superclass that is the class itself or stands below it
  Cycle : Cause
  -- an instance variable or a class-instance variable would stand twice on a chain, or a class variable twice in its list
  VariableTwice : Cause
  -- the chunk would change or remove a class or a method of the kernel
  KernelReplaced : Cause
  -- the chunk speaks of a class that is not there
  UnknownClass : Cause
  -- there are 10,000 classes or 200,000 methods already
  TooMany : Cause
  -- a definition names pool dictionaries
  PoolsNotEmpty : Cause
  -- the chunk is a message by which file-outs define and remove, but in no form that has a meaning
  UnknownDefinition : Cause
  -- no mark ends the last chunk
  Unended : Cause
  -- the chunk is no text of the grammar
  Syntax : Fault → Cause

-- the first chunk that is refused, by its number from 1; the place of the cause; and the cause
pub record Refusal : Type 0 where
  pub chunk : ℕ
  pub at : ℕ
  pub cause : Cause

-- where a token that is none begins
abbrev pub place_of_lexical : LexFault → ℕ
place_of_lexical (BadByte at) = at
place_of_lexical (OpenString at) = at
place_of_lexical (OpenComment at) = at
place_of_lexical (BadNumeral at) = at

-- the place of a fault in the text that has it
abbrev pub place_of_fault : Fault → ℕ
place_of_fault (Lexical fault) = place_of_lexical fault
place_of_fault (TooDeep at) = at
place_of_fault (Expected what at) = at
place_of_fault (PrimitiveInUser at) = at
place_of_fault (DuplicateName at) = at
place_of_fault (AssignsFixed at) = at

-- the place of a cause in the source of its chunk: that of a fault of the grammar, and the beginning for any other cause
abbrev pub place_of : Cause → ℕ
place_of UnknownSuperclass = 0
place_of Cycle = 0
place_of VariableTwice = 0
place_of KernelReplaced = 0
place_of UnknownClass = 0
place_of TooMany = 0
place_of PoolsNotEmpty = 0
place_of UnknownDefinition = 0
place_of Unended = 0
place_of (Syntax fault) = place_of_fault fault

-- a condition under which there is a refusal, and its cause
pub record Condition : Type 0 where
  pub holds : Bool
  pub cause : Cause

-- a condition and its cause
abbrev pub when : Bool → Cause → Condition
when holds cause = record { holds = holds; cause = cause }

-- the cause of the first condition that holds
abbrev pub first_cause : List Condition → Option Cause
first_cause [] = None
first_cause (c ∷ cs) = if c.holds then Some c.cause else first_cause cs

-- the value, unless one of the conditions holds
abbrev pub unless : {X : Type 0} → List Condition → X → Result X Cause
unless cs x = option_map_or Err (first_cause cs) (Ok x)
