-- What an answer says of a file-out.
use Rattle.std.specs.Prelude.{◌≡◌, Option, Some, None, option_map}
use Rattle.st_faults.specs.Faults.{fault_of}
use Rattle.token_model.specs.declared.kind.Dialect.TheVariants.{Second}
use Rattle.file_model.specs.Causes as model
use Rattle.file_model.specs.Causes.{Cause, Refusal}
use Rattle.file_model.specs.Filing.{Text}
use Rattle.file_model.specs.Reading.{HasRefusal}
use Rattle.file_faults.specs.declared.fault.ImageCause.{ImageCause}
use Rattle.file_faults.specs.declared.fault.ImageCause.TheVariants.{UnknownSuperclass, Cycle, VariableTwice, KernelReplaced, UnknownClass, TooMany, PoolsNotEmpty, UnknownDefinition, Unended, Syntax}
use Rattle.file_faults.specs.declared.fault.ImageFault.{ImageFault}
use Rattle.file_faults.specs.declared.fault.ImageFault.TheVariants.{Refused, Memory}

-- the cause that a cause of the program tells; a syntax fault that is want of memory tells none
abbrev pub cause_of : ImageCause → Option Cause
cause_of UnknownSuperclass = Some model.UnknownSuperclass
cause_of Cycle = Some model.Cycle
cause_of VariableTwice = Some model.VariableTwice
cause_of KernelReplaced = Some model.KernelReplaced
cause_of UnknownClass = Some model.UnknownClass
cause_of TooMany = Some model.TooMany
cause_of PoolsNotEmpty = Some model.PoolsNotEmpty
cause_of UnknownDefinition = Some model.UnknownDefinition
cause_of Unended = Some model.Unended
cause_of (Syntax fault) = option_map model.Syntax (fault_of fault)

-- the refusal that an answer tells; want of memory tells none
abbrev pub refusal_of : ImageFault → Option Refusal
refusal_of (Refused chunk at cause) = option_map (λ c. record { chunk = chunk; at = at; cause = c }) (cause_of cause)
refusal_of Memory = None

-- the answer is want of memory, or it tells the first refusal of the text
pub data IsRefused (prelude text : Text) : ImageFault → Type 0 where
  WantsMemory : IsRefused prelude text Memory
  Told : {fault : ImageFault} {refusal : Refusal} → refusal_of fault ≡ Some refusal → HasRefusal Second prelude text refusal → IsRefused prelude text fault
