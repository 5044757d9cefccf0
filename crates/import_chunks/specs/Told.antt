-- What is answered where chunks are imported, by the texts of names.
use Rattle.std.specs.Prelude.{◌≡◌, List, ◌++◌, Option, Some, option_map, Result, Ok, Err}
use Rattle.rb_base.specs.Names.{name_at}
use Rattle.chunk_format.specs.Chunks.{Piece}
use Rattle.file_model.specs.Causes.{Cause, Refusal}
use Rattle.file_model.specs.Filing.{Text}
use Rattle.file_model.specs.Forms as forms
use Rattle.file_model.specs.Reading.{refusal}
use Rattle.file_faults.specs.declared.fault.ImageCause.{ImageCause}
use Rattle.file_faults.specs.declared.fault.ImageFault.{ImageFault}
use Rattle.file_faults.specs.declared.fault.ImageFault.TheVariants as fault
use Rattle.file_faults.specs.Faults.{cause_of, refusal_of}
use Rattle.import_model.specs.Foreign as model
use Rattle.import_model.specs.Foreign.{tagged}
use Rattle.import_model.specs.Steps as step
use Rattle.import_model.specs.Steps.{Made, Imports}
use Rattle.import_chunks.specs.declared.next.Next.{Next}
use Rattle.import_chunks.specs.declared.next.Next.TheVariants as next
use Rattle.import_chunks.specs.declared.next.Stop.{Stop}
use Rattle.import_chunks.specs.declared.next.Stop.TheVariants as stop
use Rattle.import_chunks.specs.declared.foreign.Ending.{Ending}
use Rattle.import_chunks.specs.declared.foreign.ForeignStrings.{ForeignStrings}

-- the ending of a definition
abbrev pub ending_text : Ending → model.Ending
ending_text e = record { pools = e.pools.now; category = tagged e.base.now e.tag.now }

-- the strings of a definition
abbrev pub strings_text : ForeignStrings → forms.DefinitionStrings
strings_text d = record { name = d.name.now; instance = d.instance.now; shared = d.shared.now; pools = d.pools.now; category = tagged d.base.now d.tag.now }

-- the cause, if there is one, is told
abbrev pub option_cause : Option ImageCause → Option Cause → Type 0
option_cause cause k = option_map cause_of cause ≡ option_map Some k

-- what the next chunk is
abbrev pub next_text : List Text → Next → step.Next
next_text names next.Outside = step.Outside
next_text names next.InRun = step.InRun
next_text names (next.AtComment class chunk) = step.AtComment (name_at names class) chunk

-- the chunk becomes a text that was appended, and this is what the next chunk is: of that the fact holds
pub record Becoming (P : Result Made Cause → Type 0) (next : step.Next) (old new : Text) : Type 0 where
  pub text : Text
  pub appended : new ≡ old ++ text
  pub becomes : P (Ok (record { text = text; next = next }))

-- a fact holds of what the chunk becomes, or of the cause for which it is refused
abbrev pub Answers : (Result Made Cause → Type 0) → List Text → Text → Text → Result Next Stop → Type 0
Answers P names old new (Ok next) = Becoming P (next_text names next) old new
Answers P names old new (Err (stop.Refused cause)) = (k : Cause) × (cause_of cause ≡ Some k) × P (Err k)
Answers P names old new (Err stop.Memory) = Unit {0}

-- a chunk is refused, and this is its refusal
pub record RefusesChunk (p : Piece) (now : step.Next) (r : Refusal) : Type 0 where
  pub cause : Cause
  pub imports : Imports p now (Err cause)
  pub refusal : r ≡ refusal p cause

-- the fault is want of memory, or tells a refusal of which the fact holds
pub data Tells (P : Refusal → Type 0) : ImageFault → Type 0 where
  WantsMemory : Tells P fault.Memory
  Told : {answer : ImageFault} {refusal : Refusal} → refusal_of answer ≡ Some refusal → P refusal → Tells P answer
