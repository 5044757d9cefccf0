-- What is answered where a text is read.
use Rattle.std.specs.Prelude.{◌≡◌, Bool, List, Option, Some, Err, Result}
use Rattle.token_model.specs.declared.kind.Dialect.TheVariants.{Second}
use Rattle.chunk_format.specs.Left.{Left}
use Rattle.chunk_format.specs.Chunks.{Piece, HasChunks}
use Rattle.chunk_format.specs.declared.chunk_iter.Unended.{Unended}
use Rattle.file_model.specs.Causes.{Cause, Refusal}
use Rattle.file_model.specs.Filing.{Filing}
use Rattle.file_model.specs.Reading.{Takes, TakesAll, refusal}
use Rattle.file_faults.specs.declared.fault.ImageFault.{ImageFault}
use Rattle.file_faults.specs.declared.fault.ImageFault.TheVariants as fault
use Rattle.file_faults.specs.Faults.{refusal_of}

-- the fault is want of memory, or tells a refusal of which the fact holds
pub data Tells (P : Refusal → Type 0) : ImageFault → Type 0 where
  WantsMemory : Tells P fault.Memory
  Told : {answer : ImageFault} {refusal : Refusal} → refusal_of answer ≡ Some refusal → P refusal → Tells P answer

-- what is left of a text makes this, or is refused
pub record TakesLeft (kernel : Bool) (old : Filing) (left : Left) (r : Result Filing Refusal) : Type 0 where
  pub pieces : List Piece
  pub end : Option Unended
  pub chunks : HasChunks left pieces end
  pub takes : TakesAll Second kernel old pieces end r

-- a chunk is refused, and this is its refusal
pub record RefusesChunk (kernel : Bool) (old : Filing) (p : Piece) (r : Refusal) : Type 0 where
  pub cause : Cause
  pub takes : Takes Second kernel old p (Err cause)
  pub refusal : r ≡ refusal p cause
