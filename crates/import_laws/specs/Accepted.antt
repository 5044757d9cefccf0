-- Why a file-out that was imported can still be refused.
use Rattle.std.specs.Prelude.{◌≡◌, Bool, true, false, Some}
use Rattle.token_model.specs.declared.kind.Dialect.TheVariants.{Second}
use Rattle.tree_model.specs.Tree.{SequenceOf}
use Rattle.chunk_format.specs.Left.{Left}
use Rattle.chunk_format.specs.Chunks.{Piece, Takes}
use Rattle.chunk_format.specs.Source.{IsSource}
use Rattle.grammar_model.specs.Whole.{Method}
use Rattle.grammar_model.specs.Checks.{Fault}
use Rattle.grammar_model.specs.Spelling.{SpellsDoIt, HasFirstFault}
use Rattle.file_model.specs.Causes.{Cause, UnknownSuperclass, Cycle, VariableTwice, KernelReplaced, UnknownClass, TooMany, PoolsNotEmpty, UnknownDefinition, Unended, Syntax, Refusal}
use Rattle.file_model.specs.Filing.{Text}
use Rattle.file_model.specs.Forms.{Replacement, replacement_in}
use Rattle.file_model.specs.Reading.{refusal}

-- whether a cause depends on the classes and methods that are there
abbrev pub depends_on_image : Cause → Bool
depends_on_image UnknownSuperclass = true
depends_on_image Cycle = true
depends_on_image VariableTwice = true
depends_on_image KernelReplaced = true
depends_on_image UnknownClass = true
depends_on_image TooMany = true
depends_on_image PoolsNotEmpty = false
depends_on_image UnknownDefinition = false
depends_on_image Unended = false
depends_on_image (Syntax fault) = false

-- the chunk is one of what is left
pub data IsChunkOf : Left → Piece → Type 0 where
  First : {left new : Left} {p : Piece} → Takes left p new → IsChunkOf left p
  Later : {left new : Left} {p q : Piece} → Takes left q new → IsChunkOf new p → IsChunkOf left p

-- why a chunk of this source is refused: by the classes and methods that are there; as a method that is none; or because it replaces a do-it
pub data IsLeft (source : Text) : Cause → Type 0 where
  OfImage : {cause : Cause} → depends_on_image cause ≡ true → IsLeft source cause
  OfMethod : {fault : Fault} → HasFirstFault Second (Method false) source fault → IsLeft source (Syntax fault)
  OfReplacement : {cause : Cause} {b : SequenceOf Text} {r : Replacement} → SpellsDoIt Second source b → replacement_in b ≡ Some r → IsLeft source cause

-- a refusal of a chunk of what is left for such a cause
pub record IsLeftAt (left : Left) (r : Refusal) : Type 0 where
  pub chunk : Piece
  pub among : IsChunkOf left chunk
  pub source : Text
  pub is_source : IsSource chunk.body source
  pub cause : Cause
  pub why : IsLeft source cause
  pub refusal : r ≡ refusal chunk cause
