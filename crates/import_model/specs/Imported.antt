-- What a file-out of another Smalltalk becomes: a file-out of this one, or the refusal of its first chunk that has no form here.
use Rattle.std.specs.Prelude.{[], ◌∷◌, ◌++◌, drop, nat_eq, if◌then◌else◌, Result, Ok, Err}
use Rattle.std.specs.List.{starts_with}
use Rattle.chunk_format.specs.Left.{Left, start_of}
use Rattle.chunk_format.specs.Chunks.{Piece, Takes, IsOver, IsUnended}
use Rattle.chunk_format.specs.declared.chunk_iter.Unended.{Unended as NoEnd}
use Rattle.file_model.specs.Causes.{Cause, UnknownDefinition, Refusal}
use Rattle.file_model.specs.Filing.{Text}
use Rattle.file_model.specs.Reading.{refusal, no_end}
use Rattle.import_model.specs.Steps.{Next, Outside, InRun, AtComment, Made, Imports}

-- a text after another
abbrev pub after : Text → Result Text Refusal → Result Text Refusal
after before (Ok text) = Ok (before ++ text)
after before (Err r) = Err r

-- the blanks after the last chunk stay; a chunk that announced a comment is refused if no chunk follows
abbrev pub ended : Next → Text → Result Text Refusal
ended Outside blanks = Ok blanks
ended InRun blanks = Ok blanks
ended (AtComment class n) blanks = Err (record { chunk = n; at = 0; cause = UnknownDefinition })

-- what is left of a text becomes this, chunk after chunk
pub data Becomes : Next → Left → Result Text Refusal → Type 0 where
  Over : {now : Next} {left : Left} → IsOver left → Becomes now left (ended now left.rest)
  Cut : {now : Next} {left : Left} {e : NoEnd} → IsUnended left e → Becomes now left (Err (no_end e))
  Chunk : {now : Next} {left new : Left} {p : Piece} {m : Made} {r : Result Text Refusal} → Takes left p new → Imports p now (Ok m) → Becomes m.next new r → Becomes now left (after m.text r)
  Refused : {now : Next} {left new : Left} {p : Piece} {cause : Cause} → Takes left p new → Imports p now (Err cause) → Becomes now left (Err (refusal p cause))

-- the byte order mark
abbrev pub byte_order_mark : Text
byte_order_mark = 239 ∷ 187 ∷ 191 ∷ []

-- the text without the byte order mark at its beginning, if it has one
abbrev pub without_mark : Text → Text
without_mark text = if starts_with nat_eq text byte_order_mark then drop 3 text else text

-- the file-out becomes this text, or is refused
abbrev pub IsImported : Text → Result Text Refusal → Type 0
IsImported text r = Becomes Outside (start_of (without_mark text)) r
