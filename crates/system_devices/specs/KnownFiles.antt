-- What is known of files and of the output of the system.
use Rattle.std.specs.Prelude.{◌≡◌, ℕ, List, ◌++◌, Option, None, Some}
use Rattle.std.specs.Io.KnownBytes.{Appends}
use Rattle.rb_base.specs.Outside.{Told, Untold, File}

-- of a file whose bytes are known they are told, and of any other one nothing
abbrev pub told_of_known : Option (List ℕ) → Told
told_of_known None = Untold
told_of_known (Some bytes) = File bytes

-- of the output nothing is told
abbrev pub nothing_told : Option (List ℕ)
nothing_told = None

-- known bytes grow by some first bytes of the piece
abbrev pub AppendsPart : Option (List ℕ) → Option (List ℕ) → List ℕ → Type 0
AppendsPart old new piece = (part rest : List ℕ) × (piece ≡ part ++ rest) × Appends old new part
