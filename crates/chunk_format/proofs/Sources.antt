-- The source of a chunk, and where it is shown.
use Rattle.std.proofs.Common.{◌≡◌, ℕ, Bool, true, false, List, ap, sym, ◌∙◌, Some, None}
use Rattle.std.specs.Prelude.{Option, is_some, MatchBool, if◌then◌else◌}
use Rattle.memchr.specs.Find.{IsFirstByte, is_byte}
use Rattle.rb_base.specs.Doubling.{doubled}
use Rattle.chunk_format.specs.Blank.{blank_len, drop_blanks}
use Rattle.chunk_format.specs.Chunks.{holds_mark}
use Rattle.chunk_format.specs.Source.{IsSource}
use Rattle.chunk_format.proofs.Doubles.{doubled-no_mark, HasNoMark-from_none}
use Rattle.chunk_format.proofs.Blanks.{doubled-plain, holds_mark-drop}

-- a body that holds no mark is its own source, without the blanks that it begins with
pub IsSource-plain : (body : List ℕ) → holds_mark body ≡ false → IsSource body (drop_blanks body)
IsSource-plain body h = doubled-plain (drop_blanks body) (holds_mark-drop (blank_len body) body h)

-- what is shown is the source, and the room is that or as before
pub IsSource-shown : (twice : Bool) (body new old shown : List ℕ) → twice ≡ holds_mark body → MatchBool twice (IsSource body new) (new ≡ old) → shown ≡ (if twice then new else drop_blanks body) → MatchBool twice (new ≡ shown) (new ≡ old) × IsSource body shown
IsSource-shown true body new old shown told room is = (sym is, ap (doubled 33) is ∙ room)
IsSource-shown false body new old shown told room is = (room, ap (doubled 33) is ∙ IsSource-plain body (sym told))

-- a search that finds no mark
pub doubled-not_found : (s : List ℕ) (found : Option ℕ) → IsFirstByte (is_byte 33) s found → is_some found ≡ false → doubled 33 s ≡ s
doubled-not_found s None first none = doubled-no_mark 33 s (HasNoMark-from_none 33 s first)
doubled-not_found s (Some k) first none = cc
