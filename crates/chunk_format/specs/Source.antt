-- The source of a chunk.
use Rattle.std.specs.Prelude.{◌≡◌, ℕ, List, ◌++◌}
use Rattle.rb_base.specs.Doubling.{doubled}
use Rattle.chunk_format.specs.Blank.{drop_blanks}

-- the source with each mark written twice is the body without the blanks that it begins with
abbrev pub IsSource : List ℕ → List ℕ → Type 0
IsSource body source = doubled 33 source ≡ drop_blanks body

-- new is old and then the source of the body
abbrev pub AppendsSource : List ℕ → List ℕ → List ℕ → Type 0
AppendsSource body old new = (source : List ℕ) × IsSource body source × (new ≡ old ++ source)
