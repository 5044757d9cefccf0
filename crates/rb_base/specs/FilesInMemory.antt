-- Files that are kept in memory.
use Rattle.std.specs.Prelude.{ℕ, ◌+◌, List, Option, min, find, ◌==◌, Bool}
use Rattle.std.specs.List.{list_any}
use Rattle.std.specs.Option.{option_map_or}
use Rattle.std.specs.Str.{bytes_eq}
use Rattle.rb_base.specs.Outside.{Told, File, NoFile, last_count}
use Rattle.rb_base.specs.declared.memory_shelf.StoredFile.{StoredFile}

-- The files, the newest first; which loads fail; how often files were asked for, how often a load failed, and how many bytes were taken.
pub record FilesInMemory : Type 0 where
  pub files : List StoredFile
  pub refusals : List ℕ
  pub calls : ℕ
  pub faults : ℕ
  pub taken : ℕ

-- the newest file of the name
abbrev pub file_of : List StoredFile → List ℕ → Option StoredFile
file_of files name = find (λ f. bytes_eq f.name name) files

-- what is told of the file of a name
abbrev pub told_of : List StoredFile → List ℕ → Told
told_of files name = option_map_or (λ (f : StoredFile). File f.bytes) (file_of files name) NoFile

-- whether the load of this number fails
abbrev pub load_fails : List ℕ → ℕ → Bool
load_fails refusals call = list_any (λ r. r == call) refusals

-- a counter that rises by n
abbrev pub plus : ℕ → ℕ → ℕ
plus count n = min (count + n) last_count
