-- How a case stands in a table, and what it says.
use Rattle.std.specs.Prelude.{◌≡◌, ◌≢◌, ◌<◌, ℕ, zero, suc, ◌+◌, ◌-◌, ◌==◌, if◌then◌else◌, List, [], ◌∷◌, ◌++◌, length, map, reverse, flat_map, decimal, codes, string_bytes, Option, Some, None, All}
use Rattle.rb_base.specs.declared.memory_shelf.StoredFile.{StoredFile}
use Rattle.case_tables.specs.declared.case.Case.{Case}

-- a number that ends a line
abbrev pub number_text : ℕ → List ℕ
number_text number = decimal number ++ 10 ∷ []

-- a line of the length, the bytes and a line feed
abbrev pub bytes_text : List ℕ → List ℕ
bytes_text bytes = decimal (length bytes) ++ 10 ∷ (bytes ++ 10 ∷ [])

pub data Piece : Type 0 where
  Plain : List ℕ → Piece
  Repeated : ℕ → List ℕ → Piece
  Counted : ℕ → ℕ → List ℕ → Piece

abbrev pub piece_text : Piece → List ℕ
piece_text (Plain bytes) = codes "text " ++ bytes_text bytes
piece_text (Repeated times bytes) = codes "repeat " ++ (decimal times ++ 32 ∷ bytes_text bytes)
piece_text (Counted from before bytes) = codes "count " ++ (decimal from ++ 32 ∷ (decimal before ++ 32 ∷ bytes_text bytes))

-- the bytes so many times
abbrev pub repeated : ℕ → List ℕ → List ℕ
repeated zero bytes = []
repeated (suc times) bytes = bytes ++ repeated times bytes

-- the bytes with the digits of the number in the place of each `@`
abbrev pub with_number : ℕ → List ℕ → List ℕ
with_number number bytes = flat_map (λ byte. if byte == 64 then decimal number else byte ∷ []) bytes

-- the bytes once for each of so many numbers, from this one on
abbrev pub counted : ℕ → ℕ → List ℕ → List ℕ
counted from zero bytes = []
counted from (suc numbers) bytes = with_number from bytes ++ counted (from + 1) numbers bytes

abbrev pub piece_bytes : Piece → List ℕ
piece_bytes (Plain bytes) = bytes
piece_bytes (Repeated times bytes) = repeated times bytes
piece_bytes (Counted from before bytes) = counted from (before - from) bytes

abbrev pub pieces_text : List Piece → List ℕ
pieces_text pieces = flat_map piece_text pieces

abbrev pub pieces_bytes : List Piece → List ℕ
pieces_bytes pieces = flat_map piece_bytes pieces

pub record WrittenFile : Type 0 where
  pub name : List ℕ
  pub pieces : List Piece

pub record WrittenCase : Type 0 where
  pub name : List ℕ
  pub words : List (List ℕ)
  pub files : List WrittenFile
  pub loads : List ℕ
  pub puts : List (ℕ × ℕ)
  pub status : ℕ
  pub sent : List Piece
  pub calls : Option ℕ

abbrev pub words_text : List (List ℕ) → List ℕ
words_text words = flat_map (λ word. codes "word " ++ bytes_text word) words

abbrev pub files_text : List WrittenFile → List ℕ
files_text files = flat_map (λ (file : WrittenFile). codes "file " ++ (file.name ++ 10 ∷ pieces_text file.pieces)) files

abbrev pub loads_text : List ℕ → List ℕ
loads_text loads = flat_map (λ load. codes "load " ++ number_text load) loads

abbrev pub puts_text : List (ℕ × ℕ) → List ℕ
puts_text puts = flat_map (λ (put : ℕ × ℕ). codes "put " ++ (decimal put.0 ++ 32 ∷ number_text put.1)) puts

-- how many puts are to be called, if that is asked
abbrev pub calls_text : Option ℕ → List ℕ
calls_text (Some calls) = codes "puts " ++ number_text calls
calls_text None = []

abbrev pub wanted_text : ℕ → List Piece → Option ℕ → List ℕ
wanted_text status sent calls = codes "status " ++ (number_text status ++ (codes "sent\n" ++ (pieces_text sent ++ calls_text calls)))

abbrev pub case_text : WrittenCase → List ℕ
case_text w = codes "case " ++ (w.name ++ 10 ∷ (words_text w.words ++ (files_text w.files ++ (loads_text w.loads ++ (puts_text w.puts ++ wanted_text w.status w.sent w.calls)))))

-- the files of a case, the newest first
abbrev pub stored_files : List WrittenFile → List StoredFile
stored_files files = reverse (map (λ (file : WrittenFile). record { name = file.name; bytes = pieces_bytes file.pieces }) files)

-- no line feed is in it
abbrev pub IsLine : List ℕ → Type 0
IsLine text = All (λ byte. byte ≢ 10) text

abbrev pub AreFiles : List WrittenFile → Type 0
AreFiles files = All (λ (file : WrittenFile). IsLine file.name) files

-- the case says what is written
pub record IsCase (w : WrittenCase) (case : Case) : Type 0 where
  pub name : case.name.now ≡ w.name
  pub line : IsLine w.name × (0 < length w.name)
  pub words : map string_bytes case.words.items ≡ w.words
  pub shelf : case.shelf ≡ record { files = stored_files w.files; refusals = w.loads; calls = 0; faults = 0; taken = 0 }
  pub files : AreFiles w.files
  pub puts : case.sink.refusals ≡ w.puts
  pub nothing_sent : (case.sink.bytes ≡ []) × (case.sink.calls ≡ 0) × (case.sink.faults ≡ 0)
  pub status : case.wanted.status ≡ w.status
  pub sent : case.wanted.sent.items ≡ pieces_bytes w.sent
  pub calls : case.wanted.puts ≡ w.calls

-- these pieces were read, and their bytes appended
pub record ReadsPieces (old new before after : List ℕ) : Type 0 where
  pub pieces : List Piece
  pub text : old ≡ pieces_text pieces ++ new
  pub bytes : after ≡ before ++ pieces_bytes pieces

-- the same of one piece
pub record ReadsPiece (old new before after : List ℕ) : Type 0 where
  pub piece : Piece
  pub text : old ≡ piece_text piece ++ new
  pub bytes : after ≡ before ++ piece_bytes piece
