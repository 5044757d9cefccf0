-- The parts of a case that are read one after the other.
use Rattle.std.proofs.Common.{◌≡◌, ℕ, List, [], ◌∷◌, ◌++◌, refl, sym, ap, ◌∙◌, map, reverse}
use Rattle.std.specs.Prelude.{codes}
use Rattle.std.proofs.lemmas.List.{map-append, reverse-append}
use Rattle.std.proofs.lemmas.List.Elements.{All-push}
use Rattle.rb_base.specs.FilesInMemory.{FilesInMemory}
use Rattle.rb_base.specs.declared.memory_shelf.StoredFile.{StoredFile}
use Rattle.case_tables.specs.CaseTexts.{Piece, WrittenFile, WrittenCase, IsLine, AreFiles, words_text, files_text, loads_text, puts_text, wanted_text, case_text, pieces_text, pieces_bytes, stored_files}
use Rattle.case_tables.proofs.Texts.{joined, joined_by, text_more}

-- What a shelf holds of the files that were read.
pub record FilesRead (old rest : List ℕ) (shelf : FilesInMemory) : Type 0 where
  pub files : List WrittenFile
  pub text : old ≡ files_text files ++ rest
  pub lines : AreFiles files
  pub shelf_is : shelf ≡ record { files = stored_files files; refusals = []; calls = 0; faults = 0; taken = 0 }

stored_more : (files : List WrittenFile) (file : WrittenFile) → stored_files (files ++ file ∷ []) ≡ record { name = file.name; bytes = pieces_bytes file.pieces } ∷ stored_files files
stored_more files file =
    let stored : WrittenFile → StoredFile = λ f. record { name = f.name; bytes = pieces_bytes f.pieces } in
    ap reverse (map-append stored files (file ∷ [])) ∙ reverse-append (map stored files) (stored file ∷ [])

pub file_more : (old mid rest others new name bytes : List ℕ) (shelf next : FilesInMemory) (pieces : List Piece) → FilesRead old mid shelf → mid ≡ codes "file " ++ rest → rest ≡ name ++ 10 ∷ others → IsLine name
    → others ≡ pieces_text pieces ++ new → bytes ≡ pieces_bytes pieces → next ≡ record shelf { files = record { name = name; bytes = bytes } ∷ shelf.files } → FilesRead old new next
file_more old mid rest others new name bytes shelf next pieces r e f line g same h =
    let file : WrittenFile = record { name = name; pieces = pieces } in
    record {
      files = r.files ++ file ∷ [];
      text = text_more (λ (w : WrittenFile). codes "file " ++ (w.name ++ 10 ∷ pieces_text w.pieces)) r.files file old mid new r.text
          (e ∙ ap (λ l. codes "file " ++ l) (joined_by 10 rest name others (pieces_text pieces) new f g));
      lines = All-push (λ (w : WrittenFile). IsLine w.name) r.files file r.lines line;
      shelf_is = h ∙ ap (λ (b : List ℕ). record shelf { files = record { name = name; bytes = b } ∷ shelf.files }) same
          ∙ ap (λ (s : FilesInMemory). record s { files = record { name = name; bytes = pieces_bytes pieces } ∷ s.files }) r.shelf_is
          ∙ ap (λ (fs : List StoredFile). record { files = fs; refusals = []; calls = 0; faults = 0; taken = 0 }) (sym (stored_more r.files file));
    }

pub case_read : (w : WrittenCase) (old named worded filed loaded put new : List ℕ) → old ≡ codes "case " ++ (w.name ++ 10 ∷ named) → named ≡ words_text w.words ++ worded → worded ≡ files_text w.files ++ filed
    → filed ≡ loads_text w.loads ++ loaded → loaded ≡ puts_text w.puts ++ put → put ≡ wanted_text w.status w.sent w.calls ++ new → old ≡ case_text w ++ new
case_read w old named worded filed loaded put new e f g h i k =
    let wanted = wanted_text w.status w.sent w.calls in
    let puts = joined loaded (puts_text w.puts) put wanted new i k in
    let loads = joined filed (loads_text w.loads) loaded (puts_text w.puts ++ wanted) new h puts in
    let files = joined worded (files_text w.files) filed (loads_text w.loads ++ (puts_text w.puts ++ wanted)) new g loads in
    let words = joined named (words_text w.words) worded (files_text w.files ++ (loads_text w.loads ++ (puts_text w.puts ++ wanted))) new f files in
    e ∙ ap (λ l. codes "case " ++ l) (joined_by 10 (w.name ++ 10 ∷ named) w.name named (words_text w.words ++ (files_text w.files ++ (loads_text w.loads ++ (puts_text w.puts ++ wanted)))) new refl words)
