-- Runs and methods of the program as the ones that are written.
use Rattle.std.specs.Prelude.{◌≡◌, ℕ, List, [], map, filter, not, Bool, true, false, Option, Some, None, option_map, slice_get, MatchOption}
use Rattle.std.specs.Option.{option_map_or}
use Rattle.rb_base.specs.Names.{name_at}
use Rattle.image_model.specs.Image.{EntryOf, map_entry}
use Rattle.class_table.specs.declared.record.MethodRec.{MethodRec}
use Rattle.class_table.specs.Slots.{Slots}
use Rattle.class_table.specs.View.{live, entry_of}
use Rattle.file_model.specs.Changes.{RunOf}
use Rattle.file_model.specs.Written.{run_of}
use Rattle.image_file.specs.declared.method_texts.UserMethod.{UserMethod}
use Rattle.image_file.specs.Writable.{text_entry}

-- the run of a method of the program
abbrev pub run_text : UserMethod → RunOf (List ℕ)
run_text m = record { class = m.class.now; meta = m.meta; protocol = m.protocol.now }

-- the methods of the user among the live slots of an order
abbrev pub user_entries : Slots → List ℕ → List (EntryOf (List ℕ))
user_entries s order = filter (λ (e : EntryOf _). not e.kernel) (map (map_entry (name_at s.names)) (map (entry_of s.classes) (live s.methods order)))

-- the answer is the run and the source of a method of the user
pub record IsWrittenAs (e : EntryOf (List ℕ)) (m : UserMethod) : Type 0 where
  pub user : e.kernel ≡ false
  pub run : run_text m ≡ run_of e
  pub source : m.source.now ≡ e.source

-- the method is one of the kernel or it is written as the answer
abbrev pub IsAnswerFor : EntryOf (List ℕ) → Option UserMethod → Type 0
IsAnswerFor e None = e.kernel ≡ true
IsAnswerFor e (Some m) = IsWrittenAs e m

-- the answer is that for the method in a slot, if the slot is there
abbrev pub IsUserMethodAt : Slots → ℕ → Option UserMethod → Type 0
IsUserMethodAt s k o = MatchOption (slice_get s.methods k) (o ≡ None) (λ m. IsAnswerFor (text_entry s m) o)
