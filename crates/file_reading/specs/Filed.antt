-- What a draft and its names stand for.
use Rattle.std.specs.Prelude.{ℕ, ◌<◌, Bool, List, length, Option}
use Rattle.std.specs.Option.{option_map, ForSome}
use Rattle.rb_base.specs.Names.{name_at}
use Rattle.tree_model.specs.Tree.{map_sequence}
use Rattle.st_tree.specs.declared.tree.Sequence.{Sequence}
use Rattle.st_tree.specs.View.{sequence_of}
use Rattle.image_model.specs.Image.{DoItOf, ImageOf, map_image}
use Rattle.image_model.specs.ImageNames.{ImageNames}
use Rattle.file_model.specs.Changes.{RunOf, map_run}
use Rattle.file_model.specs.Places.{PlacesOf, map_places}
use Rattle.file_model.specs.Filing.{Text, Filing}
use Rattle.file_numbers.specs.PlacesNames.{PlacesNames}
use Rattle.image_draft.specs.Drafted as drafted
use Rattle.placed_draft.specs.Placed.{image_of, places_of, IsWhole}
use Rattle.placed_draft.specs.declared.placed_draft.PlacedDraft.{PlacedDraft}
use Rattle.file_reading.specs.declared.reading.Progress.{Progress}
use Rattle.file_reading.specs.declared.reading.Reading.{Reading}

-- the run of methods in which the next chunk stands, if it stands in one
abbrev pub run_in : PlacedDraft → Option (RunOf ℕ)
run_in d = d.draft.run

-- whether all chunks so far that are not blank are do-its
abbrev pub is_at_head : PlacedDraft → Bool
is_at_head d = d.draft.at_head

-- the image so far, over the texts of names
abbrev pub image_so_far : Progress → ImageOf Text
image_so_far p = map_image (name_at p.names) (image_of p.draft.value)

-- the places that were stated so far, over the texts of names
abbrev pub places_so_far : Progress → PlacesOf Text
places_so_far p = map_places (name_at p.names) (places_of p.draft.value)

-- how far the file-out was read, over the texts of names
abbrev pub filed : Progress → Filing
filed p = record {
  image = image_so_far p;
  run = option_map (map_run (name_at p.names)) (run_in p.draft.value);
  at_head = is_at_head p.draft.value;
  places = places_so_far p;
}

-- the image, over the texts of names
abbrev pub text_image : Reading → ImageOf Text
text_image r = map_image (name_at r.names) (drafted.image_of r.draft)

-- a do-it, over the texts of names
abbrev pub text_doit : List Text → Text → Sequence → DoItOf Text
text_doit names source body = record { source = source; body = map_sequence (name_at names) (sequence_of body) }

-- the number has a text
abbrev pub IsNumberIn : List Text → ℕ → Type 0
IsNumberIn names n = n < length names

-- the draft with stated places is whole, and each number in it has a text
pub record IsSoundSoFar (p : Progress) : Type 0 where
  pub whole : IsWhole p.draft.value
  pub image : ImageNames (IsNumberIn p.names) (image_of p.draft.value)
  pub run : ForSome (run_in p.draft.value) (λ run. IsNumberIn p.names run.class)
  pub places : PlacesNames (IsNumberIn p.names) (places_of p.draft.value)

-- the draft is whole, and each number in it has a text
pub record IsSound (r : Reading) : Type 0 where
  pub whole : drafted.IsWhole r.draft
  pub image : ImageNames (IsNumberIn r.names) (drafted.image_of r.draft)
  pub run : ForSome r.draft.run (λ run. IsNumberIn r.names run.class)
