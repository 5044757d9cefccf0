-- The lists of places of each name.
use Rattle.std.specs.Prelude.{◌≡◌, ℕ, List, [], filter}
use Rattle.std.specs.List.{slice_index_or}
use Rattle.class_table.specs.declared.record.Place.{Place}
use Rattle.reference_index.specs.Mentioned.{Mentioned, ListsPlaces}
use Rattle.reference_index.specs.Rows.{mentions}

-- the places in the list of a name
abbrev pub list_of : List (List Place) → ℕ → List Place
list_of lists name = slice_index_or lists name []

-- the list of each name has the places of which the name is kept
abbrev pub AreListsOf : Mentioned → List (List Place) → Type 0
AreListsOf x lists = (name : ℕ) → ListsPlaces x name (list_of lists name)

-- the lists are the same but for places of which the name is not kept
abbrev pub SameMentioning : Mentioned → List (List Place) → List (List Place) → Type 0
SameMentioning x old new = (name : ℕ) → filter (mentions x name) (list_of new name) ≡ filter (mentions x name) (list_of old name)
