-- When marks are closed for an image and a do-it at its end.
use Rattle.std.specs.Prelude.{◌≡◌, ℕ, [], Bool, true}
use Rattle.st_tree.specs.declared.tree.Sequence.{Sequence}
use Rattle.st_tree.specs.View.{sequence_of}
use Rattle.image_model.specs.Image.{DoItOf, plus}
use Rattle.image_model.specs.Words.{number_words}
use Rattle.strip_model.specs.Reach.{is_closed}
use Rattle.class_table.specs.Slots.{Slots}
use Rattle.class_table.specs.View.{number_image}
use Rattle.image_strip.specs.Reached.{Marks, reached}

-- an expression as a do-it
abbrev pub start_of : Sequence → DoItOf ℕ
start_of b = record { source = []; body = sequence_of b }

-- whether marks are closed for an image with a do-it at its end
abbrev pub is_closed_with : Slots → DoItOf ℕ → Marks → Bool
is_closed_with s e r = is_closed (number_words s.names) (plus (number_image s) e) (reached s r)

-- they are for some do-it
abbrev pub IsClosedForSome : Slots → Marks → Type 0
IsClosedForSome s r = (e : DoItOf ℕ) × (is_closed_with s e r ≡ true)
