-- The history that an image and its log stand for: the log undone backwards from the image, and redone forwards.
use Rattle.std.specs.Prelude.{ℕ, List, [], ◌∷◌, ◌++◌, map, flat_map, reverse}
use Rattle.rb_base.specs.Names.{name_at}
use Rattle.image_model.specs.Image.{ImageOf}
use Rattle.run_model.specs.Values.{Name}
use Rattle.run_model.specs.Renamings.{Renaming, no_renaming, composed}
use Rattle.class_table.specs.Slots.{Slots}
use Rattle.class_table.specs.View.{image_of}
use Rattle.change_set.specs.Changes.{all_applied}
use Rattle.rename_model.specs.OneRenamed.{one_temporary}
use Rattle.command_model.specs.Renamings.{one_moved, renaming_of}
use Rattle.command_numbers.specs.MappedCommands.{map_command}
use Rattle.commands.specs.Views.{renaming_command}
use Rattle.session_model.specs.Scripts.{Version, History}
use Rattle.session.specs.Log.{DoneCommand, Done, Log, taken_back, done_again}
use Rattle.session.specs.declared.renames.Renames.{Renames}
use Rattle.session.specs.declared.renames.Renames.TheVariants as renames

-- what is renamed in an image, where the names have these texts
abbrev pub renaming_in : List (List ℕ) → ImageOf Name → Renames → Renaming
renaming_in names i renames.Nothing = no_renaming
renaming_in names i (renames.Renaming r) = renaming_of i (map_command (name_at names) (renaming_command r))
renaming_in names i (renames.Moved c x d) = one_moved (name_at names c) (name_at names x) (name_at names d)
renaming_in names i (renames.Temporary m x y) = one_temporary (name_at names m.class) m.meta (name_at names m.selector) (name_at names x) (name_at names y)

-- what a command renames that is done in these slots
abbrev pub renamed_by : Slots → DoneCommand → Renaming
renamed_by s d = renaming_in s.names (image_of s) d.renames

-- what is renamed behind commands that lead back from these slots, where so much was renamed before them
abbrev pub renamed_back : Slots → Renaming → List DoneCommand → Renaming
renamed_back s r [] = r
renamed_back s r (d ∷ ds) = renamed_back s (composed r (renamed_by (taken_back s (d ∷ ds)) d)) ds

-- the same of commands that lead forth
abbrev pub renamed_forth : Slots → Renaming → List DoneCommand → Renaming
renamed_forth s r [] = r
renamed_forth s r (d ∷ ds) = renamed_forth (all_applied s d.changes) (composed r (renamed_by s d)) ds

-- the image behind commands that lead back from these slots
abbrev pub version_behind : Slots → Renaming → List DoneCommand → Version
version_behind s r ds = record { image = image_of s; renaming = renamed_back s r ds }

-- what all actions rename that were done before these slots
abbrev pub renaming_at : Slots → List Done → Renaming
renaming_at s [] = no_renaming
renaming_at s (e ∷ es) = renamed_back s (renaming_at (taken_back s e.commands) es) e.commands

-- the image of these slots, behind these actions
abbrev pub version_at : Slots → List Done → Version
version_at s es = record { image = image_of s; renaming = renaming_at s es }

-- the versions before these slots, the nearest first
abbrev pub versions_before : Slots → List Done → List Version
versions_before s [] = []
versions_before s (e ∷ es) = version_at (taken_back s e.commands) es ∷ versions_before (taken_back s e.commands) es

-- the versions that were undone, the nearest first, where so much was renamed before these slots
abbrev pub versions_after : Slots → Renaming → List Done → List Version
versions_after s r [] = []
versions_after s r (e ∷ es) =
    record { image = image_of (done_again s e.commands); renaming = renamed_forth s r e.commands }
    ∷ versions_after (done_again s e.commands) (renamed_forth s r e.commands) es

-- what the commands rename that are done, the first one first
abbrev pub renames_done : Log → List Renames
renames_done log = flat_map (λ (e : Done). map (λ (d : DoneCommand). d.renames) e.commands) (reverse log.back)

-- the images in which the commands of an action were judged that lead back from these slots, the first one first, and those of all actions
abbrev pub images_within : Slots → List DoneCommand → List (ImageOf Name)
images_within s [] = []
images_within s (d ∷ ds) = image_of (taken_back s (d ∷ ds)) ∷ images_within s ds

abbrev pub images_judged : Slots → List Done → List (ImageOf Name)
images_judged s [] = []
images_judged s (e ∷ es) = images_judged (taken_back s e.commands) es ++ images_within s e.commands

-- what is renamed in one image after the other, behind what was renamed before
abbrev pub renamed_along : List (List ℕ) → Renaming → List (ImageOf Name) → List Renames → Renaming
renamed_along names r [] xs = r
renamed_along names r (i ∷ is) [] = r
renamed_along names r (i ∷ is) (x ∷ xs) = renamed_along names (composed r (renaming_in names i x)) is xs

-- the history
abbrev pub history_of : Slots → Log → History
history_of s log = record {
  earlier = versions_before s log.back;
  now = version_at s log.back;
  later = versions_after s (renaming_at s log.back) log.forth;
}
