-- What the classes and the selectors of the image that was opened are called.
use Rattle.std.specs.Prelude.{ℕ, List, [], ◌∷◌, flat_map}
use Rattle.run_model.specs.Renamings.{Renaming, no_renaming}
use Rattle.commands.specs.declared.command.Renaming.TheVariants as renaming
use Rattle.new_names.specs.NewNames.{map_of, texts_of}
use Rattle.new_names.specs.declared.compose.NewName.{NewName}
use Rattle.session.specs.declared.renames.Renames.{Renames}
use Rattle.session.specs.declared.renames.Renames.TheVariants as renames
use Rattle.session.specs.declared.renames.AllRenames.{AllRenames}

-- the class that gets another name
abbrev pub class_named : Renames → List NewName
class_named renames.Nothing = []
class_named (renames.Renaming (renaming.Class c d)) = record { from = c; to = d } ∷ []
class_named (renames.Renaming (renaming.Variable k c x y)) = []
class_named (renames.Renaming (renaming.Selector s t)) = []
class_named (renames.Moved c x d) = []
class_named (renames.Temporary m x y) = []

-- the selector
abbrev pub selector_named : Renames → List NewName
selector_named renames.Nothing = []
selector_named (renames.Renaming (renaming.Class c d)) = []
selector_named (renames.Renaming (renaming.Variable k c x y)) = []
selector_named (renames.Renaming (renaming.Selector s t)) = record { from = s; to = t } ∷ []
selector_named (renames.Moved c x d) = []
selector_named (renames.Temporary m x y) = []

-- each class that gets another name, with what had it first is called after all; and the same of selectors
abbrev pub classes_called : List Renames → List NewName
classes_called steps = map_of (flat_map class_named steps)

abbrev pub selectors_called : List Renames → List NewName
selectors_called steps = map_of (flat_map selector_named steps)

-- the renaming of classes and selectors that these maps say, where the names have these texts
abbrev pub shown_by : List (List ℕ) → AllRenames → Renaming
shown_by names r = record no_renaming { classes = texts_of names r.classes.items; selectors = texts_of names r.selectors.items }
