-- What a command renames, and the name that it gives.
use Rattle.std.specs.Prelude.{ℕ}
use Rattle.name_meanings.specs.Meanings.{kind_of}
use Rattle.commands.specs.declared.command.Renaming.{Renaming}
use Rattle.commands.specs.declared.command.Renaming.TheVariants as renames
use Rattle.renamed_code.specs.Anew.{RenamedOf, of_a_class, of_a_variable, of_a_selector}

-- what gets another name
abbrev pub renamed_by : Renaming → RenamedOf ℕ
renamed_by (renames.Class c to) = of_a_class c
renamed_by (renames.Variable kind c x to) = of_a_variable (kind_of kind) c x
renamed_by (renames.Selector s to) = of_a_selector s

-- the name
abbrev pub new_name : Renaming → ℕ
new_name (renames.Class c to) = to
new_name (renames.Variable kind c x to) = to
new_name (renames.Selector s to) = to
