-- Parts of methods that are found.
use Rattle.std.specs.Prelude.{ℕ, List}
use Rattle.image_model.specs.Image.{EntryOf}
use Rattle.class_table.specs.declared.record.ClassRec.{ClassRec}
use Rattle.command_model.specs.Parts.{Part}
use Rattle.part_questions.specs.Parts.{part_of}
use Rattle.users_methods.specs.Users.{entry_in}
use Rattle.part_lookup.specs.declared.lookup.UsersPart.{UsersPart}

-- the method, as the image has it, and the part
abbrev pub found_in : List ClassRec → UsersPart → EntryOf ℕ × Part
found_in classes f = (entry_in classes f.method, part_of f.part)
