-- The parts of methods that the program speaks of.
use Rattle.st_tree.specs.declared.path.Part as declared
use Rattle.st_tree.specs.declared.path.Part.TheVariants as part
use Rattle.command_model.specs.Parts.{Part, Expression, Run}

-- what a part stands for
abbrev pub part_of : declared.Part → Part
part_of (part.Expression path) = Expression path
part_of (part.Run path first count) = Run path first count
