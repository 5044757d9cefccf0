use Rattle.std.proofs.Common.{sym}
use Rattle.tree_model.specs.Tree.{trees_of, map_trees}
use Rattle.file_model.specs.Forms.{arguments_of}
use Rattle.chunk_forms.specs.Told.{strings_text}
use Rattle.chunk_forms.proofs.Strings.{more_arguments}
use Rattle.chunk_forms.proofs.definitions.definition_strings.Goals as goal

pub returns-else-is_empty : goal.returns-else-is_empty
returns-else-is_empty c =
    λ f. more_arguments f (arguments_of (map_trees f (trees_of c.args.arguments.now))) (strings_text c.in-Some.first.strings) c.in-Some.first.others.now (sym c.if-is_empty.ensures) (c.in-Some.ensures f)
