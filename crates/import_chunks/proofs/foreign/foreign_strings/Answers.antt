use Rattle.tree_model.specs.Tree.{trees_of, map_trees}
use Rattle.file_model.specs.Forms.{arguments_of}
use Rattle.chunk_forms.specs.Told.{first_text}
use Rattle.import_chunks.specs.Told.{ending_text}
use Rattle.import_chunks.proofs.Arguments.{strings_found}
use Rattle.import_chunks.proofs.foreign.foreign_strings.Goals as goal

pub returns : goal.returns
returns c =
    λ f. strings_found c.args.selector.now (arguments_of (map_trees f (trees_of c.args.arguments.now))) (first_text f c.in_ok-name.name) (first_text f c.in_ok-instance.instance) (first_text f c.in_ok-shared.shared) (first_text f c.in_ok-first.first)
    (ending_text c.in_ok-ending.ending) (c.in_ok-name.ensures f) (c.in_ok-instance.ensures f) (c.in_ok-shared.ensures f) (c.in_ok-first.ensures f) (c.in_ok-ending.ensures f)
