use Rattle.std.proofs.Common.{◌∙◌}
use Rattle.tree_model.specs.Tree.{trees_of, map_trees}
use Rattle.file_model.specs.Forms.{arguments_of}
use Rattle.chunk_forms.proofs.Strings.{one_numeral}
use Rattle.chunk_forms.proofs.arguments.one_place.Goals as goal

pub returns-in-Numeral : goal.returns-in-Numeral
returns-in-Numeral c =
    λ f. c.place_in.ensures ∙ one_numeral (arguments_of (map_trees f (trees_of c.args.arguments.now))) c.in-Numeral.numeral.now (c.in-Numeral.ensures f)
