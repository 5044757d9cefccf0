use Rattle.std.proofs.Common.{not, Option, option_map, sym, ap, ◌∙◌}
use Rattle.st_tree.specs.View.{sequence_of, method_of}
use Rattle.st_tree.specs.declared.tree.Method.{Method}
use Rattle.command_model.specs.ParameterConditions.{is_low}
use Rattle.code_conditions.proofs.Made.{not-not, is_tree_low}
use Rattle.code_conditions.proofs.heights.is_low.Goals as goal

pub returns-in-None : goal.returns-in-None
returns-in-None c = sym (ap (λ (o : Option Method). is_tree_low (option_map method_of o)) c.in-None.is)

pub returns-in-Some : goal.returns-in-Some
returns-in-Some c =
    ap not c.is_high.ensures
    ∙ not-not (is_low (sequence_of c.in-Some.tree.body))
    ∙ sym (ap (λ (o : Option Method). is_tree_low (option_map method_of o)) c.in-Some.is)
