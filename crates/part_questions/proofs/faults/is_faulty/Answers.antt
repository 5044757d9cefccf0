use Rattle.std.proofs.Common.{ℕ, Bool, List, ap, ◌∙◌}
use Rattle.std.specs.List.{list_any}
use Rattle.tree_model.specs.Nodes.{Placed, nodes}
use Rattle.st_tree.specs.View.{method_of}
use Rattle.placed_nodes.specs.declared.placed.PlacedNode.{PlacedNode}
use Rattle.placed_nodes.specs.Placing.{placed}
use Rattle.command_model.specs.Parts.{is_within}
use Rattle.part_questions.specs.Parts.{part_of}
use Rattle.part_questions.specs.Faults.{has_fault, is_at_fault}
use Rattle.part_questions.proofs.Tests.{any-filtered}
use Rattle.part_questions.proofs.faults.is_faulty.Goals as goal

pub returns : goal.returns
returns c =
    let it = c.args.asked.now in
    let test : Placed ℕ → Bool = is_at_fault it c.args.fault in
    c.in_ok-found.ensures
    ∙ ap (λ (fs : List PlacedNode). list_any test (placed fs)) c.as_slice.ensures.value
    ∙ ap (list_any test) c.in_ok-nodes.ensures
    ∙ any-filtered (λ (e : Placed ℕ). is_within (part_of it.part.now) e.0) (has_fault it c.args.fault) (nodes (method_of it.method.now).body)
