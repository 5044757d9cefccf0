use Rattle.std.proofs.Common.{◌≡◌, ℕ, not, List, ap, ◌∙◌}
use Rattle.std.specs.Prelude.{nat_eq, filter}
use Rattle.std.specs.List.{list_all}
use Rattle.tree_model.specs.Tree.{SequenceOf}
use Rattle.tree_model.specs.Nodes.{Placed, nodes}
use Rattle.image_model.specs.Uses.{is_sender}
use Rattle.placed_nodes.specs.declared.placed.PlacedNode.{PlacedNode}
use Rattle.placed_nodes.specs.Placing.{placed}
use Rattle.parameter_questions.specs.Codes.{means_in, body_of, are_dropped}
use Rattle.parameter_questions.proofs.Plain.{senders-dropped}
use Rattle.parameter_questions.proofs.code.passes_other.Goals as goal

pub returns : goal.returns
returns c =
    let s = c.args.selector in
    let meaning = means_in c.args.image.now c.args.code.now in
    let test : Placed ℕ → Rattle.std.proofs.Common.Bool = are_dropped meaning s c.args.number in
    ap not
    (c.are_dropped_in.ensures
    ∙ ap (λ (fs : List PlacedNode). list_all test (placed fs)) c.as_slice.ensures.value
    ∙ ap (list_all test) c.in_ok-found.ensures
    ∙ ap (λ (b : SequenceOf ℕ). list_all test (filter (λ (e : Placed ℕ). is_sender nat_eq s e.1) (nodes b))) c.body_of.ensures
    ∙ senders-dropped s c.args.number meaning (nodes (body_of c.args.code.now)))
