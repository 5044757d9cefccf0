use Rattle.std.proofs.Common.{◌≡◌, ℕ, ◌||◌, Bool, false, List, Bor, ap, sym, ◌∙◌}
use Rattle.std.specs.List.{list_any}
use Rattle.tree_model.specs.Tree.{TreeOf}
use Rattle.tree_model.specs.Nodes.{Placed, nodes}
use Rattle.st_tree.specs.View.{sequence_of}
use Rattle.mentions.specs.Listing.{pointed}
use Rattle.code_questions.specs.Questions.{in_temporaries, in_node}
use Rattle.code_questions.proofs.Witnesses.{any-mapped}
use Rattle.code_questions.proofs.places.in_body.Goals as goal

pub returns : goal.returns
returns c =
    let what = c.args.what in
    let name = c.args.name in
    let body = sequence_of c.args.body.now in
    let none : false ≡ in_temporaries what name body.temporaries =
    sym c.if-in_temporaries.false ∙ c.in_temporaries.ensures ∙ ap (in_temporaries what name) c.as_slice.ensures in
    c.in_nodes.ensures
    ∙ ap (λ (ns : List (Bor (TreeOf ℕ))). list_any (in_node what name) (pointed ns)) c.as_slice-2.ensures.value
    ∙ ap (list_any (in_node what name)) c.in_ok-nodes.ensures
    ∙ any-mapped (λ (e : Placed ℕ). e.1) (in_node what name) (nodes body)
    ∙ ap (λ (b : Bool). b || list_any (λ (e : Placed ℕ). in_node what name e.1) (nodes body)) none
