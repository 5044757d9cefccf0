use Rattle.std.proofs.Common.{◌≡◌, ℕ, Option, None, unwrap_or, sym, ap, ◌∙◌}
use Rattle.std.specs.Option.{option_copied_mut}
use Rattle.tree_model.specs.Tree.{TreeOf}
use Rattle.tree_model.proofs.Parts.{replaced_in-nowhere}
use Rattle.st_tree.specs.View.{sequence_of, sequence_from}
use Rattle.st_tree.proofs.Back.{sequence_from-sequence_of}
use Rattle.change_set.specs.Code.{node_of}
use Rattle.change_set.proofs.part.swap_node.Goals as goal

pub returns-in_default-clause-body : goal.returns-in_default-clause-body
returns-in_default-clause-body c =
    let b = c.args.body.now in
    let none : node_of c.args.path.now b ≡ None = sym c.part_mut_doit.ensures.value ∙ ap option_copied_mut c.in_default.is in
    sym (sequence_from-sequence_of b) ∙ ap sequence_from (sym (replaced_in-nowhere (sequence_of b) c.args.path.now c.args.part.now none))

pub returns-in_default-clause-node : goal.returns-in_default-clause-node
returns-in_default-clause-node c = sym (ap (λ (o : Option (TreeOf ℕ)). unwrap_or o c.args.part.now) (sym c.part_mut_doit.ensures.value ∙ ap option_copied_mut c.in_default.is))
