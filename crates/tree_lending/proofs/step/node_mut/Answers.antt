-- The node of a statement, lent.
use Rattle.std.proofs.Common.{◌≡◌, Some, None, slice_get, refl, sym, ap, ◌∙◌}
use Rattle.std.specs.Option.{option_copied_mut, ghost_name_of}
use borrow.Follows.Closed.{read_of}
use Rattle.st_tree.proofs.Places.{nth-statements_of_some, nth-statements_of_none}
use Rattle.tree_lending.proofs.Children.{statements_with-set, set_back}
use Rattle.tree_lending.proofs.step.node_mut.Goals as goal

pub returns-in_err-get_mut : goal.returns-in_err-get_mut
returns-in_err-get_mut c =
    let none : slice_get c.args.statements.now c.args.at ≡ None = sym c.get_mut.ensures.value ∙ ap option_copied_mut c.in_err-get_mut.was in
    (rw c.from_residual.ensures refl, record { writes_back = tt; value = rw c.from_residual.ensures (nth-statements_of_none c.args.statements.now c.args.at (sym none)) })

pub returns : goal.returns
returns c =
    let ss = c.args.statements.now in let k = c.args.at in let s = c.in_ok-get_mut.field-0.now in
    let some : slice_get ss k ≡ Some s = sym c.get_mut.ensures.value ∙ ap option_copied_mut c.in_ok-get_mut.was in (
      (λ i. read_of (ghost_name_of c.node_of_mut.result) (λ z. statements_with-set ss k s z some i) (set_back ss k s some i)),
      record { writes_back = tt; value = c.node_of_mut.ensures.value ∙ nth-statements_of_some ss k s (sym some) },
    )
