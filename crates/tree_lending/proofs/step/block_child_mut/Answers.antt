-- The node of a statement of a block, lent.
use Rattle.std.proofs.Common.{◌≡◌, option_map, Some, sym, ap, ◌∙◌}
use Rattle.std.specs.Option.{ghost_name_of}
use borrow.Follows.Closed.{read_of}
use Rattle.tree_lending.specs.Kinds.{body_of}
use Rattle.tree_lending.proofs.Children.{with_body-statement, with_body-back, block_child-body}
use Rattle.tree_lending.proofs.step.block_child_mut.Goals as goal

pub returns : goal.returns
returns c =
    let a = c.args.kind.now in let b = c.in_ok-body_mut.field-0.now in
    let some : body_of a ≡ Some b = sym c.body_mut.ensures.value ∙ ap (option_map (λ d. d.now)) c.in_ok-body_mut.was in (
      (λ i. read_of (ghost_name_of c.statement_mut.result) (λ z. with_body-statement a b c.args.at z some i) (with_body-back a b some i)),
      record { writes_back = tt; value = c.statement_mut.ensures.value ∙ block_child-body a b c.args.at some },
    )
