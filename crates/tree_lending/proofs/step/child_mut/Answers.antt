-- A child, lent.
use Rattle.std.proofs.Common.{◌≡◌, suc, ◌-◌, true, false, ap, ◌∙◌, arith}
use Rattle.std.specs.Option.{ghost_name_of}
use borrow.Follows.Closed.{read_of}
use Rattle.tree_model.specs.Path.{child}
use Rattle.st_tree.specs.View.{tree_of}
use Rattle.tree_lending.specs.Kinds.{is_brace, is_block, is_cascade, kind_with}
use Rattle.tree_lending.proofs.Children.{brace_with-kind, brace_child-child, send_with-kind, send_child-child}
use Rattle.tree_lending.proofs.step.child_mut.Goals as goal

pub returns-then-is_brace : goal.returns-then-is_brace
returns-then-is_brace c =
    let a = c.args.kind.now in let k = c.args.step in
    let yes_brace : is_brace a ≡ true = grind arith in (
      (λ i. read_of (ghost_name_of c.brace_child_mut.result) (λ u. brace_with-kind a k u yes_brace i) a),
      record { writes_back = tt; value = c.brace_child_mut.ensures.value ∙ brace_child-child a k yes_brace },
    )

pub returns : goal.returns
returns c =
    let a = c.args.kind.now in let k = c.args.step in
    let e : is_brace a ≡ false = grind arith in let f : is_block a ≡ false = grind arith in let g : is_cascade a ≡ false = grind arith in
    let one : suc (k - 1) ≡ k = omega arith in (
      (λ i. read_of (ghost_name_of c.send_child_mut.result) (λ u. (send_with-kind a (k - 1) u e f g ∙ ap (λ n. kind_with a n u) one) i) a),
      record { writes_back = tt; value = c.send_child_mut.ensures.value ∙ send_child-child a (k - 1) e f g ∙ ap (child (tree_of a)) one },
    )
