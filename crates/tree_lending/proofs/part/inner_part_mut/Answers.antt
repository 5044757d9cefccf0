-- A part below the node of a statement, lent.
use Rattle.std.proofs.Common.{◌≡◌, ◌-◌, ◌<◌, ◌∷◌, option_map, Some, None, length, take, slice_index, refl, sym, ap, ◌∙◌, arith, inr}
use Rattle.std.specs.Option.{option_copied_mut}
use Rattle.tree_model.specs.Path.{nth, statement_trees, child, part_at, replaced, replaced_in}
use Rattle.tree_model.proofs.Parts.{replaced-part_at}
use Rattle.st_tree.specs.View.{tree_of, statements_of, sequence_of, sequence_from}
use Rattle.tree_lending.specs.Kinds.{kind_with, sequence_with}
use Rattle.tree_lending.proofs.Paths.{part_at-no_way, replaced-last, part_at-last}
use Rattle.tree_lending.proofs.Children.{tree_of-kind_with}
use Rattle.tree_lending.proofs.Doits.{same_loan, sequence_with-part, sequence_with-back, part_in-no_statement, part_in-statement}
use Rattle.tree_lending.proofs.part.inner_part_mut.Goals as goal

pub returns-in_err-statement_mut : goal.returns-in_err-statement_mut
returns-in_err-statement_mut c =
    let b = c.args.body.now in let k = c.args.first in let p = c.args.rest.now in
    let none : nth (statement_trees (statements_of b.statements)) k ≡ None = sym c.statement_mut.ensures.value ∙ ap option_copied_mut c.in_err-statement_mut.was in
    (rw c.from_residual.ensures refl, record { writes_back = tt; value = rw c.from_residual.ensures (sym (part_in-no_statement b k p none)) })

pub returns-in_err-lend : goal.returns-in_err-lend
returns-in_err-lend c =
    let b = c.args.body.now in let k = c.args.first in let p = c.args.rest.now in let h = length p - 1 in let n = c.in_ok-statement_mut.field-0.now in
    let l : h < length p = grind arith in
    let there : nth (statement_trees (statements_of b.statements)) k ≡ Some n = sym c.statement_mut.ensures.value ∙ ap option_copied_mut c.in_ok-statement_mut.was in
    let none : part_at n (take h p) ≡ None = sym c.lend.ensures.value ∙ ap (option_map (λ a. tree_of a.now)) c.in_err-lend.was in (
      rw c.from_residual-in_err-lend.ensures (ap inr (sequence_with-back b k n there)),
      record { writes_back = tt; value = rw c.from_residual-in_err-lend.ensures (sym (part_in-statement b k p n there ∙ part_at-no_way n p h l none)) },
    )

pub returns : goal.returns
returns c =
    let b = c.args.body.now in let k = c.args.first in let p = c.args.rest.now in let h = length p - 1 in let n = c.in_ok-statement_mut.field-0.now in let a = c.in_ok-lend.field-0.now in
    let l : 0 < length p = grind arith in
    let there : nth (statement_trees (statements_of b.statements)) k ≡ Some n = sym c.statement_mut.ensures.value ∙ ap option_copied_mut c.in_ok-statement_mut.was in
    let some : part_at n (take h p) ≡ Some (tree_of a) = sym c.lend.ensures.value ∙ ap (option_map (λ d. tree_of d.now)) c.in_ok-lend.was in
    let s = slice_index p h in (
      same_loan c.child_mut.result
          (λ z. sequence_with b k (replaced n (take h p) (tree_of (kind_with a s z))))
          (λ z. sequence_from (replaced_in (sequence_of b) (k ∷ p) z))
          (sequence_with b k (replaced n (take h p) (tree_of a)))
          b
          (ap (sequence_with b k) (replaced-part_at n (take h p) (tree_of a) some) ∙ sequence_with-back b k n there)
          (λ x is z.
          let next : child (tree_of a) s ≡ Some x.now = sym c.child_mut.ensures.value ∙ ap option_copied_mut is in
          sequence_with-part b k p n (replaced n (take h p) (tree_of (kind_with a s z))) z there
          (ap (replaced n (take h p)) (tree_of-kind_with a s z) ∙ replaced-last n (tree_of a) x.now z p h l refl some next)),
      record { writes_back = tt; value = c.child_mut.ensures.value ∙ part_at-last n (tree_of a) p h l refl some ∙ sym (part_in-statement b k p n there) },
    )
