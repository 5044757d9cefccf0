-- The node of a statement, lent by a path of one step.
use Rattle.std.proofs.Common.{◌≡◌, ℕ, List, [], ◌∷◌, sym, ap, ◌∙◌, arith}
use Rattle.std.specs.Option.{ghost_name_of}
use borrow.Follows.Closed.{read_of}
use Rattle.tree_model.specs.Path.{part_in, replaced_in}
use Rattle.st_tree.specs.View.{sequence_of, sequence_from}
use Rattle.tree_lending.proofs.Paths.{no_steps}
use Rattle.tree_lending.proofs.Doits.{sequence_with-statement, part_in-one_step}
use Rattle.tree_lending.proofs.part.part_mut_doit.Goals as goal

pub returns-then-is_empty : goal.returns-then-is_empty
returns-then-is_empty c =
    let b = c.args.body.now in let p = c.args.path.now in let k = c.in_ok-first.first.now in let rest = c.in_ok-first.rest.now in
    let empty : rest ≡ [] = no_steps rest (grind arith) in
    let e : k ∷ [] ≡ p = ap (λ (r : List ℕ). k ∷ r) (sym empty) ∙ sym c.in_ok-first.ensures.cases.0 ∙ c.as_slice.ensures in (
      (λ i. read_of (ghost_name_of c.statement_mut.result) (λ w. (sequence_with-statement b k w ∙ ap (λ (r : List ℕ). sequence_from (replaced_in (sequence_of b) r w)) e) i) b),
      record { writes_back = tt; value = c.statement_mut.ensures.value ∙ part_in-one_step b k ∙ ap (part_in (sequence_of b)) e },
    )
