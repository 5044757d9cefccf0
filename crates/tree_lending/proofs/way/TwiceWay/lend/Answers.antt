-- A part below a part, lent.
use Rattle.std.proofs.Common.{◌≡◌, ℕ, ◌/◌, ◌+◌, ◌<◌, option_map, Some, None, List, length, take, drop, slice_index, refl, sym, ap, ◌∙◌, arith, inr}
use Rattle.std.specs.Option.{option_copied_mut, ghost_name_of}
use borrow.Follows.Closed.{read_of}
use Rattle.tree_model.specs.Path.{child, part_at, replaced}
use Rattle.tree_model.proofs.Parts.{replaced-part_at}
use Rattle.std.proofs.lemmas.List.{take_rest}
use Rattle.std.specs.List.{slice_range}
use Rattle.st_tree.specs.View.{tree_of}
use Rattle.tree_lending.specs.Kinds.{kind_with}
use Rattle.tree_lending.proofs.Children.{tree_of-kind_with}
use Rattle.tree_lending.proofs.Paths.{part_at-no_way, part_at-no_step_on, part_at-way_on, replaced-way_on, replaced-child_back}
use Rattle.tree_lending.proofs.way.TwiceWay.lend.Goals as goal

pub returns-in_err-lend : goal.returns-in_err-lend
returns-in_err-lend g c =
    let t = c.args.node.now in let p = c.args.path.now in let h = length p / 2 in
    let l : h < length p = grind arith in
    let none : part_at t (take h p) ≡ None = sym c.lend.ensures.value ∙ ap (option_map (λ k. tree_of k.now)) c.in_err-lend.was in
    (rw c.from_residual.ensures refl, record { writes_back = tt; value = rw c.from_residual.ensures (sym (part_at-no_way t p h l none)) })

pub returns-in_err-child_mut : goal.returns-in_err-child_mut
returns-in_err-child_mut g c =
    let t = c.args.node.now in let p = c.args.path.now in let h = length p / 2 in let k = c.in_ok-lend.field-0.now in
    let l : h < length p = grind arith in
    let some : part_at t (take h p) ≡ Some (tree_of k) = sym c.lend.ensures.value ∙ ap (option_map (λ k. tree_of k.now)) c.in_ok-lend.was in
    let none : child (tree_of k) (slice_index p h) ≡ None = sym c.child_mut.ensures.value ∙ ap option_copied_mut c.in_err-child_mut.was in (
      rw c.from_residual-in_err-child_mut.ensures (ap inr (replaced-part_at t (take h p) (tree_of k) some)),
      record { writes_back = tt; value = rw c.from_residual-in_err-child_mut.ensures (sym (part_at-no_step_on t (tree_of k) p h l some none)) },
    )

pub returns : goal.returns
returns g c =
    let t = c.args.node.now in let p = c.args.path.now in let h = length p / 2 in let k = c.in_ok-lend.field-0.now in let d = c.in_ok-child_mut.field-0.now in
    let l : h < length p = grind arith in
    let some : part_at t (take h p) ≡ Some (tree_of k) = sym c.lend.ensures.value ∙ ap (option_map (λ k. tree_of k.now)) c.in_ok-lend.was in
    let next : child (tree_of k) (slice_index p h) ≡ Some d = sym c.child_mut.ensures.value ∙ ap option_copied_mut c.in_ok-child_mut.was in
    let rest = slice_range p (h + 1) (length p) in
    let e : rest ≡ drop (h + 1) p = take_rest p (h + 1) in (
      (λ i. read_of (ghost_name_of c.lend-2.result)
          (λ z. (ap (λ (q : List ℕ). replaced t (take h p) (tree_of (kind_with k (slice_index p h) (replaced d q (tree_of z))))) e
          ∙ ap (replaced t (take h p)) (tree_of-kind_with k (slice_index p h) (replaced d (drop (h + 1) p) (tree_of z))) ∙ replaced-way_on t (tree_of k) d (tree_of z) p h l some next) i)
          ((ap (replaced t (take h p)) (tree_of-kind_with k (slice_index p h) d) ∙ replaced-child_back t (tree_of k) d p h some next) i)),
      record { writes_back = tt; value = c.lend-2.ensures.value ∙ ap (part_at d) e ∙ part_at-way_on t (tree_of k) d p h l some next },
    )
