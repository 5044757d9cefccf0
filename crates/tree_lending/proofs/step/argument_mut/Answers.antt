-- The argument of a cascade, lent.
use Rattle.std.proofs.Common.{◌≡◌, ℕ, List, option_map, Some, slice_get, slice_set, sym, ap, ◌∙◌}
use Rattle.std.specs.Option.{option_copied_mut, ghost_name_of}
use borrow.Follows.Closed.{read_of}
use Rattle.tree_model.specs.Tree.{TreeOf}
use Rattle.st_tree.specs.Replaced.{IsPlace}
use Rattle.st_tree.proofs.Places.{nth-trees_of}
use Rattle.st_tree.proofs.Putting.{argument_is}
use Rattle.tree_lending.proofs.Children.{messages_with-set, set_back}
use Rattle.tree_lending.proofs.step.argument_mut.Goals as goal

pub returns : goal.returns
returns c =
    let ms = c.args.messages.now in let k = c.args.at in let i = c.in_ok-message.message in let j = c.in_ok-message.argument in
    let m = c.in_ok-get_mut.field-0.now in let args = c.in_ok-message_arguments_mut.field-0.now in
    let place : IsPlace ms k i j = rw c.as_slice.ensures at c.in_ok-message.ensures.some in
    let there : slice_get ms i ≡ Some m = sym c.get_mut.ensures.value ∙ ap option_copied_mut c.in_ok-get_mut.was in
    let inner : Some m.arguments ≡ Some args = sym c.message_arguments_mut.ensures.value ∙ ap (option_map (λ a. a.now)) c.in_ok-message_arguments_mut.was in
    let same : m.arguments ≡ args = cc in (
      (λ n. read_of (ghost_name_of c.get_mut-2.result) (λ z. messages_with-set ms k i j m args z there place same n)
          ((ap (λ (ts : List (TreeOf ℕ)). slice_set ms i (record m { arguments = ts })) (sym same) ∙ set_back ms i m there) n)),
      record { writes_back = tt; value = c.get_mut-2.ensures.value ∙ sym (argument_is ms k i j m there place ∙ nth-trees_of m.arguments j ∙ ap (λ (ts : List (TreeOf ℕ)). slice_get ts j) same) },
    )
