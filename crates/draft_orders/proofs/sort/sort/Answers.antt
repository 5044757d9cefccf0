use Rattle.std.proofs.Common.{rules}
use Rattle.file_model.specs.Places.{PlacedOf}
use Rattle.std.proofs.lemmas.List.Sorted.{answers_always, IsNonDecreasingBy-from_sort_by_key}
use Rattle.draft_orders.proofs.ByPlace.{sorted_is}
use Rattle.draft_orders.proofs.sort.sort.Goals as goal

pub returns : goal.returns
returns g c =
    sorted_is _ _ (IsNonDecreasingBy-from_sort_by_key (λ (p : PlacedOf _). p.place) _ c.in_ok-sort_by_key.ensures.sorted (λ a r q k. search rules))
    (c.sort_by_key.ensures.stable (λ p. p.place) (answers_always _ _ _ (λ f a r h k. search rules)))
