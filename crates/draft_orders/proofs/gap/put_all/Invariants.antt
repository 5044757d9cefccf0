use Rattle.std.proofs.Common.{◌≡◌, ◌++◌, reverse}
use Rattle.file_model.specs.Places.{put_all}
use Rattle.draft_orders.proofs.gap.put_all.Given as goal

abbrev pub invariant-loop-item : goal.invariant-loop-item
invariant-loop-item g l = put_all l.item-iterator.rest.items (l.front.items ++ reverse l.back.items) ≡ put_all l.fn.placed.items l.fn.items.items
