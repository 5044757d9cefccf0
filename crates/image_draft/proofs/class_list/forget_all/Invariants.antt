use Rattle.std.proofs.Common.{ℕ, ◌≡◌, cond, is_some, take, None}
use Rattle.image_draft.specs.Table.{place_at, place_in}
use Rattle.image_draft.proofs.class_list.forget_all.Given as goal

abbrev pub invariant-loop-class : goal.invariant-loop-class
invariant-loop-class l = (n : ℕ) → place_at l.table n ≡ cond (is_some (place_in (take l.class-index l.classes) n)) None (place_in l.classes n)
