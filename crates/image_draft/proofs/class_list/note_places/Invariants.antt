use Rattle.std.proofs.Common.{◌≡◌, ◌≤◌, ◌+◌, ◌-◌, ℕ, drop, take, option_map}
use Rattle.std.specs.Option.{option_or}
use Rattle.image_draft.specs.Table.{place_at, place_in}
use Rattle.image_draft.proofs.class_list.note_places.Given as goal

abbrev pub invariant-loop-place : goal.invariant-loop-place
invariant-loop-place l =
    (l.from ≤ l.place) × (l.place ≤ l.to + 1)
    × ((n : ℕ) → place_at l.table n ≡ option_or (option_map (λ (k : ℕ). l.place + k) (place_in (drop l.place (take (l.to + 1) l.classes)) n)) (place_at l.fn.table n))

abbrev pub decreases-loop-place : goal.decreases-loop-place
decreases-loop-place l = l.place - l.from
