-- Places of items, counted from 0, by numbers that are counted from 1.
use Rattle.std.specs.Prelude.{ℕ, zero, suc, ◌&&◌, if◌then◌else◌, ℤ, pos, negsuc, nat_abs, ◌-ℤ◌, int_le, Option, Some, None}
use Rattle.std.specs.Ordering.{int_eq}
use Rattle.run_model.specs.SequencePrimitives.{place_of}

-- the place of the item of a number
abbrev pub place_at : ℤ → Option ℕ
place_at (pos zero) = None
place_at (pos (suc k)) = Some k
place_at (negsuc k) = None

-- where the items from a number to a number begin and end among so many
abbrev pub bounds_of : ℕ → ℤ → ℤ → Option (ℕ × ℕ)
bounds_of n a b =
    if int_eq b (a -ℤ pos 1) then Some (0, 0)
    else if int_le (pos 1) a && int_le a b && int_le b (pos n) then Some (place_of a, nat_abs b)
    else None
