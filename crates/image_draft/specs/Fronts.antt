-- Items of the kernel in front of all others.
use Rattle.std.specs.Prelude.{List, [], ◌∷◌, Bool, true, not, if◌then◌else◌}
use Rattle.std.specs.List.{list_any}

-- whether no item of the kernel stands behind another one
abbrev pub in_front : {X : Type 0} → (X → Bool) → List X → Bool
in_front is_kernel [] = true
in_front is_kernel (x ∷ xs) = if is_kernel x then in_front is_kernel xs else not (list_any is_kernel xs)
