use Rattle.std.proofs.Common.{◌≡◌, ◌||◌, ℕ, drop}
use Rattle.std.specs.Prelude.{nat_eq}
use Rattle.std.specs.List.{list_any}
use Rattle.image_strip.specs.Reached.{is_marked}
use Rattle.image_strip.proofs.marks.mark_all.Given as goal

abbrev pub invariant-loop-name : goal.invariant-loop-name
invariant-loop-name l =
    (n : ℕ) → (list_any (nat_eq n) (drop l.name-index l.names) || is_marked l.marks.items n) ≡ (list_any (nat_eq n) l.names || is_marked l.initial.marks.items n)
