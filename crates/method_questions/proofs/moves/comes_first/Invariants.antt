use Rattle.std.proofs.Common.{◌≡◌, drop, find, ◌||◌}
use Rattle.std.specs.Prelude.{nat_eq}
use Rattle.method_questions.proofs.moves.comes_first.Given as goal

abbrev pub invariant-loop-method : goal.invariant-loop-method
invariant-loop-method l =
    find (λ k. nat_eq k l.slot || nat_eq k l.other) (drop l.method-index l.method-items) ≡ find (λ k. nat_eq k l.slot || nat_eq k l.other) l.method-items
