use Rattle.std.proofs.Common.{◌≡◌, ℕ, drop, map}
use Rattle.std.specs.List.{list_all}
use Rattle.pattern_model.specs.Bindings.{BindingOf}
use Rattle.pattern_match.specs.Bound.{held_of}
use Rattle.derivations.specs.Numbered.{table_of}
use Rattle.derivations.specs.Turned.{fits}
use Rattle.derivations.proofs.turning.all_may_stand.Given as goal

abbrev pub invariant-loop-one : goal.invariant-loop-one
invariant-loop-one l =
    list_all (λ (b : BindingOf ℕ). fits (table_of l.marks) b.bound) (map held_of (drop l.one-index l.held))
    ≡ list_all (λ (b : BindingOf ℕ). fits (table_of l.marks) b.bound) (map held_of l.held)
