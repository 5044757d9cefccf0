use Rattle.std.proofs.Common.{◌≡◌, ◌∷◌, [], ◌++◌, Some, ◌+◌, true, map, take, refl, sym, subst, rules}
use Rattle.pattern_match.specs.Bound.{held_of}
use Rattle.filled_patterns.specs.declared.bindings.Binding.{Binding}
use Rattle.filled_patterns.specs.Left.{Holds}
use Rattle.derivations.proofs.Filled.{holds_more}
use Rattle.derivations.proofs.turning.bindings_of.Goals as goal

pub loop-one-preserved : goal.loop-one-preserved
loop-one-preserved c =
    let l = c.loop-one in
    let made : Binding = record { meta = c.one-item.result.meta; single = true; bound = Some c.in_ok-bound.bound } in
    let is : c.push.new.self.items ≡ l.bindings.items ++ made ∷ [] = search rules in
    subst (Holds (map held_of (take (l.one-index + 1) c.args.held.now))) (sym is)
    (holds_more c.args.held.now l.one-index c.one-item.result l.bindings.items made c.loop-one-test.true c.one-item.is l.invariant (record { meta = refl; bound = c.in_ok-bound.ensures }))
