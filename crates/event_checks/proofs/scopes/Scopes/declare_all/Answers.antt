use Rattle.std.proofs.Common.{◌≡◌, ◌∷◌, ◌++◌, ◌+◌, ◌-◌, ◌<◌, List, length, drop, ap, sym, subst, ◌∙◌, arith}
use Rattle.grammar_model.specs.Checks.{Known}
use Rattle.grammar_model.specs.Terminal.{Text}
use Rattle.parse_events.specs.declared.event.Declaration.{Declaration}
use Rattle.event_checks.specs.Lists.{declared}
use Rattle.event_checks.specs.Scopes.{known_as, IsScopes}
use Rattle.event_checks.proofs.Lists.{drop_here}
use Rattle.event_checks.proofs.scopes.Scopes.declare_all.Goals as goal

pub loop-count-preserved : goal.loop-count-preserved
loop-count-preserved c =
    let n = c.loop-count.count - 1 in
    let ds = c.args.declarations.now in
    let d = c.index-declarations-count.result in
    let inside : n < length ds = omega (arith, c.loop-count.invariant.inside) in
    let next : n + 1 ≡ c.loop-count.count = omega arith in
    record {
      inside = omega (arith, c.loop-count.invariant.inside);
      scopes = λ ks outer s.
          let known : Text → List Declaration → List Known = λ t ds. record { name = t; fixed = c.args.fixed } ∷ (known_as c.args.fixed (declared ds) ++ ks) in
          let all = drop_here ds n d inside c.index-declarations-count.is ∙ ap (λ m. d ∷ drop m ds) next in
          subst (λ (ds : List Declaration). IsScopes c.declare.new.self (known_as c.args.fixed (declared ds) ++ ks) outer) (sym all)
          (subst (λ (t : Text). IsScopes c.declare.new.self (known t (drop c.loop-count.count ds)) outer) (c.as_slice.ensures ∙ ap (λ (d : Declaration). d.name) (sym c.index-declarations-count.is))
          (c.in_ok-declare.ensures (known_as c.args.fixed (declared (drop c.loop-count.count ds)) ++ ks) outer (c.loop-count.invariant.scopes ks outer s)));
    }

pub returns : goal.returns
returns c = λ ks outer s.
    let none : c.loop-count.count ≡ 0 = omega arith in
    subst (λ m. IsScopes c.loop-count.self (known_as c.args.fixed (declared (drop m c.args.declarations.now)) ++ ks) outer) none (c.loop-count.invariant.scopes ks outer s)
