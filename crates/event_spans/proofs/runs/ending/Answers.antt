-- A node that ends elsewhere is passed.
use Rattle.std.proofs.Common.{◌≡◌, ◌+◌, false, arith, ap, ◌∙◌}
use Rattle.std.specs.Prelude.{◌==◌}
use Rattle.std.proofs.lemmas.Bool.Decides.{nat_tests}
use Rattle.event_spans.specs.Runs.{roots, ending}
use Rattle.event_spans.proofs.RootsPassed.{Passed, ending-passed}
use Rattle.event_spans.proofs.runs.ending.Goals as goal

pub roots-preserved : goal.roots-preserved
roots-preserved c =
    let w : Passed c.roots.rest.now c.in-Some.place.now c.behind-rest.result.now = record { more = c.in-Some.more.now; whole = c.in-Some.ensures.cases.0; behind = c.behind-rest.ensures } in
    let f : (c.in-Some.place.now.to == c.args.to) ≡ false = grind (arith, nat_tests) in
    let n : c.roots.number + 1 ≡ c.in_ok-number.number = grind (arith, c.in_ok-number.ensures.ok_part, c.checked_add.ensures) in
    c.roots.invariant ∙ ending-passed c.roots.number c.args.to c.roots.rest.now c.in-Some.place.now c.behind-rest.result.now w f ∙ ap (λ m. ending m c.args.to (roots 0 c.behind-rest.result.now)) n
