-- A node that begins elsewhere is passed.
use Rattle.std.proofs.Common.{◌≡◌, ℕ, ◌+◌, true, false, arith, ap, sym, ◌∙◌}
use Rattle.std.specs.Prelude.{◌==◌, option_map}
use Rattle.std.proofs.lemmas.Bool.Decides.{nat_tests}
use Rattle.event_spans.specs.Runs.{roots, run_of}
use Rattle.event_spans.proofs.RootsPassed.{Passed, run-passed, run-found}
use Rattle.event_spans.proofs.runs.run_in.Goals as goal

pub returns-in-Some-2 : goal.returns-in-Some-2
returns-in-Some-2 c =
    let w : Passed c.roots.rest.now c.in-Some.place.now c.behind-rest.result.now = record { more = c.in-Some.more.now; whole = c.in-Some.ensures.cases.0; behind = c.behind-rest.ensures } in
    let f : (c.in-Some.place.now.from == c.args.span.from) ≡ true = grind (arith, nat_tests) in
    sym (c.roots.invariant ∙ run-found c.roots.first c.args.span c.roots.rest.now c.in-Some.place.now c.behind-rest.result.now w f
    ∙ ap (option_map (λ (count : ℕ). record { first = c.roots.first; count = count })) (sym c.in_ok-count.ensures ∙ c.in-Some-2.is))

pub returns-in-None : goal.returns-in-None
returns-in-None c =
    let w : Passed c.roots.rest.now c.in-Some.place.now c.behind-rest.result.now = record { more = c.in-Some.more.now; whole = c.in-Some.ensures.cases.0; behind = c.behind-rest.ensures } in
    let f : (c.in-Some.place.now.from == c.args.span.from) ≡ true = grind (arith, nat_tests) in
    sym (c.roots.invariant ∙ run-found c.roots.first c.args.span c.roots.rest.now c.in-Some.place.now c.behind-rest.result.now w f
    ∙ ap (option_map (λ (count : ℕ). record { first = c.roots.first; count = count })) (sym c.in_ok-count.ensures ∙ c.in-None.is))

pub roots-preserved : goal.roots-preserved
roots-preserved c =
    let w : Passed c.roots.rest.now c.in-Some.place.now c.behind-rest.result.now = record { more = c.in-Some.more.now; whole = c.in-Some.ensures.cases.0; behind = c.behind-rest.ensures } in
    let f : (c.in-Some.place.now.from == c.args.span.from) ≡ false = grind (arith, nat_tests) in
    let n : c.roots.first + 1 ≡ c.in_ok-first.first = grind (arith, c.in_ok-first.ensures.ok_part, c.checked_add.ensures) in
    c.roots.invariant ∙ run-passed c.roots.first c.args.span c.roots.rest.now c.in-Some.place.now c.behind-rest.result.now w f ∙ ap (λ m. run_of m c.args.span (roots 0 c.behind-rest.result.now)) n
