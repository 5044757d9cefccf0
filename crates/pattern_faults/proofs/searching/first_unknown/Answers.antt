use Rattle.std.proofs.Common.{◌≡◌, true, false, sym, ◌∙◌, arith, rules}
use Rattle.std.proofs.lemmas.Grind.{common_steps}
use Rattle.pattern_faults.proofs.Again.{unknown_passed, unknown_here}
use Rattle.pattern_faults.proofs.searching.first_unknown.Goals as goal

pub returns-then-not-is_among : goal.returns-then-not-is_among
returns-then-not-is_among c =
    let is : false ≡ c.is_among.result = first_of (search rules, grind (arith, common_steps), cc) in
    sym (unknown_here c.args.known.now c.args.placed.now c.loop-place.place-index c.place-item.result c.loop-place-test.true c.place-item.is (is ∙ c.is_among.ensures)) ∙ c.loop-place.invariant

pub loop-place-preserved : goal.loop-place-preserved
loop-place-preserved c =
    let is : true ≡ c.is_among.result = first_of (search rules, grind (arith, common_steps), cc) in
    sym (unknown_passed c.args.known.now c.args.placed.now c.loop-place.place-index c.place-item.result c.loop-place-test.true c.place-item.is (is ∙ c.is_among.ensures)) ∙ c.loop-place.invariant
