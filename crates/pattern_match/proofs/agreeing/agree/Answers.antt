use Rattle.std.proofs.Common.{◌≡◌, length, map, true≢false, sym, ◌∙◌, arith}
use Rattle.pattern_match.specs.Gathering.{place_of}
use Rattle.pattern_match.proofs.FirstPlaces.{agree_more, agree_fails, agree_ends, count_places}
use Rattle.pattern_match.proofs.agreeing.agree.Goals as goal

pub loop-i-init : goal.loop-i-init
loop-i-init c = λ h. h

pub loop-i-preserved : goal.loop-i-preserved
loop-i-preserved c =
    let e : length (map place_of c.args.places.now) ≡ length c.args.places.now = count_places c.args.places.now in
    agree_more (map place_of c.args.places.now) c.loop-i.i (omega (arith, e)) (c.is_as_first.ensures.0 c.if-not-is_as_first.false) c.loop-i.invariant

pub returns-then-not-is_as_first : goal.returns-then-not-is_as_first
returns-then-not-is_as_first c =
    let e : length (map place_of c.args.places.now) ≡ length c.args.places.now = count_places c.args.places.now in
    agree_fails (map place_of c.args.places.now) c.loop-i.i (omega (arith, e)) (λ h. true≢false (sym (c.is_as_first.ensures.1 h) ∙ c.if-not-is_as_first.true))

pub returns : goal.returns
returns c =
    let e : length (map place_of c.args.places.now) ≡ length c.args.places.now = count_places c.args.places.now in
    agree_ends (map place_of c.args.places.now) c.loop-i.i (omega (arith, e)) c.loop-i.invariant
