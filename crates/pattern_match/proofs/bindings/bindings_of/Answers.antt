use Rattle.std.proofs.Common.{◌≡◌, List, length, map, ap, ◌∙◌, arith}
use Rattle.pattern_match.specs.declared.bindings.Held.{Held}
use Rattle.pattern_match.specs.Gathering.{place_of}
use Rattle.pattern_match.specs.Bound.{held_of, with_others}
use Rattle.pattern_match.proofs.FirstPlaces.{count_places}
use Rattle.pattern_match.proofs.FirstBindings.{all_bound}
use Rattle.pattern_match.proofs.bindings.bindings_of.Goals as goal

pub loop-i-init : goal.loop-i-init
loop-i-init c = ap (λ (bs : List Held). with_others (map place_of c.args.places.now) 0 (map held_of bs)) c.new-bindings.ensures.items

pub loop-i-preserved : goal.loop-i-preserved
loop-i-preserved c = c.in_ok-bind.ensures ∙ c.loop-i.invariant

pub returns : goal.returns
returns c =
    let e : length (map place_of c.args.places.now) ≡ length c.args.places.now = count_places c.args.places.now in
    all_bound (map place_of c.args.places.now) c.loop-i.i (map held_of c.loop-i.bindings.items) (omega (arith, e)) c.loop-i.invariant
