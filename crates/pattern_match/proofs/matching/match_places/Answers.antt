use Rattle.std.proofs.Common.{◌≡◌, List, [], map, Some, sym, ap, ◌∙◌}
use Rattle.pattern_model.specs.MatchTree.{where_holds}
use Rattle.pattern_match.specs.declared.standing.Place.{Place}
use Rattle.pattern_match.specs.Gathering.{place_of, state_of}
use Rattle.pattern_match.specs.FirstPlaces.{agrees}
use Rattle.pattern_match.proofs.Matched.{match_misses, match_whole}
use Rattle.pattern_match.proofs.matching.match_places.Goals as goal

pub returns-then-not-fits : goal.returns-then-not-fits
returns-then-not-fits c =
    let start : state_of record { steps = c.new-steps.result; found = c.new-found.result } ≡ ([], []) = λ i. (c.new-steps.ensures.items i, map place_of (c.new-found.ensures.items i)) in
    match_misses c.args.names.now c.args.pattern.now c.args.node.now _ (state_of c.node_places.new.walk) start c.in_ok-fits.fits c.in_ok-fits.ensures c.if-not-fits.true

pub returns-then-equal : goal.returns-then-equal
returns-then-equal c =
    let start : state_of record { steps = c.new-steps.result; found = c.new-found.result } ≡ ([], []) = λ i. (c.new-steps.ensures.items i, map place_of (c.new-found.ensures.items i)) in
    sym (match_whole c.args.names.now c.args.pattern.now c.args.node.now _ (state_of c.node_places.new.walk) start c.in_ok-fits.fits c.in_ok-fits.ensures c.if-not-fits.false c.agree-equal.result (c.agree-equal.ensures ∙ ap (λ (ps : List Place). agrees (map place_of ps)) c.deref.ensures.value)
    ∙ ap (λ b. where_holds b (Some (map place_of c.node_places.new.walk.found.items))) c.if-equal.true)

pub returns : goal.returns
returns c =
    let start : state_of record { steps = c.new-steps.result; found = c.new-found.result } ≡ ([], []) = λ i. (c.new-steps.ensures.items i, map place_of (c.new-found.ensures.items i)) in
    sym (match_whole c.args.names.now c.args.pattern.now c.args.node.now _ (state_of c.node_places.new.walk) start c.in_ok-fits.fits c.in_ok-fits.ensures c.if-not-fits.false c.agree-equal.result (c.agree-equal.ensures ∙ ap (λ (ps : List Place). agrees (map place_of ps)) c.deref.ensures.value)
    ∙ ap (λ b. where_holds b (Some (map place_of c.node_places.new.walk.found.items))) c.if-equal.false)
