use Rattle.std.proofs.Common.{refl, map, arith}
use Rattle.pattern_match.specs.Bound.{held_of}
use Rattle.pattern_match.proofs.FirstBindings.{bound_already, bound_now}
use Rattle.pattern_match.proofs.bindings.bind.Goals as goal

pub returns-then-earlier : goal.returns-then-earlier
returns-then-earlier c =
    bound_already c.args.places.now c.args.at c.index-places-at.result c.requires c.index-places-at.is c.first_place-first.result c.first_place-first.ensures (map held_of c.args.bindings.now.items) (omega arith)

pub returns : goal.returns
returns c =
    bound_now c.args.places.now c.args.at c.index-places-at.result c.requires c.index-places-at.is c.first_place-first.result c.first_place-first.ensures c.args.bindings.now.items c.push.new.self.items
    (record { meta = record { kind = c.index-places-at.result.meta.kind; name = c.index-places-at.result.meta.name; doubled = c.is_doubled-doubled.result }; bound = c.in_ok-bound.bound })
    (λ h. omega (arith, h)) c.in_ok-push.ensures.items refl refl c.is_doubled-doubled.ensures c.in_ok-bound.ensures
