use Rattle.std.proofs.Common.{◌≡◌, refl, sym, subst, arith}
use Rattle.std.specs.Prelude.{IsTrue, ◌↔◌}
use Rattle.pattern_model.specs.Bindings.{bare_bound}
use Rattle.pattern_match.specs.declared.standing.Place.{Place}
use Rattle.pattern_match.specs.Gathering.{bound_from}
use Rattle.pattern_match.proofs.FirstPlaces.{own_first, as_first}
use Rattle.pattern_match.proofs.agreeing.is_as_first.Goals as goal

pub returns-then-earlier : goal.returns-then-earlier
returns-then-earlier c =
    as_first c.args.places.now c.args.at c.index-places-at.result c.requires c.index-places-at.is c.first_place-first.result c.first_place-first.ensures c.index-places-first.result c.same_standing.result (omega arith) c.index-places-first.is
    (subst (λ (q : Place). IsTrue c.same_standing.result ↔ (bare_bound (bound_from q.bound) ≡ bare_bound (bound_from c.index-places-at.result.bound))) (sym c.index-places-first.is) c.same_standing.ensures)

pub returns-else-earlier : goal.returns-else-earlier
returns-else-earlier c =
    (λ _. own_first c.args.places.now c.args.at c.index-places-at.result c.requires c.index-places-at.is c.first_place-first.result c.first_place-first.ensures (λ h. omega (arith, h)), λ _. refl)
