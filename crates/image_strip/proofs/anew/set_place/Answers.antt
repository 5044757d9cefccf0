use Rattle.std.proofs.Common.{◌≡◌, ℕ, ◌<◌, List, ap, subst, ◌∙◌, arith}
use Rattle.std.specs.Prelude.{if◌then◌else◌, nat_eq, slice_set}
use Rattle.image_strip.specs.Anew.{place_in}
use Rattle.image_strip.proofs.Places.{place-push, place-set}
use Rattle.image_strip.proofs.anew.set_place.Goals as goal

pub loop-places-preserved : goal.loop-places-preserved
loop-places-preserved c = λ n.
    ap (λ (xs : List ℕ). place_in xs n) c.in_ok-push.ensures.items ∙ place-push c.loop-places.places.items n ∙ c.loop-places.invariant n

pub returns : goal.returns
returns c =
    let same : c.id.inside.0 ≡ c.args.id = omega (arith, c.id.view_is) in
    subst (λ (m : ℕ). (k : ℕ) → place_in (slice_set c.loop-places.places.items c.id.inside.0 c.args.place) k ≡ (if nat_eq k m then c.args.place else place_in c.args.places.now.items k)) same
    (place-set c.args.places.now.items c.loop-places.places.items c.id.inside.0 c.args.place
    (subst (λ (m : ℕ). c.id.inside.0 < m) (c.len.ensures ∙ c.loop-places.places.ok.0) c.loop-places-test.false) c.loop-places.invariant)
