use Rattle.std.proofs.Common.{◌≡◌, map, length, arith, ap, ◌∙◌}
use Rattle.std.proofs.lemmas.Grind.{common_steps}
use Rattle.std.proofs.lemmas.List.{length-map}
use Rattle.std.proofs.lemmas.List.Elements.{Contains-append_left}
use Rattle.mentions.proofs.Lists.{Contains-mapped}
use Rattle.class_table.specs.declared.record.Place.TheVariants as place
use Rattle.reference_index.proofs.CodePlaces.{names-nowhere, doits-more}
use Rattle.use_index.proofs.CodePlaces.{uses-nowhere}
use Rattle.use_index.proofs.index.places_of.Goals as goal

pub loop-number-preserved : goal.loop-number-preserved
loop-number-preserved c = (
  (λ p h. rw c.in_ok-push-2.ensures.items (Contains-append_left _ _ p (c.loop-number.invariant.0 p h))),
  (λ n h. rw c.in_ok-push-2.ensures.items (doits-more c.loop-number.places.items c.loop-number.number c.loop-number.invariant.1 n h)),
  grind (arith, common_steps),
)

pub returns-clause-names : goal.returns-clause-names
returns-clause-names c =
    let slots : c.loop-slot.places.items ≡ map place.Method c.args.image.now.method_order = grind (arith, common_steps) in
    names-nowhere c.args.image.now c.loop-number.places.items
    (λ k h. c.loop-number.invariant.0 (place.Method k) (rw slots (Contains-mapped place.Method c.args.image.now.method_order k h)))
    (λ n h. c.loop-number.invariant.1 n (omega arith))

pub returns-clause-uses : goal.returns-clause-uses
returns-clause-uses c =
    let slots : c.loop-slot.places.items ≡ map place.Method c.args.image.now.method_order = grind (arith, common_steps) in
    uses-nowhere c.args.image.now c.loop-number.places.items
    (λ k h. c.loop-number.invariant.0 (place.Method k) (rw slots (Contains-mapped place.Method c.args.image.now.method_order k h)))
    (λ n h. c.loop-number.invariant.1 n (omega arith))

pub returns-clause-length : goal.returns-clause-length
returns-clause-length c =
    let slots : c.loop-slot.places.items ≡ map place.Method c.args.image.now.method_order = grind (arith, common_steps) in
    let length-slots : length c.loop-slot.places.items ≡ length c.args.image.now.method_order = ap length slots ∙ length-map c.args.image.now.method_order place.Method in
    omega arith
