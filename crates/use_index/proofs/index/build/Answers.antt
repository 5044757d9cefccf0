use Rattle.reference_index.proofs.CodePlaces.{without_code}
use Rattle.use_index.proofs.CodePlaces.{index-of_nothing, differs-from_none}
use Rattle.use_index.proofs.index.build.Goals as goal

pub returns-clause-index : goal.returns-clause-index
returns-clause-index g c =
    c.in_ok-update.ensures.ok (without_code c.args.image.now)
    (rw c.new-index.ensures (index-of_nothing c.args.image.now))
    (rw c.deref.ensures.value (differs-from_none c.args.image.now c.in_ok-places.places.items c.in_ok-places.ensures.names c.in_ok-places.ensures.uses))
