use Rattle.reference_index.proofs.CodePlaces.{without_code, index-without_code, differs-from_none}
use Rattle.reference_index.proofs.index.build.Goals as goal

pub returns-clause-index : goal.returns-clause-index
returns-clause-index g c =
    c.in_ok-update.ensures.ok (without_code c.args.image.now)
    (rw c.new-index.ensures (index-without_code c.args.image.now))
    (rw c.deref.ensures.value (differs-from_none c.args.image.now c.in_ok-places.places.items c.in_ok-places.ensures.all))
