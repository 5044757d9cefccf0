use Rattle.code_conditions.proofs.HighAtPlaces.{doit-stays-told, doit-made-told}
use Rattle.code_conditions.proofs.abstracted.is_number_high.Goals as goal

pub returns-in_default-made : goal.returns-in_default-made
returns-in_default-made g c =
    doit-stays-told c.args.image.now c.args.abstraction.now c.args.number c.in-Some.old c.in-Some.ensures.body c.in_ok-made.made c.in_ok-made.ensures c.in_default-made.is

pub returns : goal.returns
returns g c =
    doit-made-told c.args.image.now c.args.abstraction.now c.args.number c.in-Some.old c.in-Some.ensures.body c.in_ok-made.made c.in_ok-made.ensures c.in-Some-made.body c.in-Some-made.is
    c.is_high.result c.is_high.ensures
