use Rattle.code_conditions.proofs.HighAtPlaces.{none-told, kernel-told, stays-told, made-told}
use Rattle.code_conditions.proofs.abstracted.is_slot_high.Goals as goal

pub returns-in_default : goal.returns-in_default
returns-in_default g c = none-told c.args.image.now c.args.abstraction.now c.args.slot c.in_default.ensures

pub returns-then-info : goal.returns-then-info
returns-then-info g c = kernel-told c.args.image.now c.args.abstraction.now c.args.slot c.in-Some.info c.in-Some.ensures c.if-info.true

pub returns-in_default-made : goal.returns-in_default-made
returns-in_default-made g c =
    stays-told c.args.image.now c.args.abstraction.now c.args.slot c.in-Some.info c.in-Some.ensures c.in-Some-open_body.old c.in-Some-open_body.ensures.tree c.if-info.false
    c.in_ok-made.made c.in_ok-made.ensures c.in_default-made.is

pub returns : goal.returns
returns g c =
    made-told c.args.image.now c.args.abstraction.now c.args.slot c.in-Some.info c.in-Some.ensures c.in-Some-open_body.old c.in-Some-open_body.ensures.tree c.if-info.false
    c.in_ok-made.made c.in_ok-made.ensures c.in-Some-made.tree c.in-Some-made.is c.is_high.result c.is_high.ensures
