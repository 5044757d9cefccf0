use Rattle.std.proofs.Common.{ap, sym, ◌∙◌}
use Rattle.std.specs.Option.{option_copied}
use Rattle.class_table.specs.View.{live_at}
use Rattle.part_witnesses.specs.Held.{IsHeld}
use Rattle.part_witnesses.proofs.InSlots.{none-held, held-told, is-held, of-found}
use Rattle.part_witnesses.proofs.held.slot_method.Goals as goal

pub returns-in_default-clause-method : goal.returns-in_default-clause-method
returns-in_default-clause-method g c =
    let s = c.args.image.now in
    none-held s (live_at s.methods s.method_order c.args.slot) c.in_default.ensures

pub returns-clause-method : goal.returns-clause-method
returns-clause-method g c =
    let s = c.args.image.now in
    held-told s c.in-Some.info c.in-Some-open_body.tree c.args.slot (live_at s.methods s.method_order c.args.slot) c.in-Some.ensures (sym (ap option_copied c.in-Some-open_body.is) ∙ c.open_body.ensures.tree)

pub returns-clause-held : goal.returns-clause-held
returns-clause-held g c x e =
    let s = c.args.image.now in
    of-found (IsHeld s) _ x e (is-held s c.requires c.in-Some.info c.in-Some-open_body.tree c.args.slot c.in-Some.ensures (sym (ap option_copied c.in-Some-open_body.is) ∙ c.open_body.ensures.tree))
