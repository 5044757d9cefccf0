use Rattle.std.proofs.Common.{map}
use Rattle.commands.specs.Views.{condition_of}
use Rattle.conditions.specs.Unnamed.{unnamed_at}
use Rattle.conditions.proofs.Unnamed.{last-unnamed, unnamed-there}
use Rattle.conditions.proofs.parameters.put_unnamed.Goals as goal

pub returns : goal.returns
returns c =
    let s = c.args.image.now in
    last-unnamed (unnamed_at s c.args.selector c.args.name) c.methods-slots.result.now s.method_order c.loop-slot.slot-index (map condition_of c.loop-slot.conditions.items) (map condition_of c.args.conditions.now.items) _ c.loop-slot-test.false c.loop-slot.invariant
    c.methods-slots.ensures.value (unnamed-there s c.args.selector c.args.name c.requires)
