use Rattle.composites.proofs.Upwards.{methods-pushed}
use Rattle.composites.proofs.steps.push_with_methods.Goals as goal

pub returns : goal.returns
returns g c =
    methods-pushed c.args.image.now c.requires.orderly c.args.class c.args.variable c.new-commands.result.items c.put.new.commands.items c.put_method_pushes.new.commands.items
    c.new-commands.ensures.items c.in_ok-put.ensures c.in_ok-put_method_pushes.ensures
