use Rattle.std.proofs.Common.{ap, sym, subst, ◌∙◌}
use Rattle.class_table.specs.View.{number_image}
use Rattle.commands.specs.Views.{asked_by, command_of}
use Rattle.commands.specs.declared.command.Command.{Command}
use Rattle.refusal_witnesses.specs.Refused.{is_moved_there}
use Rattle.use_witnesses.specs.Reached.{LeadsAfter}
use Rattle.use_witnesses.proofs.reached.moved_by.Goals as goal

pub returns-in-AddMethod-clause-there : goal.returns-in-AddMethod-clause-there
returns-in-AddMethod-clause-there g c =
    let s = c.args.image.now in
    c.moved_new.ensures.there ∙ ap (λ (x : Command). is_moved_there (asked_by s.names) (number_image s) (command_of x)) (sym c.in-AddMethod.is)

pub returns-in-AddMethod-clause-moved : goal.returns-in-AddMethod-clause-moved
returns-in-AddMethod-clause-moved g c = λ v e. subst (λ (x : Command). LeadsAfter c.args.image.now v (command_of x)) (sym c.in-AddMethod.is) (c.moved_new.ensures.moved v e)

pub returns-in-PushUpMethod-clause-there : goal.returns-in-PushUpMethod-clause-there
returns-in-PushUpMethod-clause-there g c =
    let s = c.args.image.now in
    c.moved_up.ensures.there ∙ ap (λ (x : Command). is_moved_there (asked_by s.names) (number_image s) (command_of x)) (sym c.in-PushUpMethod.is)

pub returns-in-PushUpMethod-clause-moved : goal.returns-in-PushUpMethod-clause-moved
returns-in-PushUpMethod-clause-moved g c = λ v e. subst (λ (x : Command). LeadsAfter c.args.image.now v (command_of x)) (sym c.in-PushUpMethod.is) (c.moved_up.ensures.moved v e)

pub returns-in-PushDownMethod-clause-there : goal.returns-in-PushDownMethod-clause-there
returns-in-PushDownMethod-clause-there g c =
    let s = c.args.image.now in
    c.moved_down.ensures.there ∙ ap (λ (x : Command). is_moved_there (asked_by s.names) (number_image s) (command_of x)) (sym c.in-PushDownMethod.is)

pub returns-in-PushDownMethod-clause-moved : goal.returns-in-PushDownMethod-clause-moved
returns-in-PushDownMethod-clause-moved g c = λ v e. subst (λ (x : Command). LeadsAfter c.args.image.now v (command_of x)) (sym c.in-PushDownMethod.is) (c.moved_down.ensures.moved v e)
