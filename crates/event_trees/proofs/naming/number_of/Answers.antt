use Rattle.std.proofs.Common.{◌≡◌, Some, slice_get, ap, ◌∙◌}
use Rattle.std.proofs.lemmas.Result.{IfOk-weaker, on_ok_weaker}
use Rattle.rb_base.specs.Names.{number_in}
use Rattle.event_trees.proofs.Known.{text_of_number, Adds-number}
use Rattle.event_trees.proofs.naming.number_of.Goals as goal

pub returns-clause-number : goal.returns-clause-number
returns-clause-number c =
    IfOk-weaker c.intern.result (λ n. Some n ≡ number_in c.intern.new.self c.as_slice.result.now) (λ n. slice_get c.intern.new.self n ≡ Some c.args.name.now)
    (λ n e. text_of_number c.intern.new.self c.args.name.now n (e ∙ ap (number_in c.intern.new.self) c.as_slice.ensures)) c.intern.ensures.number

pub returns-clause-adds : goal.returns-clause-adds
returns-clause-adds c = on_ok_weaker c.intern.result (λ e. Adds-number c.args.names.now c.intern.new.self c.as_slice.result.now c.args.name.now e c.as_slice.ensures) c.intern.ensures.ok
