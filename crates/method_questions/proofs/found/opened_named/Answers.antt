use Rattle.std.proofs.Common.{option_map, ap, sym, ◌∙◌}
use Rattle.std.specs.Option.{option_and_then}
use Rattle.method_questions.specs.Found.{opened_at, as_entry}
use Rattle.method_questions.proofs.OwnMethods.{opened-named}
use Rattle.method_questions.proofs.found.opened_named.Goals as goal

pub returns-in_err-slot-clause-method : goal.returns-in_err-slot-clause-method
returns-in_err-slot-clause-method g c =
    let s = c.args.image.now in
    ap (option_map (as_entry s.classes)) c.from_residual.ensures
    ∙ ap (option_and_then (opened_at s)) (sym c.in_err-slot.was ∙ c.named_slot.ensures)
    ∙ opened-named s c.requires c.args.method.meta c.args.method.selector c.args.method.class

pub returns-clause-method : goal.returns-clause-method
returns-clause-method g c =
    let s = c.args.image.now in
    c.opened.ensures.method
    ∙ ap (option_and_then (opened_at s)) (sym c.in_ok-slot.was ∙ c.named_slot.ensures)
    ∙ opened-named s c.requires c.args.method.meta c.args.method.selector c.args.method.class
