use Rattle.std.proofs.Common.{option_map, ap, sym, ◌∙◌}
use Rattle.std.specs.Option.{option_and_then}
use Rattle.inline_questions.specs.Codes.{entry_in, opened_at}
use Rattle.inline_questions.proofs.Targeted.{opened-found}
use Rattle.inline_questions.proofs.code.target_of.Goals as goal

pub returns-in_err-slot-clause-target : goal.returns-in_err-slot-clause-target
returns-in_err-slot-clause-target g c =
    let s = c.args.image.now in
    λ n named.
    ap (option_map (entry_in s)) c.from_residual.ensures
    ∙ ap (option_and_then (opened_at s)) (sym c.in_err-slot.was ∙ c.lookup.ensures)
    ∙ opened-found s c.requires.orderly c.args.method.now.class c.requires.live n named c.args.method.now.meta c.args.sent.now.selector

pub returns-clause-target : goal.returns-clause-target
returns-clause-target g c =
    let s = c.args.image.now in
    λ n named.
    c.opened.ensures.method
    ∙ ap (option_and_then (opened_at s)) (sym c.in_ok-slot.was ∙ c.lookup.ensures)
    ∙ opened-found s c.requires.orderly c.args.method.now.class c.requires.live n named c.args.method.now.meta c.args.sent.now.selector
