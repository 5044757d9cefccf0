use Rattle.std.proofs.Common.{option_map, ap, sym, ◌∙◌}
use Rattle.std.specs.Option.{option_and_then}
use Rattle.class_table.specs.View.{entry_of, live_at}
use Rattle.inline_questions.proofs.Targeted.{held-found}
use Rattle.part_witnesses.proofs.sending.target_of.Goals as goal

pub returns-in-None-clause-target : goal.returns-in-None-clause-target
returns-in-None-clause-target g c =
    let s = c.args.image.now in
    let m = c.args.method.now in
    λ n named.
    ap (option_and_then (λ j. option_map (entry_of s.classes) (live_at s.methods s.method_order j))) (sym c.in-None.is ∙ c.lookup.ensures)
    ∙ held-found s c.requires.orderly m.info.class c.requires.held.live n named m.info.meta c.args.sent.now.selector

pub returns-in-Some-clause-target : goal.returns-in-Some-clause-target
returns-in-Some-clause-target g c =
    let s = c.args.image.now in
    let m = c.args.method.now in
    λ n named.
    c.slot_method.ensures.method
    ∙ ap (option_and_then (λ j. option_map (entry_of s.classes) (live_at s.methods s.method_order j))) (sym c.in-Some.is ∙ c.lookup.ensures)
    ∙ held-found s c.requires.orderly m.info.class c.requires.held.live n named m.info.meta c.args.sent.now.selector
