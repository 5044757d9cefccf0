use Rattle.std.proofs.Common.{is_some, not, ap, sym, ◌∙◌}
use Rattle.method_questions.proofs.AfterFacts.{found-there, before-there, none-before, none-after, both-found}
use Rattle.method_questions.proofs.unreached.finds_another.Goals as goal

pub is_same_after-requires-clause-slot : goal.is_same_after-requires-clause-slot
is_same_after-requires-clause-slot g c = before-there c.args.image.now c.requires.orderly c.args.moved.now c.args.class c.in-Some.slot (sym c.lookup.ensures ∙ c.in-Some.is)

pub is_same_after-requires-clause-after : goal.is_same_after-requires-clause-after
is_same_after-requires-clause-after g c = (found-there c.args.image.now c.requires.orderly c.args.moved.now c.args.class c.requires.live c.in-Some-after.after (sym c.found_after-after.ensures ∙ c.in-Some-after.is)).live

pub returns-in-None : goal.returns-in-None
returns-in-None g c =
    c.is_some.ensures ∙ ap is_some c.found_after-after.ensures ∙ none-before c.args.image.now c.requires.orderly c.args.moved.now c.args.class c.requires.live (sym c.lookup.ensures ∙ c.in-None.is)

pub returns-in-None-after : goal.returns-in-None-after
returns-in-None-after g c = none-after c.args.image.now c.requires.orderly c.args.moved.now c.args.class c.in-Some.slot (sym c.lookup.ensures ∙ c.in-Some.is) (sym c.found_after-after.ensures ∙ c.in-None-after.is)

pub returns-in_ok-is_same_after-in-Some-after : goal.returns-in_ok-is_same_after-in-Some-after
returns-in_ok-is_same_after-in-Some-after g c =
    ap not c.in_ok-is_same_after-in-Some-after.ensures
    ∙ both-found c.args.image.now c.requires.orderly c.args.moved.now c.args.class c.in-Some.slot c.in-Some-after.after c.requires.live (sym c.lookup.ensures ∙ c.in-Some.is) (sym c.found_after-after.ensures ∙ c.in-Some-after.is)
