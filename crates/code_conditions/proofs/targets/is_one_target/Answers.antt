use Rattle.std.proofs.Common.{◌≡◌, None, is_some, true≢false, sym, ap, ◌∙◌}
use Rattle.std.specs.Option.{option_and_then}
use Rattle.class_table.specs.Finding.{named_in}
use Rattle.class_table.specs.View.{class_at}
use Rattle.class_table.proofs.Found.{class_named-named_in}
use Rattle.class_questions.proofs.ChainLaws.{named-slot}
use Rattle.code_conditions.proofs.targets.is_one_target.Goals as goal

pub returns-in-None : goal.returns-in-None
returns-in-None c =
    let s = c.args.image.now in
    let n = c.args.method.now.class in
    let none : named_in s.classes s.class_order n ≡ None = sym c.class_named.ensures ∙ c.in-None.is in
    absurd (true≢false (sym c.requires.class ∙ ap is_some (class_named-named_in s n ∙ ap (option_and_then (class_at s)) none)))

pub is_one_target-requires-clause-live : goal.is_one_target-requires-clause-live
is_one_target-requires-clause-live c =
    let s = c.args.image.now in
    (named-slot s.classes s.class_order c.args.method.now.class c.in-Some.class (sym c.class_named.ensures ∙ c.in-Some.is)).0

pub returns-in-Some : goal.returns-in-Some
returns-in-Some c =
    let s = c.args.image.now in
    c.is_one_target.ensures c.args.method.now.class
    (named-slot s.classes s.class_order c.args.method.now.class c.in-Some.class (sym c.class_named.ensures ∙ c.in-Some.is)).1
