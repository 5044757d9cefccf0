use Rattle.std.proofs.Common.{ℕ, Option, ap, sym, ◌∙◌}
use Rattle.std.specs.Prelude.{nat_eq}
use Rattle.std.specs.List.{list_any}
use Rattle.image_model.specs.Chain.{chain}
use Rattle.rename_model.specs.Conditions.{defines}
use Rattle.class_table.specs.View.{number_image}
use Rattle.class_questions.proofs.ChainLaws.{named-slot, unnamed-chain}
use Rattle.class_questions.proofs.chains.is_defined_above.Goals as goal

pub returns-in-None : goal.returns-in-None
returns-in-None c =
    let s = c.args.image.now in
    sym (ap (list_any (defines nat_eq c.args.variable)) (unnamed-chain s c.args.class (sym c.class_named.ensures ∙ c.in-None.is)))

pub stands_above-requires-clause-live : goal.stands_above-requires-clause-live
stands_above-requires-clause-live c =
    let s = c.args.image.now in
    (named-slot s.classes s.class_order c.args.class c.in-Some.id (sym c.class_named.ensures ∙ c.in-Some.is)).0

pub returns-in-Some : goal.returns-in-Some
returns-in-Some c =
    let s = c.args.image.now in
    let named = (named-slot s.classes s.class_order c.args.class c.in-Some.id (sym c.class_named.ensures ∙ c.in-Some.is)).1 in
    c.stands_above.ensures ∙ ap (λ (o : Option ℕ). list_any (defines nat_eq c.args.variable) (chain nat_eq (number_image s).classes o)) named
