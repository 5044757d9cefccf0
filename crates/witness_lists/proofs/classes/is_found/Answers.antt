use Rattle.std.proofs.Common.{◌≡◌, false, Some, Option, option_copied, ap, sym, ◌∙◌}
use Rattle.std.specs.Prelude.{nat_eq}
use Rattle.std.specs.Option.{option_map_or}
use Rattle.rename_model.specs.NamesThere.{is_named_by_class}
use Rattle.class_table.specs.declared.record.ClassRec.{ClassRec}
use Rattle.class_table.specs.View.{class_of, live_at}
use Rattle.class_questions.specs.LiveClasses.{is_live_that}
use Rattle.witness_lists.specs.Classes.{is_sought}
use Rattle.witness_lists.specs.declared.classes.ClassTest.{ClassTest}
use Rattle.witness_lists.proofs.classes.is_found.Goals as goal

pub returns-in-Some : goal.returns-in-Some
returns-in-Some c =
    let s = c.args.image.now in
    let told : live_at s.classes s.class_order c.args.id ≡ Some c.in-Some.rec.now = sym c.class_rec.ensures ∙ ap option_copied c.in-Some.is in
    c.is_named.ensures
    ∙ sym (ap (λ (t : ClassTest). is_live_that (is_sought t) s c.args.id) c.in-Named.is
    ∙ ap (λ (o : Option ClassRec). option_map_or (λ (d : ClassRec). is_named_by_class nat_eq c.in-Named.name (class_of s.classes d)) o false) told)
