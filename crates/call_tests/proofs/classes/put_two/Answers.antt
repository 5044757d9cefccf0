use Rattle.call_tests.proofs.Family.{from_ok, SuperclassesFirst-built}
use Rattle.std.proofs.Common.{sym, ◌∙◌}
use Rattle.call_tests.proofs.classes.put_two.Goals as goal

pub returns : goal.returns
returns c =
    SuperclassesFirst-built c.args.image.now c.add_class.new.self c.add_class-2.new.self c.class-first.result c.class-second.result c.requires.none c.requires.order
    (from_ok c.add_class.result (sym c.is_err.ensures.value ∙ c.if-is_err.false) c.add_class.ensures.ok) (from_ok c.add_class-2.result (sym c.is_err-2.ensures.value ∙ c.if-is_err-2.false) c.add_class-2.ensures.ok) c.class-first.ensures
    c.class-second.ensures
