use Rattle.std.proofs.Common.{sym, ◌∙◌}
use Rattle.st_literals.proofs.Capped.{with_radix}
use Rattle.st_literals.proofs.numerals.unsigned.Goals as goal

pub returns-then-has_radix : goal.returns-then-has_radix
returns-then-has_radix c =
    with_radix c.args.text.now c.radix_place-at.result c.digits-base.result c.digits.result (sym c.has_radix.ensures ∙ c.if-has_radix.true) c.radix_place-at.ensures.place
    c.digits-base.ensures c.digits.ensures
